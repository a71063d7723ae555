-- Inner: the words of a module as they are laid into an output, which is a word for each index.
use Rattle.std.specs.Prelude.{◌≡◌, ℕ, ◌+◌, ◌-◌, ◌*◌, ◌^◌, cond, ◌&&◌, List, Some, None, Option, nat_le, nat_lt, slice_index}
use Rattle.isa.specs.declared.kinds.Kind.{Kind}
use Rattle.isa.specs.Words.{kind_of, first_word, second_word}
use Rattle.memory.specs.Cells.{replaced}
use Rattle.compiler.specs.declared.line.Line.{Line}
use Rattle.isa.specs.declared.kinds.Colour.TheVariants.{Green, Blue}
use Rattle.compiler.specs.Cards.{twin_bytes}
use Rattle.compiler.specs.Doubling.{dye}

-- the word at each index; 0 past the end
abbrev pub words : List ℕ → ℕ → ℕ
words ws = λ i. slice_index ws i

-- the words of the instruction with number p
abbrev pub placed : (ℕ → ℕ) → ℕ → Kind → ℕ → ℕ
placed f p k = replaced (replaced f (2 + 2 * p) (first_word k)) (2 + 2 * p + 1) (second_word k)

-- the q-th word of the card that gives the first t twins a variable each
abbrev pub card_word : ℕ → ℕ → ℕ
card_word t q = twin_bytes t (2 * q) * 2 ^ 16 + twin_bytes t (2 * q + 1)

-- the first q words of that card, from an index on
abbrev pub carded : (ℕ → ℕ) → ℕ → ℕ → ℕ → ℕ → ℕ
carded f at t q i = cond (nat_le at i && nat_lt i (at + q)) (card_word t (i - at)) (f i)

-- block b, in a module of n instructions: its start and its card
abbrev pub blocked : (ℕ → ℕ) → ℕ → ℕ → ℕ → ℕ → ℕ → ℕ
blocked f n b s t = carded (replaced f (2 + 2 * n + 9 * b) s) (3 + 2 * n + 9 * b) t 8

-- block b if one starts at place p
abbrev pub entered : (ℕ → ℕ) → ℕ → ℕ → ℕ → Option ℕ → ℕ → ℕ
entered f n b p None = f
entered f n b p (Some t) = blocked f n b p t

abbrev pub opens : Option ℕ → ℕ
opens None = 0
opens (Some t) = 1

-- line i: the block that it starts, if it does, and its two instructions
abbrev pub lined : (ℕ → ℕ) → ℕ → ℕ → ℕ → Line → ℕ → ℕ
lined f n b i l = placed (placed (entered f n b (2 * i) l.entry) (2 * i) (dye Green l.single)) (2 * i + 1) (dye Blue l.single)

-- the words of an instruction are read back as it
abbrev pub Back : Kind → Type 0
Back k = kind_of (first_word k) (second_word k) ≡ k
