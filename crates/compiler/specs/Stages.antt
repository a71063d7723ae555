-- Inner: a module as far as its words are laid.
use Rattle.std.specs.Prelude.{◌≡◌, ℕ, ◌+◌, ◌*◌, ◌/◌, ◌%◌, ◌<◌, ◌≤◌, Bool, true, List, [], length, drop, slice_index_or, refl, None}
use Rattle.isa.specs.Words.{kind_of, well_formed, first_word, second_word}
use Rattle.isa.specs.Layout.{byte, slot_byte}
use Rattle.rules.specs.Notes.{Kind, halt}
use Rattle.rules.specs.Cards.{Block}
use Rattle.rules.specs.Module.{Module}
use Rattle.translation.specs.Cards.{card}

-- the instruction with number p; the start and the card of block b
abbrev pub kind_in : (ℕ → ℕ) → ℕ → Kind
kind_in f p = kind_of (f (2 + 2 * p)) (f (2 + 2 * p + 1))

abbrev pub formed_in : (ℕ → ℕ) → ℕ → Bool
formed_in f p = well_formed (f (2 + 2 * p)) (f (2 + 2 * p + 1))

abbrev pub start_in : (ℕ → ℕ) → ℕ → ℕ → ℕ
start_in f n b = f (2 + 2 * n + 9 * b)

abbrev pub byte_in : (ℕ → ℕ) → ℕ → ℕ → ℕ → ℕ
byte_in f n b r = byte (f (3 + 2 * n + 9 * b + r / 4)) (r % 4)

-- the words of the instruction with number p are k's
abbrev pub Holds : (ℕ → ℕ) → ℕ → Kind → Type 0
Holds f p k = (f (2 + 2 * p) ≡ first_word k) × (f (2 + 2 * p + 1) ≡ second_word k)

-- the words of an instruction are well formed, and are read back as it
pub record Good (k : Kind) : Type 0 where
  pub back : kind_of (first_word k) (second_word k) ≡ k
  pub formed : well_formed (first_word k) (second_word k) ≡ true

-- block b is B
pub record Shows (f : ℕ → ℕ) (n b : ℕ) (B : Block) : Type 0 where
  pub start_is : B.start ≡ start_in f n b
  pub bytes : (k : ℕ) → k < 32 → slot_byte (slice_index_or B.card k None) ≡ byte_in f n b k

-- p instructions of D and b blocks of BS are laid, ks and bs are still to come; n is the count of instructions
pub record Stage (n : ℕ) (D : List Kind) (BS : List Block) (d : Block) (old f : ℕ → ℕ) (p b : ℕ) (ks : List Kind) (bs : List Block) : Type 0 where
  pub code_left : drop p D ≡ ks
  pub code : (k : ℕ) → k < p → (slice_index_or D k halt ≡ kind_in f k) × (formed_in f k ≡ true)
  pub held : (k : ℕ) → k < p → Holds f k (slice_index_or D k halt)
  pub blocks_left : drop b BS ≡ bs
  pub blocks : (c : ℕ) → c < b → Shows f n c (slice_index_or BS c d)
  -- the words behind are as they were
  pub kept : (j : ℕ) → 2 + 2 * n + 9 * b ≤ j → f j ≡ old j
  pub low : p ≤ n
  pub few : b ≤ length BS
  pub long : p ≤ length D

-- a block that is not there
abbrev pub missing : Block
missing = record { start = 0; card = card 0; full = refl }

-- all but the counts of a module of n instructions and b blocks is laid
abbrev pub Laid : ℕ → Module → (ℕ → ℕ) → (ℕ → ℕ) → ℕ → Type 0
Laid n m old f b = Stage n m.code m.blocks missing old f n b [] []
