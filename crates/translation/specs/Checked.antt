-- What is promised of the module of a plan: its size, its layout, and that it keeps the rules of the check.
use Rattle.std.specs.Prelude.{◌≡◌, ℕ, suc, ◌+◌, ◌*◌, ◌^◌, ◌<◌, ◌≤◌, true, List, [], ◌∷◌, length, slice_index_or, None}
use Rattle.isa.specs.Registers.{registers}
use Rattle.isa.specs.Words.{first_word, second_word, well_formed, kind_of}
use Rattle.rules.specs.Notes.{Kind}
use Rattle.rules.specs.Limits.{Limits}
use Rattle.rules.specs.Cards.{Block, Card}
use Rattle.rules.specs.Module.{size, instr, Keeps}
use Rattle.language.specs.Plans.{Plan}
use Rattle.language.specs.Limits.{need, repeats, Within, in_force}
use Rattle.translation.specs.Compile.{compiled}

-- starts rise strictly from `low` on and lie below n
abbrev pub Rising : ℕ → ℕ → List Block → Type 0
Rising low n [] = Unit {0}
Rising low n (b ∷ bs) = (low ≤ b.start) × (b.start < n) × Rising (suc b.start) n bs

abbrev pub AllFree : Card → Type 0
AllFree K = (r : ℕ) → slice_index_or K r None ≡ None

-- the first block starts at 0 and its card is all free; the others rise above it, below n
abbrev pub Blocks : ℕ → List Block → Type 0
Blocks n [] = ⊥
Blocks n (b ∷ bs) = (b.start ≡ 0) × (AllFree b.card) × (0 < n) × Rising 1 n bs

-- the words of an instruction are read as it, and are well formed
abbrev pub Readable : Kind → Type 0
Readable i = (kind_of (first_word i) (second_word i) ≡ i) × (well_formed (first_word i) (second_word i) ≡ true)

pub record Checked (P : Plan) : Type 0 where
  -- as many instructions as the plan needs
  pub size_is : size (compiled P) ≡ need P
  -- two blocks for each REPEAT, and one more
  pub blocks_are : length (compiled P).blocks ≡ 1 + 2 * repeats P
  -- registers are 0 to 31
  pub fields : (p : ℕ) → registers (instr (compiled P) p) ≤ 32
  -- the numbers that instructions hold are words
  pub numbers : (p : ℕ) → second_word (instr (compiled P) p) < 2 ^ 32
  pub readable : (p : ℕ) → Readable (instr (compiled P) p)
  pub starts : Blocks (size (compiled P)) (compiled P).blocks
  -- every rule of the check is kept, however long a queue is allowed
  pub rules : (L : Limits) → 1 ≤ L.queue → Keeps L (compiled P)

abbrev pub CodeChecked : Type 0
CodeChecked = (P : Plan) → Within in_force P → Checked P
