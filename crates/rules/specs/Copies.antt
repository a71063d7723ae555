-- What the rules keep apart: the two copies of the code, up to their stores.
use Rattle.std.specs.Prelude.{◌≡◌, ℕ, suc, ◌<◌, true, false, List, [], ◌∷◌, Some, None, Option}
use Rattle.rules.specs.Limits.{Limits}
use Rattle.rules.specs.Expressions.{Expr}
use Rattle.rules.specs.Notes.{Colour, green, blue, Register, Kind, mov, cpy, arith, ld, st, jmp, bz, halt, Static, note_of, expr_of, has?, next}
use Rattle.rules.specs.Cards.{entry, starts?}
use Rattle.rules.specs.Rules.{leaves?}
use Rattle.rules.specs.Module.{Module, size, instr, static, Keeps}

-- the registers that an instruction reads
abbrev pub reads : Kind → List Register
reads (mov c a n) = []
reads (cpy a b) = b ∷ []
reads (arith o a b c) = b ∷ c ∷ []
reads (ld c a b) = b ∷ []
reads (st c a b) = a ∷ b ∷ []
reads (jmp c a) = a ∷ []
reads (bz c a b) = a ∷ b ∷ []
reads halt = []

-- the colour that an instruction names
abbrev pub named : Kind → Option Colour
named (mov c a n) = Some c
named (cpy a b) = None
named (arith o a b c) = None
named (ld c a b) = Some c
named (st c a b) = Some c
named (jmp c a) = Some c
named (bz c a b) = Some c
named halt = None

abbrev pub Agrees : Colour → Option Colour → Type 0
Agrees c None = Unit {0}
Agrees c (Some d) = c ≡ d

-- each of the registers has a note of the colour
abbrev pub AllHave : Colour → Static → List Register → Type 0
AllHave c S [] = Unit {0}
AllHave c S (r ∷ rs) = (has? c (note_of S r) ≡ true) × AllHave c S rs

-- an instruction reads registers of one colour only: of the one that it names, if it names one
pub record OneColour (S : Static) (i : Kind) : Type 0 where
  pub colour : Colour
  pub all : AllHave colour S (reads i)
  pub agrees : Agrees colour (named i)

-- before place p green has stored the word f at the address e
pub record Stated (m : Module) (p : ℕ) (e f : Expr) : Type 0 where
  pub place : ℕ
  pub earlier : place < p
  pub address : Register
  pub word : Register
  pub is : instr m place ≡ st green address word
  pub address_is : expr_of (note_of (static m place) address) ≡ e
  pub word_is : expr_of (note_of (static m place) word) ≡ f

-- control may go elsewhere than to the next place
abbrev pub Turns : Kind → Type 0
Turns (mov c a n) = ⊥
Turns (cpy a b) = ⊥
Turns (arith o a b c) = ⊥
Turns (ld c a b) = ⊥
Turns (st c a b) = ⊥
Turns (jmp green a) = ⊥
Turns (jmp blue a) = Unit {0}
Turns (bz green a b) = ⊥
Turns (bz blue a b) = Unit {0}
Turns halt = Unit {0}

pub record Copies (m : Module) : Type 0 where
  -- no instruction reads a register without a note, or registers of both colours
  pub apart : (p : ℕ) → p < size m → OneColour (static m p) (instr m p)
  -- every store that leaves was stated by both colours, with the same expressions
  pub agreed : (p : ℕ) → p < size m → (a b : Register) → instr m p ≡ st blue a b → Stated m p (expr_of (note_of (static m p) a)) (expr_of (note_of (static m p) b))
  -- nothing is pending where control leaves a block
  pub turned : (p : ℕ) → p < size m → Turns (instr m p) → (static m p).pending ≡ []
  pub ended : (p : ℕ) → p < size m → starts? (entry m.blocks (suc p)) ≡ true → leaves? (instr m p) ≡ false → (next (instr m p) (static m p)).pending ≡ []

-- of every module of which every rule is kept
abbrev pub CopiesStand : Type 0
CopiesStand = (L : Limits) (m : Module) → Keeps L m → Copies m
