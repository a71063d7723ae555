-- Code over twins, and its doubling. A twin is a pair of registers that hold the two copies of one word:
-- twin i is green register 2i and blue register 2i + 1.
use Rattle.std.specs.Prelude.{ℕ, zero, suc, List, [], ◌∷◌, refl}
use Rattle.rules.specs.Notes.{Colour, green, blue, Register, Kind, mov, cpy, arith, ld, st, jmp, bz, halt}
use Rattle.rules.specs.Cards.{Block}
use Rattle.rules.specs.Module.{Module}
use Rattle.rules.specs.Expressions.{Arithmetic}
use Rattle.translation.specs.Cards.{card}

-- what a twin is set to: a number, a twin, an operation on two twins, the cell at a twin's value
pub data Source : Type 0 where
  num : ℕ → Source
  copy : ℕ → Source
  calc : Arithmetic → ℕ → ℕ → Source
  fetch : ℕ → Source

-- one instruction over twins: set a twin; store at the address in a twin the word in another; go to the
-- instruction whose number is in a twin; go to the one in the second twin if the first is 0
pub data Single : Type 0 where
  set : ℕ → Source → Single
  store : ℕ → ℕ → Single
  jump : ℕ → Single
  branch : ℕ → ℕ → Single

-- what stands before an instruction: nothing, or the start of a block whose card gives each of the first n twins a variable
pub data Entry : Type 0 where
  inside : Entry
  start : ℕ → Entry

-- instructions over twins, each with what stands before it, and the halt behind them
pub data Code : Type 0 where
  stop : Entry → Code
  line : Entry → Single → Code → Code

-- 2n
abbrev pub twice : ℕ → ℕ
twice zero = zero
twice (suc n) = suc (suc (twice n))

-- the number of a twin's register of a colour
abbrev pub place : Colour → ℕ → ℕ
place green i = twice i
place blue i = suc (twice i)

abbrev pub reg : Colour → ℕ → Register
reg c i = record { number = place c i }

-- one colour's half of an instruction
abbrev pub dye : Colour → Single → Kind
dye c (set a (num n)) = mov c (reg c a) n
dye c (set a (copy b)) = cpy (reg c a) (reg c b)
dye c (set a (calc o b d)) = arith o (reg c a) (reg c b) (reg c d)
dye c (set a (fetch b)) = ld c (reg c a) (reg c b)
dye c (store a b) = st c (reg c a) (reg c b)
dye c (jump a) = jmp c (reg c a)
dye c (branch a b) = bz c (reg c a) (reg c b)

-- each instruction in green and in blue
abbrev pub doubled : Code → List Kind
doubled (stop x) = halt ∷ []
doubled (line x i l) = dye green i ∷ dye blue i ∷ doubled l

-- the block that starts at line p, if one does
abbrev pub block_at : ℕ → Entry → List Block → List Block
block_at p inside bs = bs
block_at p (start n) bs = record { start = twice p; card = card n; full = refl } ∷ bs

-- the blocks of the doubled code whose first line has the number p
abbrev pub blocks_from : ℕ → Code → List Block
blocks_from p (stop x) = block_at p x []
blocks_from p (line x i l) = block_at p x (blocks_from (suc p) l)

abbrev pub build : Code → Module
build l = record { code = doubled l; blocks = blocks_from 0 l }
