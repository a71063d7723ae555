-- The modules of the worked examples, but for S, with which the examples of runs are stated.
use Rattle.std.specs.Prelude.{ℕ, List, [], ◌∷◌, ◌++◌, length, replicate}
use Rattle.isa.specs.declared.kinds.Arithmetic.TheVariants.{Add, Mul}
use Rattle.isa.specs.declared.kinds.Colour.TheVariants.{Green, Blue}
use Rattle.isa.specs.declared.kinds.Register.{Register}
use Rattle.isa.specs.declared.kinds.Kind.{Kind}
use Rattle.isa.specs.declared.kinds.Kind.TheVariants.{Move, Arith, Store, Halt}
use Rattle.isa.specs.Words.{first_word, second_word}

abbrev r : ℕ → Register
r n = record { number = n }

-- the module S, which stores 7 at 5, but blue's store reads green's registers
abbrev pub merged : List Kind
merged = Move Green (r 0) 5 ∷ Move Blue (r 1) 5 ∷ Move Green (r 2) 7 ∷ Move Blue (r 3) 7 ∷ Store Green (r 0) (r 2) ∷ Store Blue (r 0) (r 2) ∷ Halt ∷ []

-- green stores 3 + 4, and blue 7
abbrev pub folded : List Kind
folded =
    Move Green (r 0) 5 ∷ Move Blue (r 1) 5 ∷ Move Green (r 2) 3 ∷ Move Green (r 4) 4 ∷ Arith Add (r 2) (r 2) (r 4) ∷ Move Blue (r 3) 7
    ∷ Store Green (r 0) (r 2) ∷ Store Blue (r 1) (r 3) ∷ Halt ∷ []

-- A is in registers 0 and 1 where the second block starts, behind the first two lines; at address 5 green stores A + A, and blue 2 × A
abbrev pub twice : List Kind
twice =
    Move Green (r 0) 6 ∷ Move Blue (r 1) 6 ∷ Move Green (r 2) 5 ∷ Move Blue (r 3) 5 ∷ Arith Add (r 4) (r 0) (r 0) ∷ Move Blue (r 6) 2
    ∷ Arith Mul (r 5) (r 6) (r 1) ∷ Store Green (r 2) (r 4) ∷ Store Blue (r 3) (r 5) ∷ Halt ∷ []

-- two words an instruction
abbrev code_words : List Kind → List ℕ
code_words [] = []
code_words (k ∷ ks) = first_word k ∷ second_word k ∷ code_words ks

-- the words of a module of one block
abbrev pub one_block : List Kind → List ℕ
one_block code = length code ∷ 1 ∷ (code_words code ++ replicate 9 0)

-- the words of a module of two blocks, the second of which starts at place 2; on its card register 0 is green variable 0, and
-- register 1 blue variable 0
abbrev pub two_blocks : List Kind → List ℕ
two_blocks code = length code ∷ 2 ∷ (code_words code ++ (replicate 9 0 ++ (2 ∷ 0x01810000 ∷ replicate 7 0)))
