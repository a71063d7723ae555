-- A worked example: add 5 to each of three cells, from the one whose address is in cell 0 on.
--     LET A = [0]
--     REPEAT 3
--     PUT A , [A] + 5
--     LET A = A + 1
--     END
use Rattle.std.specs.Prelude.{ℕ, Bool, [], ◌∷◌, nat_lt, slice_index}
use Rattle.isa.specs.declared.kinds.Arithmetic.TheVariants.{Add}
use Rattle.language.specs.Plans.{number, variable, cell, node, Plan, done, assign, store, again}
use Rattle.language.specs.Meaning.{Result, outcome}

abbrev pub sample : Plan
sample =
    assign 0 (cell (number 0))
    (again (number 3) (store (variable 0) (node Add (cell (variable 0)) (number 5)) (assign 0 (node Add (variable 0) (number 1)) done)) done)

-- cells 1, 10, 20, 30, of which four are writable, and no other
abbrev pub cells : ℕ → ℕ
cells a = slice_index (1 ∷ 10 ∷ 20 ∷ 30 ∷ []) a

abbrev pub writable : ℕ → Bool
writable a = nat_lt a 4

abbrev pub comes : Result
comes = outcome writable sample cells
