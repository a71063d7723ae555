-- What a plan means: the stores that it makes, and how it ends.
use Rattle.std.specs.Prelude.{ℕ, zero, suc, Bool, cond, List, [], ◌∷◌, ◌++◌}
use Rattle.isa.specs.Words.{alu}
use Rattle.memory.specs.Cells.{replaced}
use Rattle.language.specs.Plans.{Tree, number, variable, cell, node, Plan, done, assign, store, again}

-- a store: the word for an address
pub record Store : Type 0 where
  pub address : ℕ
  pub word : ℕ

-- where a plan has come to: the variables, the cells, and the stores made so far, in order
pub record Book : Type 0 where
  pub vars : ℕ → ℕ
  pub cells : ℕ → ℕ
  pub made : List Store

-- how a plan comes out: at its end, or at a store whose cell is not writable
pub data Result : Type 0 where
  fine : Book → Result
  stuck : Book → Result

-- the value of an expression; arithmetic is modulo 2^32
abbrev pub value : Tree → (ℕ → ℕ) → (ℕ → ℕ) → ℕ
value (number n) vars cells = n
value (variable v) vars cells = vars v
value (cell e) vars cells = cells (value e vars cells)
value (node o e f) vars cells = alu o (value e vars cells) (value f vars cells)

abbrev pub value_in : Tree → Book → ℕ
value_in e s = value e s.vars s.cells

-- a variable set
abbrev pub assigned : Book → ℕ → ℕ → Book
assigned s v x = record { vars = replaced s.vars v x; cells = s.cells; made = s.made }

-- one store more
abbrev pub written : Book → ℕ → ℕ → Book
written s a x = record { vars = s.vars; cells = replaced s.cells a x; made = s.made ++ (record { address = a; word = x } ∷ []) }

-- what is stuck stays so
abbrev pub and_then : Result → (Book → Result) → Result
and_then (fine s) f = f s
and_then (stuck s) f = stuck s

-- n times
abbrev pub times : (Book → Result) → ℕ → Book → Result
times f zero s = fine s
times f (suc n) s = and_then (f s) (λ t. times f n t)

-- where a plan comes to from s; the cells at which w is true are writable. The count of a REPEAT is evaluated once.
abbrev pub meaning : (ℕ → Bool) → Plan → Book → Result
meaning w done s = fine s
meaning w (assign v e P) s = meaning w P (assigned s v (value_in e s))
meaning w (store a e P) s = cond (w (value_in a s)) (meaning w P (written s (value_in a s) (value_in e s))) (stuck s)
meaning w (again e B P) s = and_then (times (λ t. meaning w B t) (value_in e s) s) (λ t. meaning w P t)

-- the variables start at 0
abbrev pub blank : (ℕ → ℕ) → Book
blank cells = record { vars = λ v. 0; cells = cells; made = [] }

abbrev pub book_of : Result → Book
book_of (fine s) = s
book_of (stuck s) = s

-- 1 at the end of the plan, 2 at a cell that is not writable
abbrev pub ending : Result → ℕ
ending (fine s) = 1
ending (stuck s) = 2

-- what a plan does over these cells
abbrev pub outcome : (ℕ → Bool) → Plan → (ℕ → ℕ) → Result
outcome w P cells = meaning w P (blank cells)
