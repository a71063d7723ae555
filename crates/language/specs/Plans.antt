-- Plans of the language, as trees.
use Rattle.std.specs.Prelude.{ℕ}
use Rattle.isa.specs.declared.kinds.Arithmetic.{Arithmetic}

-- an expression: a number, a variable (A is 0, F is 5), the cell at an address, or an operation on two expressions
pub data Tree : Type 0 where
  number : ℕ → Tree
  variable : ℕ → Tree
  cell : Tree → Tree
  node : Arithmetic → Tree → Tree → Tree

-- a list of statements, each with the plan behind it: nothing; LET v = e; PUT a , e; REPEAT e with the lines up to its END
pub data Plan : Type 0 where
  done : Plan
  assign : ℕ → Tree → Plan → Plan
  store : Tree → Tree → Plan → Plan
  again : Tree → Plan → Plan → Plan
