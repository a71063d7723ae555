-- The tables of a plan: what their entries refer to and need, and where their expressions begin. Must be believed.
use Rattle.std.specs.Prelude.{ℕ, suc, ◌+◌, ◌<◌, ◌≤◌, max, List, [], ◌∷◌, ◌++◌, map, length, slice_index_or}
use Rattle.plan.specs.declared.tree.Expression.{Expression}
use Rattle.plan.specs.declared.tree.Node.{Node}
use Rattle.plan.specs.declared.tree.Node.TheVariants.{Number, Variable, Cell, Binary}
use Rattle.plan.specs.declared.tree.Statement.{Statement}
use Rattle.plan.specs.declared.tree.Statement.TheVariants.{Let, Put, Repeat, End}

-- a node refers to entries below this number
abbrev pub reach : Node → ℕ
reach (Number n) = 0
reach (Variable v) = 0
reach (Cell x) = suc x.index
reach (Binary o x y) = max (suc x.index) (suc y.index)

-- each node refers to earlier ones
abbrev pub Closed : List Node → Type 0
Closed ns = (k : ℕ) → k < length ns → reach (slice_index_or ns k (Number 0)) ≤ k

-- the expressions of a statement are entries below this number
abbrev pub roots : Statement → ℕ
roots (Let v e) = suc e.root.index
roots (Put a e) = max (suc a.root.index) (suc e.root.index)
roots (Repeat e body) = suc e.root.index
roots (End body) = 0

-- the expressions of each statement are among the first n nodes
abbrev pub Rooted : ℕ → List Statement → Type 0
Rooted n ss = (k : ℕ) → k < length ss → roots (slice_index_or ss k (End 0)) ≤ n

-- a sum over statements
abbrev pub total : (Statement → ℕ) → List Statement → ℕ
total f [] = 0
total f (s ∷ ss) = f s + total f ss

-- the instructions that a statement needs beside two for each of its nodes
abbrev pub own : Statement → ℕ
own (Let v e) = 2
own (Put a e) = 2
own (Repeat e body) = 14
own (End body) = 0

-- 1 for a REPEAT
abbrev pub loop : Statement → ℕ
loop (Let v e) = 0
loop (Put a e) = 0
loop (Repeat e body) = 1
loop (End body) = 0

-- the expressions of a statement, in the order of the text
abbrev pub parts : Statement → List Expression
parts (Let v e) = e ∷ []
parts (Put a e) = a ∷ e ∷ []
parts (Repeat e body) = e ∷ []
parts (End body) = []

abbrev pub all_parts : List Statement → List Expression
all_parts [] = []
all_parts (s ∷ ss) = parts s ++ all_parts ss

-- the bytes at which they begin
abbrev pub places : List Statement → List ℕ
places ss = map (λ e. e.place) (all_parts ss)
