-- Inner: the widths of a table's trees, and the first expression that is too wide.
use Rattle.std.specs.Prelude.{◌≡◌, ℕ, ◌+◌, ◌<◌, max, cond, List, [], ◌∷◌, length, Some, None, Option, nat_lt, slice_index, slice_index_or}
use Rattle.language.specs.Limits.{width}
use Rattle.language.specs.Plans.{number}
use Rattle.plan.specs.declared.tree.Expression.{Expression}
use Rattle.plan.specs.declared.tree.Node.{Node}
use Rattle.plan.specs.declared.tree.Node.TheVariants.{Number, Variable, Cell, Binary}
use Rattle.plan.specs.Trees.{trees}

-- the width of a node, by those of the nodes before it
abbrev pub width_by : List ℕ → Node → ℕ
width_by ws (Number n) = 1
width_by ws (Variable v) = 1
width_by ws (Cell x) = slice_index ws x.index
width_by ws (Binary o x y) = max (slice_index ws x.index) (slice_index ws y.index + 1)

-- these are the widths of the trees of the first nodes
abbrev pub Measured : List Node → List ℕ → Type 0
Measured ns ws = (k : ℕ) → k < length ws → slice_index ws k ≡ width (slice_index_or (trees ns) k (number 0))

-- the byte at which the first expression that is too wide begins
abbrev pub first_wide : List ℕ → List Expression → Option ℕ
first_wide ws [] = None
first_wide ws (e ∷ es) = cond (nat_lt 5 (slice_index ws e.root.index)) (Some e.place) (first_wide ws es)

-- the largest width of these expressions
abbrev pub widest_of : List ℕ → List Expression → ℕ
widest_of ws [] = 0
widest_of ws (e ∷ es) = max (slice_index ws e.root.index) (widest_of ws es)
