-- The trees that the nodes of a table stand for. Must be believed.
use Rattle.std.specs.Prelude.{List, [], ◌∷◌, ◌++◌, slice_index_or}
use Rattle.language.specs.Plans.{Tree, number, variable, cell, node}
use Rattle.plan.specs.declared.tree.Node.{Node}
use Rattle.plan.specs.declared.tree.Node.TheVariants.{Number, Variable, Cell, Binary}
use Rattle.plan.specs.declared.tree.NodeId.{NodeId}

-- the tree of a node, by those of the nodes before it
abbrev pub tree_of : List Tree → Node → Tree
tree_of ts (Number n) = number n
tree_of ts (Variable v) = variable v.number
tree_of ts (Cell x) = cell (slice_index_or ts x.index (number 0))
tree_of ts (Binary o x y) = node o (slice_index_or ts x.index (number 0)) (slice_index_or ts y.index (number 0))

abbrev pub grow : List Tree → List Node → List Tree
grow ts [] = ts
grow ts (n ∷ ns) = grow (ts ++ (tree_of ts n ∷ [])) ns

-- the tree of each node
unfoldable pub trees : List Node → List Tree
trees ns = grow [] ns

-- the tree of one entry
abbrev pub tree_at : List Node → NodeId → Tree
tree_at ns x = slice_index_or (trees ns) x.index (number 0)
