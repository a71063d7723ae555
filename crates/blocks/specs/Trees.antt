-- The trees that the entries of a table stand for.
pub use Rattle.blocks.specs.declared.node.Id.{Id}
pub use Rattle.blocks.specs.declared.node.Node.{Node}
pub use Rattle.blocks.specs.declared.node.Node.TheVariants.{Number, Variable, Op, Load}
use Rattle.std.specs.Prelude.{◌≡◌, ℕ, suc, ◌+◌, ◌<◌, ◌≤◌, max, List, [], ◌∷◌, ◌++◌, length, Some, None, Option, ◌==◌, slice_index_or}
use Rattle.rules.specs.Limits.{in_force}
use Rattle.rules.specs.Expressions.{Expr, num, var, op, load, same?, Numeral, none, is}

-- the tree of the entry x, E being the trees of all entries
abbrev pub at : List Expr → Id → Expr
at E x = slice_index_or E x.index (num 0)

-- the tree of a node, E being the trees of the entries before it
abbrev pub tree_of : List Expr → Node → Expr
tree_of E (Number n) = num n
tree_of E (Variable v) = var v
tree_of E (Op o x y) = op o (at E x) (at E y)
tree_of E (Load k x) = load k (at E x)

abbrev pub trees_from : List Expr → List Node → List Expr
trees_from E [] = E
trees_from E (n ∷ ns) = trees_from (E ++ (tree_of E n ∷ [])) ns

-- the tree of each entry, in their order
unfoldable pub trees : List Node → List Expr
trees ns = trees_from [] ns

-- a node refers to entries below this number
abbrev pub reach : Node → ℕ
reach (Number m) = 0
reach (Variable v) = 0
reach (Op o x y) = max (suc x.index) (suc y.index)
reach (Load k x) = suc x.index

-- each entry refers to earlier ones
abbrev pub Closed : List Node → Type 0
Closed ns = (k : ℕ) → k < length ns → reach (slice_index_or ns k (Number 0)) ≤ k

-- no tree stands twice: two entries have the same tree exactly when they are one
abbrev pub Once : List Expr → Type 0
Once E = (i j : ℕ) → (i < length E) × (j < length E) → same? (slice_index_or E i (num 0)) (slice_index_or E j (num 0)) ≡ (i == j)

-- the entries that there were have their trees still
abbrev pub Kept : List Expr → List Expr → Type 0
Kept E F = (i : ℕ) → i < length E → slice_index_or F i (num 0) ≡ slice_index_or E i (num 0)

-- the entries of a block: one for each register of its card, and one for each instruction
abbrev pub room : ℕ
room = 32 + in_force.instructions

-- an optional number, as the rules have it
abbrev pub numeral : Option ℕ → Numeral
numeral None = none
numeral (Some n) = is n
