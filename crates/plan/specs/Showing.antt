-- Inner: what the tables stand for while a plan is read. Whatever lines come after them complete the plan. No public contract cites it.
use Rattle.std.specs.Prelude.{◌≡◌, ℕ, ◌+◌, ◌*◌, ◌<◌, ◌≤◌, List, [], ◌∷◌, ◌++◌, length}
use Rattle.language.specs.Limits.{needs, nodes}
use Rattle.language.specs.Plans.{Tree, Plan, assign, store}
use Rattle.grammar.proofs.Acceptor.{Base, top, body, plain}
use Rattle.plan.specs.declared.repeats.OpenRepeat.{OpenRepeat}
use Rattle.plan.specs.declared.tree.Expression.{Expression}
use Rattle.plan.specs.declared.tree.Node.{Node}
use Rattle.plan.specs.declared.tree.NodeId.{NodeId}
use Rattle.plan.specs.declared.tree.Statement.{Statement}
use Rattle.plan.specs.declared.tree.Statement.TheVariants.{Let, Put, Repeat, End}
use Rattle.plan.specs.Listing.{Means, Lists}
use Rattle.plan.specs.Trees.{tree_at}

-- a table with more nodes, the trees of the others as they were
pub record Extends (ns ms : List Node) : Type 0 where
  pub more : length ns ≤ length ms
  pub kept : (x : NodeId) → x.index < length ns → tree_at ms x ≡ tree_at ns x

-- a REPEAT with this body; any other statement as it is
abbrev pub with_body : Statement → ℕ → Statement
with_body (Let v e) n = Let v e
with_body (Put a e) n = Put a e
with_body (Repeat e old) n = Repeat e n
with_body (End old) n = End old

-- the statements ss make of a plan behind them the plan f p, and need n instructions
pub record Prefix (ns : List Node) (ss : List Statement) (f : Plan → Plan) (n : ℕ) : Type 0 where
  pub lists : (ms : List Node) → Extends ns ms → (rest : List Statement) (p : Plan) → Lists ms rest p → Lists ms (ss ++ rest) (f p)
  pub costs : (p : Plan) → needs (f p) ≡ n + needs p

-- the statements so far, with these REPEATs open, and the instructions that they need
pub data Shows : List Node → List Statement → ℕ → List OpenRepeat → Base → Type 0 where
  at_top : {ns : List Node} {ss : List Statement} {n : ℕ} {f : Plan → Plan} → Prefix ns ss f n → Shows ns ss n [] (top f)
  in_repeat : {ns : List Node} {ss bs : List Statement} {n m : ℕ} {x : Expression} {t : Tree} {f : Plan → Plan} {os : List OpenRepeat} {K : Base} →
      Shows ns ss n os K → Means ns x t → (o : OpenRepeat) → o.statement ≡ length ss → o.need ≡ n + (2 * nodes t + 14) → Prefix ns bs f m →
      Shows ns (ss ++ (Repeat x 0 ∷ bs)) (o.need + m) (os ++ (o ∷ [])) (body f t K)

-- a LET or a PUT: what it makes of the plan behind it, and how many nodes it has
abbrev pub IsLine : Statement → Type 0
IsLine (Let v x) = Unit {0}
IsLine (Put a x) = Unit {0}
IsLine (Repeat x n) = ⊥
IsLine (End n) = ⊥

abbrev pub doing : List Node → Statement → Plan → Plan
doing ns (Let v x) = assign v.number (tree_at ns x.root)
doing ns (Put a x) = store (tree_at ns a.root) (tree_at ns x.root)
doing ns (Repeat x n) = plain
doing ns (End n) = plain

abbrev pub weigh : List Node → Statement → ℕ
weigh ns (Let v x) = nodes (tree_at ns x.root)
weigh ns (Put a x) = nodes (tree_at ns a.root) + nodes (tree_at ns x.root)
weigh ns (Repeat x n) = 0
weigh ns (End n) = 0
