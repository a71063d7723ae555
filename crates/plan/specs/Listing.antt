-- What the tables of a plan stand for: what must be believed of them, with Trees, Tables and Plans.
use Rattle.std.specs.Prelude.{◌≡◌, ℕ, ◌<◌, List, [], ◌∷◌, ◌++◌, length}
use Rattle.language.specs.Limits.{needs}
use Rattle.language.specs.Plans.{Tree, Plan, done, assign, store, again}
use Rattle.grammar.specs.declared.variable.Variable.{Variable}
use Rattle.plan.specs.declared.tree.Expression.{Expression}
use Rattle.plan.specs.declared.tree.Node.{Node}
use Rattle.plan.specs.declared.tree.Statement.{Statement}
use Rattle.plan.specs.declared.tree.Statement.TheVariants.{Let, Put, Repeat, End}
use Rattle.plan.specs.Trees.{tree_at}

-- an expression is an entry of the table, with this tree
pub record Means (ns : List Node) (x : Expression) (t : Tree) : Type 0 where
  pub inside : x.root.index < length ns
  pub is : tree_at ns x.root ≡ t

-- Lists ns ss p: over the nodes ns the statements ss are the plan p; a REPEAT and its END hold what the lines between them need
pub data Lists : List Node → List Statement → Plan → Type 0 where
  no_more : {ns : List Node} → Lists ns [] done
  a_let : {ns : List Node} {v : Variable} {x : Expression} {t : Tree} {ss : List Statement} {p : Plan} →
      Means ns x t → Lists ns ss p → Lists ns (Let v x ∷ ss) (assign v.number t p)
  a_put : {ns : List Node} {a x : Expression} {t u : Tree} {ss : List Statement} {p : Plan} →
      Means ns a t → Means ns x u → Lists ns ss p → Lists ns (Put a x ∷ ss) (store t u p)
  a_repeat : {ns : List Node} {x : Expression} {t : Tree} {n : ℕ} {bs ss : List Statement} {b p : Plan} →
      Means ns x t → Lists ns bs b → needs b ≡ n → Lists ns ss p → Lists ns (Repeat x n ∷ (bs ++ (End n ∷ ss))) (again t b p)
