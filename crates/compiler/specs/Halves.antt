-- Nodes of which a part of the code is still to come: what the functions that emit an expression tell each other.
use Rattle.std.specs.Prelude.{◌≡◌, ℕ, ◌+◌, ◌*◌, ◌<◌, ◌≤◌, List, [], ◌∷◌, ◌++◌, length, vec_len}
use Rattle.stack.specs.declared.slots.Stack.{Stack}
use Rattle.stack.specs.Items.{items, room as slots_of}
use Rattle.language.specs.Limits.{nodes, width}
use Rattle.plan.specs.declared.tree.Node.{Node}
use Rattle.plan.specs.declared.tree.NodeId.{NodeId}
use Rattle.plan.specs.Tables.{Closed}
use Rattle.plan.specs.Trees.{tree_at}
use Rattle.translation.specs.Code as over
use Rattle.compiler.specs.declared.half.Half.{Half}
use Rattle.compiler.specs.declared.half.Half.TheVariants.{Whole, Load, Operate}
use Rattle.compiler.specs.declared.lines.Lines.{Lines}
use Rattle.compiler.specs.Emitting.{Coming, Adds, one, computed}

module _ (ns : List Node) where
  -- the code of a half
  abbrev pub halved : Half → Coming → Coming
  halved (Whole x t) K = computed t.number (tree_at ns x) K
  halved (Load t) K = one (over.set t.number (over.fetch t.number)) K
  halved (Operate o t u) K = one (over.set t.number (over.calc o t.number u.number)) K

  -- the code of the halves on a stack: the newest comes first
  abbrev pub pending : List Half → Coming → Coming
  pending [] K = K
  pending (h ∷ hs) K = pending hs (halved h K)

  -- the lines of a half
  abbrev pub line_count : Half → ℕ
  line_count (Whole x t) = nodes (tree_at ns x)
  line_count (Load t) = 1
  line_count (Operate o t u) = 1

  -- more than the halves that it is taken apart into
  abbrev pub weight : Half → ℕ
  weight (Whole x t) = 2 * nodes (tree_at ns x)
  weight (Load t) = 1
  weight (Operate o t u) = 1

  abbrev pub total : (Half → ℕ) → List Half → ℕ
  total f [] = 0
  total f (h ∷ hs) = f h + total f hs

  -- the twins from its own on can hold its values
  abbrev pub Fit : Half → Type 0
  Fit (Whole x t) = (x.index < length ns) × (t.number + width (tree_at ns x) ≤ 16)
  Fit (Load t) = Unit {0}
  Fit (Operate o t u) = Unit {0}

  abbrev pub AllFit : List Half → Type 0
  AllFit [] = Unit {0}
  AllFit (h ∷ hs) = Fit h × AllFit hs

  -- it is taken apart where its lines and its parts have room, and the nodes are a plan's
  pub record FitsHalf (s : Lines) (st : Stack Half) (h : Half) : Type 0 where
    pub closed : Closed ns
    pub fit : Fit h
    pub room : vec_len s.lines + line_count h ≤ 511
    pub slots : length (items st) + weight h ≤ slots_of st

  -- an expression, at line p, for twin t, over so many slots
  pub record FitsExpression (slots p t : ℕ) (x : NodeId) : Type 0 where
    pub closed : Closed ns
    pub inside : x.index < length ns
    pub narrow : t + width (tree_at ns x) ≤ 16
    pub room : p + nodes (tree_at ns x) ≤ 511
    pub enough : 1024 ≤ slots

  -- of a half some lines are emitted, and the parts of the rest are put on the stack
  pub record Goes (s t : Lines) (before after : List Half) (h : Half) : Type 0 where
    pub parts : List Half
    pub kept : after ≡ before ++ parts
    pub made : Coming → Coming
    pub count : ℕ
    pub adds : Adds s t made count
    pub code : (K : Coming) → made (pending parts K) ≡ halved h K
    pub lines : count + total line_count parts ≡ line_count h
    pub lighter : total weight parts < weight h
    pub fits : AllFit parts
