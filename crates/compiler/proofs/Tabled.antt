-- The tree of an entry of a table, by those of the entries that it refers to.
use Rattle.std.proofs.Common.{◌≡◌, ℕ, zero, suc, ◌+◌, ◌<◌, ◌≤◌, List, [], ◌∷◌, ◌++◌, length, get_or, sym, refl, ap, ◌∙◌, arith}
use Rattle.std.proofs.lemmas.List.{get_or_append_left, get_or_push, length_push, get_or_default}
use Rattle.language.specs.Limits.{width}
use Rattle.language.specs.Plans.{Tree, number, variable, cell, node}
use Rattle.plan.specs.declared.tree.Node.{Node}
use Rattle.plan.specs.declared.tree.Node.TheVariants.{Number, Variable, Cell, Binary}
use Rattle.plan.specs.declared.tree.NodeId.{NodeId}
use Rattle.plan.specs.Trees.{tree_of, grow, trees, tree_at}
use Rattle.plan.specs.Tables.{reach, Closed}

tree-same : (ts us : List Tree) (n : Node) (m : ℕ) → reach n ≤ m → ((i : ℕ) → i < m → get_or us i (number 0) ≡ get_or ts i (number 0)) → tree_of us n ≡ tree_of ts n
tree-same ts us (Number n) m h f = refl
tree-same ts us (Variable v) m h f = refl
tree-same ts us (Cell x) m h f = ap cell (f x.index (omega arith))
tree-same ts us (Binary o x y) m h f =
    ap (λ t. node o t (get_or us y.index (number 0))) (f x.index (omega arith)) ∙ ap (node o (get_or ts x.index (number 0))) (f y.index (omega arith))

grow-kept : (ts : List Tree) (ns : List Node) (i : ℕ) → i < length ts → get_or (grow ts ns) i (number 0) ≡ get_or ts i (number 0)
grow-kept ts [] i h = refl
grow-kept ts (n ∷ ns) i h =
    grow-kept (ts ++ (tree_of ts n ∷ [])) ns i (omega (arith, length_push ts (tree_of ts n))) ∙ get_or_append_left ts (tree_of ts n ∷ []) (number 0) i h

grow-at : (ts : List Tree) (ns : List Node) (k : ℕ) → k < length ns → ((j : ℕ) → j < length ns → reach (get_or ns j (Number 0)) ≤ length ts + j) →
    get_or (grow ts ns) (length ts + k) (number 0) ≡ tree_of (grow ts ns) (get_or ns k (Number 0))
grow-at ts [] k h c = absurd (omega arith)
grow-at ts (n ∷ ns) zero h c =
    let us = ts ++ (tree_of ts n ∷ []) in
    let z : length ts + 0 ≡ length ts = omega arith in
    let l = length_push ts (tree_of ts n) in
    ap (λ i. get_or (grow us ns) i (number 0)) z ∙ grow-kept us ns (length ts) (omega arith) ∙ get_or_push ts (tree_of ts n) (number 0) (length ts) refl
    ∙ sym (tree-same ts (grow us ns) n (length ts) (omega (arith, c 0 (omega arith))) (λ i g. grow-kept us ns i (omega arith) ∙ get_or_append_left ts (tree_of ts n ∷ []) (number 0) i g))
grow-at ts (n ∷ ns) (suc k) h c =
    let us = ts ++ (tree_of ts n ∷ []) in
    let l = length_push ts (tree_of ts n) in
    let z : length ts + suc k ≡ length us + k = omega arith in
    ap (λ i. get_or (grow us ns) i (number 0)) z ∙ grow-at us ns k (omega arith) (λ j g. omega (arith, c (suc j) (omega arith)))

pub entry-tree : (ns : List Node) (x : NodeId) → Closed ns → x.index < length ns → tree_at ns x ≡ tree_of (trees ns) (get_or ns x.index (Number 0))
unfolding trees
entry-tree ns x c h = let z : x.index ≡ 0 + x.index = omega arith in
    ap (λ i. get_or (grow [] ns) i (number 0)) z ∙ grow-at [] ns x.index h (λ j g. omega (arith, c j g))

-- an entry that was read
pub record Entry (ns : List Node) (x : NodeId) (n : Node) : Type 0 where
  pub tree_is : tree_at ns x ≡ tree_of (trees ns) n
  pub before : reach n ≤ x.index

pub entry : (ns : List Node) (x : NodeId) (r n : Node) → Closed ns → x.index < length ns → r ≡ get_or ns x.index r → r ≡ n → Entry ns x n
entry ns x r n c h e f =
    let g : get_or ns x.index (Number 0) ≡ n = sym (get_or_default ns x.index r (Number 0) h) ∙ sym e ∙ f in
    record { tree_is = entry-tree ns x c h ∙ ap (tree_of (trees ns)) g; before = omega (arith, c x.index h, ap reach g) }

pub some-width : (t : Tree) → 1 ≤ width t
some-width (number n) = omega arith
some-width (variable v) = omega arith
some-width (cell t) = some-width t
some-width (node o t u) = omega (arith, some-width t)
