-- The trees of a table with one node more.
use Rattle.std.proofs.Common.{◌≡◌, ℕ, ◌+◌, ◌<◌, List, [], ◌∷◌, ◌++◌, length, get_or, refl, ap, ◌∙◌, arith, length-append}
use Rattle.std.proofs.lemmas.List.{get_or_append_left, get_or_push}
use Rattle.language.specs.Plans.{Tree, number}
use Rattle.plan.specs.declared.tree.Node.{Node}
use Rattle.plan.specs.Trees.{tree_of, grow, trees}

grow-more : (ts : List Tree) (ns : List Node) (n : Node) → grow ts (ns ++ (n ∷ [])) ≡ grow ts ns ++ (tree_of (grow ts ns) n ∷ [])
grow-more ts [] n = refl
grow-more ts (x ∷ ns) n = grow-more (ts ++ (tree_of ts x ∷ [])) ns n

grow-length : (ts : List Tree) (ns : List Node) → length (grow ts ns) ≡ length ts + length ns
grow-length ts [] = omega arith
grow-length ts (x ∷ ns) = omega (arith, grow-length (ts ++ (tree_of ts x ∷ [])) ns, length-append ts (tree_of ts x ∷ []))

pub trees-length : (ns : List Node) → length (trees ns) ≡ length ns
unfolding trees
trees-length ns = omega (arith, grow-length [] ns)

pub trees-push : (ns : List Node) (n : Node) → trees (ns ++ (n ∷ [])) ≡ trees ns ++ (tree_of (trees ns) n ∷ [])
unfolding trees
trees-push ns n = grow-more [] ns n

pub kept_push : (ns : List Node) (n : Node) (i : ℕ) → i < length ns → get_or (trees (ns ++ (n ∷ []))) i (number 0) ≡ get_or (trees ns) i (number 0)
kept_push ns n i h = ap (λ ts. get_or ts i (number 0)) (trees-push ns n) ∙ get_or_append_left (trees ns) (tree_of (trees ns) n ∷ []) (number 0) i (omega (arith, trees-length ns))

pub tree-push : (ns : List Node) (n : Node) (i : ℕ) → length ns ≡ i → get_or (trees (ns ++ (n ∷ []))) i (number 0) ≡ tree_of (trees ns) n
tree-push ns n i h = ap (λ ts. get_or ts i (number 0)) (trees-push ns n) ∙ get_or_push (trees ns) (tree_of (trees ns) n) (number 0) i (trees-length ns ∙ h)
