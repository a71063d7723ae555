-- The widths of the trees of a table, one after the other.
use Rattle.std.proofs.Common.{◌≡◌, ℕ, ◌+◌, ◌<◌, ◌≤◌, ◌⊎◌, List, [], ◌∷◌, ◌++◌, length, get_or, sym, refl, ap, ◌∙◌, subst, inl, inr, arith}
use Rattle.std.proofs.lemmas.List.{get_or_append_left, get_or_push, get_or_past, length_push}
use Rattle.std.proofs.lemmas.Bool.{cases_lt}
use Rattle.language.specs.Limits.{width}
use Rattle.language.specs.Plans.{number}
use Rattle.plan.specs.declared.tree.Node.{Node}
use Rattle.plan.specs.declared.tree.Node.TheVariants.{Number, Variable, Cell, Binary}
use Rattle.plan.specs.Trees.{tree_of, trees}
use Rattle.plan.specs.Tables.{reach, Closed}
use Rattle.compiler.specs.Widths.{width_by, Measured}
use Rattle.compiler.proofs.Tabled.{entry}

-- a node's width, once those of the nodes before it are known
by_tree : (ns : List Node) (ws : List ℕ) (n : Node) → reach n ≤ length ws → Measured ns ws → width_by ws n ≡ width (tree_of (trees ns) n)
by_tree ns ws (Number n) h m = refl
by_tree ns ws (Variable v) h m = refl
by_tree ns ws (Cell x) h m = m x.index (omega arith)
by_tree ns ws (Binary o x y) h m = omega (arith, m x.index (omega arith), m y.index (omega arith))

module _ (ns : List Node) (ws : List ℕ) (i : ℕ) (r : Node) (w : ℕ) (long : length ws ≡ i) where
  -- one more
  pub measured_more : Closed ns → i < length ns → r ≡ get_or ns i r → w ≡ width_by ws r → Measured ns ws → Measured ns (ws ++ (w ∷ []))
  measured_more c h e v m k l = go (cases_lt k i)
    where
      here : w ≡ width (get_or (trees ns) i (number 0))
      here = let E = entry ns (record { index = i }) r r c h e refl in v ∙ by_tree ns ws r (omega (arith, E.before)) m ∙ sym (ap width E.tree_is)

      go : (k < i) ⊎ (i ≤ k) → get_or (ws ++ (w ∷ [])) k 0 ≡ width (get_or (trees ns) k (number 0))
      go (inl g) = get_or_append_left ws (w ∷ []) 0 k (omega arith) ∙ m k (omega arith)
      go (inr g) =
          let z : k ≡ i = omega (arith, length_push ws w) in
          subst (λ j. get_or (ws ++ (w ∷ [])) j 0 ≡ width (get_or (trees ns) j (number 0))) (sym z) (get_or_push ws w 0 i long ∙ here)

  pub low_more : ((k : ℕ) → get_or ws k 0 ≤ i) → w ≤ i + 1 → (k : ℕ) → get_or (ws ++ (w ∷ [])) k 0 ≤ i + 1
  low_more m h k = go (cases_lt k i)
    where
      go : (k < i) ⊎ (i ≤ k) → get_or (ws ++ (w ∷ [])) k 0 ≤ i + 1
      go (inl g) = omega (arith, get_or_append_left ws (w ∷ []) 0 k (omega arith), m k)
      go (inr g) = past (cases_lt i k)
        where
          past : (i < k) ⊎ (k ≤ i) → get_or (ws ++ (w ∷ [])) k 0 ≤ i + 1
          past (inl f) = omega (arith, get_or_past (ws ++ (w ∷ [])) k 0 (omega (arith, length_push ws w)))
          past (inr f) = omega (arith, get_or_push ws w 0 k (omega arith))
