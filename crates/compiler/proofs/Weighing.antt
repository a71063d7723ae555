-- Which plans are narrow, and which expression is the first that is too wide.
use Rattle.std.proofs.Common.{◌≡◌, ℕ, ◌<◌, ◌≤◌, max, Bool, true, false, cond, ltb, List, [], ◌∷◌, ◌++◌, map, length, get_or, Some, None, sym, refl, ap, ◌∙◌, subst, append_assoc, arith}
use Rattle.std.proofs.lemmas.Bool.{ltb-true, ltb-false}
use Rattle.std.proofs.lemmas.List.{map-append}
use Rattle.language.specs.Limits.{width, widest, expressions}
use Rattle.language.specs.Plans.{Tree, Plan, done, assign, store, again}
use Rattle.plan.specs.declared.tree.Expression.{Expression}
use Rattle.plan.specs.declared.tree.Node.{Node}
use Rattle.plan.specs.declared.tree.Statement.{Statement}
use Rattle.plan.specs.declared.tree.Statement.TheVariants.{End}
use Rattle.plan.specs.Listing.{Means, Lists, no_more, a_let, a_put, a_repeat}
use Rattle.plan.specs.Tables.{parts, all_parts}
use Rattle.compiler.specs.Deciding.{FirstWide, here, later}
use Rattle.compiler.specs.Emitting.{tree_of}
use Rattle.compiler.specs.Widths.{Measured, first_wide, widest_of}

-- all of these are narrow
abbrev pub AllNarrow : ℕ → List Tree → Type 0
AllNarrow most [] = Unit {0}
AllNarrow most (e ∷ es) = (width e ≤ most) × AllNarrow most es

narrow_left : (most : ℕ) (es fs : List Tree) → AllNarrow most (es ++ fs) → AllNarrow most es
narrow_left most [] fs h = tt
narrow_left most (e ∷ es) fs h = (h.0, narrow_left most es fs h.1)

narrow_right : (most : ℕ) (es fs : List Tree) → AllNarrow most (es ++ fs) → AllNarrow most fs
narrow_right most [] fs h = h
narrow_right most (e ∷ es) fs h = narrow_right most es fs h.1

narrow_both : (most : ℕ) (es fs : List Tree) → AllNarrow most es → AllNarrow most fs → AllNarrow most (es ++ fs)
narrow_both most [] fs h k = k
narrow_both most (e ∷ es) fs h k = (h.0, narrow_both most es fs h.1 k)

pub widest-low : (most : ℕ) (P : Plan) → AllNarrow most (expressions P) → widest P ≤ most
widest-low most done h = omega arith
widest-low most (assign v e P) h = omega (arith, h.0, widest-low most P h.1)
widest-low most (store a e P) h = omega (arith, h.0, h.1.0, widest-low most P h.1.1)
widest-low most (again e B P) h =
    omega (arith, h.0, widest-low most B (narrow_left most (expressions B) (expressions P) h.1), widest-low most P (narrow_right most (expressions B) (expressions P) h.1))

pub low-widest : (most : ℕ) (P : Plan) → widest P ≤ most → AllNarrow most (expressions P)
low-widest most done h = tt
low-widest most (assign v e P) h = (omega arith, low-widest most P (omega arith))
low-widest most (store a e P) h = (omega arith, (omega arith, low-widest most P (omega arith)))
low-widest most (again e B P) h = (omega arith, narrow_both most (expressions B) (expressions P) (low-widest most B (omega arith)) (low-widest most P (omega arith)))

-- a plan with an expression that is too wide is none of them
pub not_narrow : {most at : ℕ} {es : List Tree} {bs : List ℕ} → FirstWide most es bs at → AllNarrow most es → ⊥
not_narrow (here w) h = omega (arith, h.0)
not_narrow (later w f) h = not_narrow f h.1

parts_both : (ss us : List Statement) → all_parts (ss ++ us) ≡ all_parts ss ++ all_parts us
parts_both [] us = refl
parts_both (s ∷ ss) us = ap (λ l. parts s ++ l) (parts_both ss us) ∙ sym (append_assoc (parts s) (all_parts ss) (all_parts us))

pub both_widest : (ws : List ℕ) (es fs : List Expression) → widest_of ws (es ++ fs) ≡ max (widest_of ws es) (widest_of ws fs)
both_widest ws [] fs = omega arith
both_widest ws (e ∷ es) fs = omega (arith, both_widest ws es fs)

module _ (ns : List Node) where
  abbrev Inside : List Expression → Type 0
  Inside [] = Unit {0}
  Inside (e ∷ es) = (e.root.index < length ns) × Inside es

  inside_both : (es fs : List Expression) → Inside es → Inside fs → Inside (es ++ fs)
  inside_both [] fs h k = k
  inside_both (e ∷ es) fs h k = (h.0, inside_both es fs h.1 k)

  pub all_inside : {ss : List Statement} {P : Plan} → Lists ns ss P → Inside (all_parts ss)
  all_inside no_more = tt
  all_inside (a_let M L) = (M.inside, all_inside L)
  all_inside (a_put M N L) = (M.inside, (N.inside, all_inside L))
  all_inside (a_repeat {n = n} {bs = bs} {ss = ss} M D h L) =
      (M.inside, subst Inside (sym (parts_both bs (End n ∷ ss))) (inside_both (all_parts bs) (all_parts ss) (all_inside D) (all_inside L)))

  -- the expressions of the plan are those of the statements
  pub expressions_are : {ss : List Statement} {P : Plan} → Lists ns ss P → map (tree_of ns) (all_parts ss) ≡ expressions P
  expressions_are no_more = refl
  expressions_are (a_let {t = t} {ss = ss} M L) = ap (λ u. u ∷ map (tree_of ns) (all_parts ss)) M.is ∙ ap (λ l. t ∷ l) (expressions_are L)
  expressions_are (a_put {x = x} {t = t} {u = u} {ss = ss} M N L) =
      ap (λ y. y ∷ tree_of ns x ∷ map (tree_of ns) (all_parts ss)) M.is ∙ ap (λ y. t ∷ y ∷ map (tree_of ns) (all_parts ss)) N.is ∙ ap (λ l. t ∷ u ∷ l) (expressions_are L)
  expressions_are (a_repeat {t = t} {n = n} {bs = bs} {ss = ss} {b = B} {p = P} M D h L) =
      ap (λ u. u ∷ map (tree_of ns) (all_parts (bs ++ (End n ∷ ss)))) M.is
      ∙ ap (λ l. t ∷ map (tree_of ns) l) (parts_both bs (End n ∷ ss))
      ∙ ap (λ l. t ∷ l) (map-append (tree_of ns) (all_parts bs) (all_parts ss) ∙ ap (λ l. l ++ map (tree_of ns) (all_parts ss)) (expressions_are D) ∙ ap (λ l. expressions B ++ l) (expressions_are L))

  module _ (ws : List ℕ) (long : length ws ≡ length ns) (known : Measured ns ws) where
    pub wide_is : (es : List Expression) (at : ℕ) → Inside es → first_wide ws es ≡ Some at → FirstWide 5 (map (tree_of ns) es) (map (λ e. e.place) es) at
    wide_is [] at i e = let z : ◌≡◌ {A = ℕ} 0 1 = cc in absurd (omega arith)
    wide_is (x ∷ es) at i e = go (λ f. wide_is es at i.1 f) (ltb 5 (get_or ws x.root.index 0)) refl e
      where
        go : (first_wide ws es ≡ Some at → FirstWide 5 (map (tree_of ns) es) (map (λ e. e.place) es) at) → (b : Bool) → ltb 5 (get_or ws x.root.index 0) ≡ b → cond b (Some x.place) (first_wide ws es) ≡ Some at → FirstWide 5 (map (tree_of ns) (x ∷ es)) (map (λ e. e.place) (x ∷ es)) at
        go more true h f =
            let same : x.place ≡ at = cc in
            let k = known x.root.index (omega (arith, i.0)) in
            subst (FirstWide 5 (map (tree_of ns) (x ∷ es)) (map (λ e. e.place) (x ∷ es))) same (here (omega (arith, ltb-true 5 (get_or ws x.root.index 0) h)))
        go more false h f =
            let k = known x.root.index (omega (arith, i.0)) in
            later (omega (arith, ltb-false 5 (get_or ws x.root.index 0) h)) (more f)

    pub none_wide : (es : List Expression) → Inside es → first_wide ws es ≡ None → AllNarrow 5 (map (tree_of ns) es)
    none_wide [] i e = tt
    none_wide (x ∷ es) i e = go (λ f. none_wide es i.1 f) (ltb 5 (get_or ws x.root.index 0)) refl e
      where
        go : (first_wide ws es ≡ None → AllNarrow 5 (map (tree_of ns) es)) → (b : Bool) → ltb 5 (get_or ws x.root.index 0) ≡ b → cond b (Some x.place) (first_wide ws es) ≡ None → AllNarrow 5 (map (tree_of ns) (x ∷ es))
        go more true h f = let z : ◌≡◌ {A = ℕ} 0 1 = cc in absurd (omega arith)
        go more false h f =
            let k = known x.root.index (omega (arith, i.0)) in
            (omega (arith, ltb-false 5 (get_or ws x.root.index 0) h), more f)

    root_width : (e : Expression) (t : Tree) → Means ns e t → get_or ws e.root.index 0 ≡ width t
    root_width e t M = known e.root.index (omega (arith, M.inside)) ∙ ap width M.is

    pub widest_is : {ss : List Statement} {P : Plan} → Lists ns ss P → widest_of ws (all_parts ss) ≡ widest P
    widest_is no_more = refl
    widest_is (a_let {x = x} {t = t} M L) = omega (arith, root_width x t M, widest_is L)
    widest_is (a_put {a = a} {x = x} {t = t} {u = u} M N L) = omega (arith, root_width a t M, root_width x u N, widest_is L)
    widest_is (a_repeat {x = x} {t = t} {n = n} {bs = bs} {ss = ss} M D h L) =
        omega (arith, root_width x t M, ap (widest_of ws) (parts_both bs (End n ∷ ss)), both_widest ws (all_parts bs) (all_parts ss), widest_is D, widest_is L)
