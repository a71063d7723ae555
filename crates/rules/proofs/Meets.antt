-- The test of a card says what it means for a card to be met.
use Rattle.std.proofs.Common.{◌≡◌, ℕ, zero, suc, ◌+◌, true, ◌&&◌, ◌⊎◌, [], ◌∷◌, get_or, sym, refl, ap, ◌∙◌, subst, inl, inr, arith, Some, None, zero-add}
use Rattle.std.proofs.lemmas.Bool.{and_parts, and_from, cases_eq, eq-eqb, ne_eqb, cond-true, cond-false}
use Rattle.rules.specs.Expressions.{Expr, same?}
use Rattle.rules.specs.Notes.{Colour, Note, Notes, expr_of, has?}
use Rattle.rules.specs.Cards.{Variable, Slot, Card, chosen, meets?, meet_all?, met?}
use Rattle.rules.specs.Met.{Met}
use Rattle.rules.proofs.Sameness.{same_eq, eq_same}

-- a register that has the colour, and the expression that its variable has
abbrev Fits : (ℕ → Expr) → Colour → Variable → Note → Type 0
Fits θ c v n = (has? c n ≡ true) × (expr_of n ≡ θ v.number)

not_slot : (c : Colour) (v : Variable) → ◌≡◌ {A = Slot} None (Some (c, v)) → ⊥
not_slot c v e = let z : ◌≡◌ {A = ℕ} 0 1 = cc in omega arith

one-fits : (θ : ℕ → Expr) (x : Slot) (n : Note) (c : Colour) (v : Variable) → meets? θ x n ≡ true → x ≡ Some (c, v) → Fits θ c v n
one-fits θ x n c v h e =
    let P : Slot → Type 0 = λ y. meets? θ y n ≡ true in
    let b = and_parts (has? c n) (same? (expr_of n) (θ v.number)) (subst P e h) in
    (b.0, same_eq _ _ b.1)

meet_at : (θ : ℕ → Expr) (i : ℕ) (K : Card) (N : Notes) → meet_all? θ i K N ≡ true → (r : ℕ) (c : Colour) (v : Variable) → get_or K r None ≡ Some (c, v) → Fits θ c v (N (i + r))
meet_at θ i [] N h r c v e = absurd (not_slot c v e)
meet_at θ i (x ∷ K) N h zero c v e =
    let P : ℕ → Type 0 = λ k. Fits θ c v (N k) in
    let z : i ≡ i + 0 = omega arith in
    subst P z (one-fits θ x (N i) c v (and_parts (meets? θ x (N i)) (meet_all? θ (i + 1) K N) h).0 e)
meet_at θ i (x ∷ K) N h (suc r) c v e =
    let P : ℕ → Type 0 = λ k. Fits θ c v (N k) in
    let z : i + 1 + r ≡ i + suc r = omega arith in
    subst P z (meet_at θ (i + 1) K N (and_parts (meets? θ x (N i)) (meet_all? θ (i + 1) K N) h).1 r c v e)

meet_all : (θ : ℕ → Expr) (i : ℕ) (K : Card) (N : Notes) → ((r : ℕ) (c : Colour) (v : Variable) → get_or K r None ≡ Some (c, v) → Fits θ c v (N (i + r))) → meet_all? θ i K N ≡ true
meet_all θ i [] N h = refl
meet_all θ i (None ∷ K) N h = meet_all θ (i + 1) K N (λ r c v e. later r c v (h (suc r) c v e))
  where
    later : (r : ℕ) (c : Colour) (v : Variable) → Fits θ c v (N (i + suc r)) → Fits θ c v (N (i + 1 + r))
    later r c v f = let P : ℕ → Type 0 = λ k. Fits θ c v (N k) in let z : i + suc r ≡ i + 1 + r = omega arith in subst P z f
meet_all θ i (Some (d, w) ∷ K) N h = and_from _ _ first (meet_all θ (i + 1) K N (λ r c v e. later r c v (h (suc r) c v e)))
  where
    later : (r : ℕ) (c : Colour) (v : Variable) → Fits θ c v (N (i + suc r)) → Fits θ c v (N (i + 1 + r))
    later r c v f = let P : ℕ → Type 0 = λ k. Fits θ c v (N k) in let z : i + suc r ≡ i + 1 + r = omega arith in subst P z f

    first : (has? d (N i) && same? (expr_of (N i)) (θ w.number)) ≡ true
    first =
        let P : ℕ → Type 0 = λ k. Fits θ d w (N k) in
        let z : i + 0 ≡ i = omega arith in
        let f = subst P z (h 0 d w refl) in
        and_from (has? d (N i)) (same? (expr_of (N i)) (θ w.number)) f.0 (eq_same _ _ f.1)

-- a register that has the variable y, whose expression is the chosen one
record First (i : ℕ) (K : Card) (N : Notes) (y : ℕ) : Type 0 where
  at : ℕ
  colour : Colour
  variable : Variable
  there : get_or K at None ≡ Some (colour, variable)
  number : variable.number ≡ y
  expr : chosen i K N y ≡ expr_of (N (i + at))

next-first : (i : ℕ) (x : Slot) (K : Card) (N : Notes) (y : ℕ) → chosen i (x ∷ K) N y ≡ chosen (i + 1) K N y → First (i + 1) K N y → First i (x ∷ K) N y
next-first i x K N y e f =
    let z : i + 1 + f.at ≡ i + suc f.at = omega arith in
    record { at = suc f.at; colour = f.colour; variable = f.variable; there = f.there; number = f.number; expr = e ∙ f.expr ∙ ap (λ k. expr_of (N k)) z }

abbrev number_in : Slot → ℕ
number_in None = 0
number_in (Some (c, v)) = v.number

find : (i : ℕ) (K : Card) (N : Notes) (y r : ℕ) (c : Colour) (v : Variable) → get_or K r None ≡ Some (c, v) → v.number ≡ y → First i K N y
find i [] N y r c v e q = absurd (not_slot c v e)
find i (None ∷ K) N y zero c v e q = absurd (not_slot c v e)
find i (None ∷ K) N y (suc r) c v e q = next-first i None K N y refl (find (i + 1) K N y r c v e q)
find i (Some (d, w) ∷ K) N y zero c v e q =
    let n : w.number ≡ v.number = ap number_in e in
    let z : i ≡ i + 0 = omega arith in
    record { at = 0; colour = d; variable = w; there = refl; number = n ∙ q; expr = cond-true _ _ _ (eq-eqb w.number y (n ∙ q)) ∙ ap (λ k. expr_of (N k)) z }
find i (Some (d, w) ∷ K) N y (suc r) c v e q = go (find (i + 1) K N y r c v e q) (cases_eq w.number y)
  where
    go : First (i + 1) K N y → (w.number ≡ y) ⊎ (w.number ≡ y → ⊥) → First i (Some (d, w) ∷ K) N y
    go f (inl h) =
        let z : i ≡ i + 0 = omega arith in
        record { at = 0; colour = d; variable = w; there = refl; number = h; expr = cond-true _ _ _ (eq-eqb w.number y h) ∙ ap (λ k. expr_of (N k)) z }
    go f (inr h) = next-first i (Some (d, w)) K N y (cond-false _ _ _ (ne_eqb w.number y h)) f

pub card_means : (K : Card) (N : Notes) → met? K N ≡ true → Met K N
unfolding met?
card_means K N h = record {
  coloured = λ r c v e. (at r c v e).0;
  same = λ r s c d v w e f n. (at r c v e).1 ∙ ap (chosen 0 K N) n ∙ sym (at s d w f).1;
}
  where
    at : (r : ℕ) (c : Colour) (v : Variable) → get_or K r None ≡ Some (c, v) → Fits (chosen 0 K N) c v (N r)
    at r c v e = let P : ℕ → Type 0 = λ k. Fits (chosen 0 K N) c v (N k) in subst P (zero-add r) (meet_at (chosen 0 K N) 0 K N h r c v e)

pub card_from : (K : Card) (N : Notes) → Met K N → met? K N ≡ true
unfolding met?
card_from K N m = meet_all (chosen 0 K N) 0 K N at
  where
    at : (r : ℕ) (c : Colour) (v : Variable) → get_or K r None ≡ Some (c, v) → Fits (chosen 0 K N) c v (N (0 + r))
    at r c v e =
        let f = find 0 K N v.number r c v e refl in
        let P : ℕ → Type 0 = λ k. Fits (chosen 0 K N) c v (N k) in
        let same = m.same r f.at c f.colour v f.variable e f.there (sym f.number) in
        let x = f.expr ∙ ap (λ k. expr_of (N k)) (zero-add f.at) in
        subst P (sym (zero-add r)) (m.coloured r c v e, same ∙ sym x)
