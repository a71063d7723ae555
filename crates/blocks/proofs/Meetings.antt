-- Meeting a card register by register is meeting it.
use Rattle.std.proofs.Common.{◌≡◌, ℕ, ◌+◌, ◌<◌, ◌≤◌, Bool, true, cond, ◌&&◌, eqb, ◌⊎◌, List, [], ◌∷◌, length, get_or, drop, replicate, Some, None, Option, sym, refl, ap, ◌∙◌, inl, inr, arith}
use mathlib.Core.Path.{fun_ext}
use Rattle.std.proofs.lemmas.Bool.{cases_eq, eq-eqb, ne_eqb}
use Rattle.std.proofs.lemmas.List.{drop_more}
use Rattle.blocks.specs.Trees.{Id}
use Rattle.rules.specs.Expressions.{Expr, same?}
use Rattle.rules.specs.Notes.{Notes, expr_of, has?}
use Rattle.rules.specs.Cards.{Slot, Card, chosen, meets?, meet_all?, met?}
use Rattle.blocks.specs.Meeting.{Seen, same_as?, meet_one?, first_only, seen_next, opt_in, seen_in, reach_opt}
use Rattle.rules.proofs.Sameness.{eq_same}
use Rattle.blocks.proofs.Views.{same_at}

abbrev pub meet_from? : Seen → ℕ → Card → Notes → Bool
meet_from? σ r [] N = true
meet_from? σ r (x ∷ K) N = meet_one? σ x (N r) && meet_from? (seen_next σ x (N r)) (r + 1) K N

abbrev or_else : Option Expr → Expr → Expr
or_else None e = e
or_else (Some f) e = f

same_first : (σ : Seen) (v : ℕ) (e g : Expr) (o : Option Expr) → σ v ≡ o → same_as? o e ≡ same? e (or_else o (cond (eqb v v) e g))
same_first σ v e g None h = sym (rw (eq-eqb v v refl) (eq_same e e refl))
same_first σ v e g (Some f) h = refl

next-first : (σ : Seen) (v : ℕ) (e : Expr) (ch : ℕ → Expr) (o : Option Expr) → σ v ≡ o → (y : ℕ)
    → or_else (first_only o σ v e y) (ch y) ≡ or_else (σ y) (cond (eqb v y) e (ch y))
next-first σ v e ch None h y = go (cases_eq y v)
  where
    go : (y ≡ v) ⊎ (y ≡ v → ⊥) → or_else (cond (eqb y v) (Some e) (σ y)) (ch y) ≡ or_else (σ y) (cond (eqb v y) e (ch y))
    go (inl p) = rw (eq-eqb y v p, eq-eqb v y (sym p), ap σ p ∙ h) refl
    go (inr n) = rw (ne_eqb y v n, ne_eqb v y (λ p. n (sym p))) refl
next-first σ v e ch (Some f) h y = go (cases_eq y v)
  where
    go : (y ≡ v) ⊎ (y ≡ v → ⊥) → or_else (σ y) (ch y) ≡ or_else (σ y) (cond (eqb v y) e (ch y))
    go (inl p) = rw (ap σ p ∙ h) refl
    go (inr n) = rw (ne_eqb v y (λ p. n (sym p))) refl

meeting : (σ : Seen) (r : ℕ) (K : Card) (N : Notes) → meet_from? σ r K N ≡ meet_all? (λ v. or_else (σ v) (chosen r K N v)) r K N
meeting σ r [] N = refl
meeting σ r (None ∷ K) N = meeting σ (r + 1) K N
meeting σ r (Some (c, v) ∷ K) N =
    let e = expr_of (N r) in
    let a = same_first σ v.number e (chosen (r + 1) K N v.number) (σ v.number) refl in
    let f : ◌≡◌ {A = ℕ → Expr} (λ y. or_else (seen_next σ (Some (c, v)) (N r) y) (chosen (r + 1) K N y)) (λ y. or_else (σ y) (chosen r (Some (c, v) ∷ K) N y)) =
    fun_ext λ y. next-first σ v.number e (chosen (r + 1) K N) (σ v.number) refl y in
    ap (λ b. (has? c (N r) && b) && meet_from? (seen_next σ (Some (c, v)) (N r)) (r + 1) K N) a
    ∙ ap (λ b. meets? (λ y. or_else (σ y) (chosen r (Some (c, v) ∷ K) N y)) (Some (c, v)) (N r) && b) (meeting (seen_next σ (Some (c, v)) (N r)) (r + 1) K N ∙ ap (λ θ. meet_all? θ (r + 1) K N) f)

pub met_from : (K : Card) (N : Notes) → met? K N ≡ meet_from? (λ v. None) 0 K N
unfolding met?
met_from K N = sym (meeting (λ v. None) 0 K N)

pub seen_none : (E : List Expr) (n : ℕ) → seen_in E (replicate n None) ≡ (λ v. None)
seen_none E n = fun_ext λ v. ap (opt_in E) (same_at n v None)

-- one register more
pub meet_more : (σ : Seen) (K : Card) (N : Notes) (r : ℕ) (d : Slot) → r < length K
    → meet_from? σ r (drop r K) N ≡ (meet_one? σ (get_or K r d) (N r) && meet_from? (seen_next σ (get_or K r d) (N r)) (r + 1) (drop (r + 1) K) N)
meet_more σ K N r d h = ap (λ l. meet_from? σ r l N) (drop_more K r d h)

pub first_none : (m n v : ℕ) → reach_opt (get_or (replicate n None) v None) ≤ m
first_none m n v = rw (same_at {A = Option Id} n v None) (omega arith)

pub meet_goes : (b : Bool) (σ τ : Seen) (K : Card) (N : Notes) (r : ℕ) (d : Slot) → r < length K → b ≡ meet_from? σ r (drop r K) N → true ≡ meet_one? σ (get_or K r d) (N r)
    → τ ≡ seen_next σ (get_or K r d) (N r) → b ≡ meet_from? τ (r + 1) (drop (r + 1) K) N
meet_goes b σ τ K N r d h e t g =
    e ∙ meet_more σ K N r d h ∙ ap (λ x. x && meet_from? (seen_next σ (get_or K r d) (N r)) (r + 1) (drop (r + 1) K) N) (sym t)
    ∙ ap (λ u. meet_from? u (r + 1) (drop (r + 1) K) N) (sym g)
