-- The words of a card in an output.
use Rattle.std.proofs.Common.{◌≡◌, ℕ, ◌+◌, ◌-◌, ◌<◌, ◌≤◌, ltb, leb, ◌⊎◌, sym, ap, ◌∙◌, inl, inr, arith}
use Rattle.std.proofs.lemmas.Bool.{cases_eq, cases_lt, eq-eqb, ne_eqb, cond-true, cond-false, le-leb, lt-leb, lt-ltb, le-ltb, and_from, and_left, and_right}
use mathlib.Core.Path.{fun_ext}
use Rattle.memory.specs.Cells.{replaced}
use Rattle.compiler.specs.Laying.{card_word, carded}

pub carded_below : (f : ℕ → ℕ) (at t q j : ℕ) → j < at → carded f at t q j ≡ f j
carded_below f at t q j h = cond-false _ _ _ (and_left (leb at j) (ltb j (at + q)) (lt-leb at j h))

pub carded_above : (f : ℕ → ℕ) (at t q j : ℕ) → at + q ≤ j → carded f at t q j ≡ f j
carded_above f at t q j h = cond-false _ _ _ (and_right (leb at j) (ltb j (at + q)) (le-ltb j (at + q) h))

-- a word inside the card
carded_in : (f : ℕ → ℕ) (at t q j : ℕ) → at ≤ j → j < at + q → carded f at t q j ≡ card_word t (j - at)
carded_in f at t q j h l = cond-true _ _ _ (and_from (leb at j) (ltb j (at + q)) (le-leb at j h) (lt-ltb j (at + q) l))

pub carded-at : (f : ℕ → ℕ) (at t q r : ℕ) → r < q → carded f at t q (at + r) ≡ card_word t r
carded-at f at t q r h =
    let e : at + r - at ≡ r = omega arith in
    carded_in f at t q (at + r) (omega arith) (omega arith) ∙ ap (card_word t) e

-- one word more
pub carded-more : (f : ℕ → ℕ) (at t k : ℕ) → replaced (carded f at t k) (at + k) (card_word t k) ≡ carded f at t (k + 1)
carded-more f at t k = fun_ext (λ j. go j (cases_eq j (at + k)) (cases_lt j at) (cases_lt j (at + k)))
  where
    go : (j : ℕ) → (j ≡ at + k) ⊎ (j ≡ at + k → ⊥) → (j < at) ⊎ (at ≤ j) → (j < at + k) ⊎ (at + k ≤ j)
        → replaced (carded f at t k) (at + k) (card_word t k) j ≡ carded f at t (k + 1) j
    go j (inl e) x y = cond-true _ _ _ (eq-eqb j (at + k) e) ∙ sym (ap (carded f at t (k + 1)) e ∙ carded-at f at t (k + 1) k (omega arith))
    go j (inr n) (inl h) y = cond-false _ _ _ (ne_eqb j (at + k) n) ∙ carded_below f at t k j h ∙ sym (carded_below f at t (k + 1) j h)
    go j (inr n) (inr h) (inl l) = cond-false _ _ _ (ne_eqb j (at + k) n) ∙ carded_in f at t k j h l ∙ sym (carded_in f at t (k + 1) j h (omega arith))
    go j (inr n) (inr h) (inr l) =
        cond-false _ _ _ (ne_eqb j (at + k) n) ∙ carded_above f at t k j l ∙ sym (carded_above f at t (k + 1) j (omega arith))
