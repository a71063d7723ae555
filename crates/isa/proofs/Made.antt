-- The elements of an array that `from_fn` made by calls which leave the closure as it was.
use Rattle.std.proofs.Common.{◌≡◌, ℕ, zero, suc, ◌+◌, ◌<◌, ◌≤◌, ◌⊎◌, List, get_or, sym, subst, inl, inr, arith}
use Rattle.std.specs.Array.{IsFromFnResult, IsFromFnResultFrom}
use Rattle.std.specs.Fn.{Called}
use Rattle.std.proofs.lemmas.Bool.{cases_eq}
use denote.Param.Members.{Mut}

module _ {F B : Type 0} (g : Mut F (ℕ × Unit {0}) B) (f : F) (P : ℕ → B → Type 0) (says : (i : ℕ) (y : B) (q : F) → Called g f (i, tt) y q → (q ≡ f) × P i y) (ys : List B) (d : B) where
  made_from : (n i : ℕ) → IsFromFnResultFrom g f ys i n → (k : ℕ) → i ≤ k → k < i + n → P k (get_or ys k d)
  made_from zero i m k low high = absurd (omega arith)
  made_from (suc n) i (q, y, at, call, rest) k low high =
      let s = says i y q call in
      go s.1 (λ l. made_from n (i + 1) (subst (λ p. IsFromFnResultFrom g p ys (i + 1) n) s.0 rest) k l (omega arith)) (cases_eq k i)
    where
      go : P i y → (i + 1 ≤ k → P k (get_or ys k d)) → (k ≡ i) ⊎ (k ≡ i → ⊥) → P k (get_or ys k d)
      go s r (inl e) = subst (λ j. P j (get_or ys j d)) (sym e) (subst (P i) (sym (at.1 d)) s)
      go s r (inr e) = r (omega arith)

  -- what the calls say of their results holds of the elements
  pub made : (n : ℕ) → IsFromFnResult g f ys n → (k : ℕ) → k < n → P k (get_or ys k d)
  made n m k h = made_from n 0 m.each k (omega arith) (omega arith)
