-- The tables of a plan, with one entry more or one replaced.
use Rattle.std.proofs.Common.{◌≡◌, ℕ, zero, suc, ◌+◌, ◌*◌, ◌<◌, ◌≤◌, ◌≢◌, ◌⊎◌, List, [], ◌∷◌, ◌++◌, length, get_or, set, sym, refl, ap, subst, inl, inr, arith, length-set}
use Rattle.std.proofs.lemmas.List.{get_or_append_left, length_push, get_or_push, get_or-set_same, get_or-set_other}
use Rattle.std.proofs.lemmas.Bool.{cases_lt, cases_eq}
use Rattle.plan.specs.declared.tree.Statement.{Statement}
use Rattle.plan.specs.declared.tree.Statement.TheVariants.{Let, Put, Repeat, End}
use Rattle.plan.specs.Showing.{with_body}
use Rattle.plan.specs.Tables.{roots, total, own, loop}

pub own_most : (s : Statement) → own s ≤ 14
own_most (Let v e) = omega arith
own_most (Put a e) = omega arith
own_most (Repeat e b) = omega arith
own_most (End b) = omega arith

pub loop_most : (s : Statement) → loop s ≤ 1
loop_most (Let v e) = omega arith
loop_most (Put a e) = omega arith
loop_most (Repeat e b) = omega arith
loop_most (End b) = omega arith

pub owns_most : (ss : List Statement) → total own ss ≤ 14 * length ss
owns_most [] = omega arith
owns_most (s ∷ ss) = omega (arith, owns_most ss, own_most s)

pub loops_most : (ss : List Statement) → total loop ss ≤ length ss
loops_most [] = omega arith
loops_most (s ∷ ss) = omega (arith, loops_most ss, loop_most s)

pub total-push : (f : Statement → ℕ) (ss : List Statement) (s : Statement) → total f (ss ++ (s ∷ [])) ≡ total f ss + f s
total-push f [] s = omega arith
total-push f (x ∷ ss) s = omega (arith, total-push f ss s)

-- what holds of each entry, by its place, holds with one more
module _ {X : Type 0} (d : X) (f : X → ℕ) (b : ℕ → ℕ) where
  pub each_push : (xs : List X) (x : X) → ((k : ℕ) → k < length xs → f (get_or xs k d) ≤ b k) → f x ≤ b (length xs) → (k : ℕ) → k < length (xs ++ (x ∷ [])) → f (get_or (xs ++ (x ∷ [])) k d) ≤ b k
  each_push xs x h here k l = go (cases_lt k (length xs))
    where
      go : (k < length xs) ⊎ (length xs ≤ k) → f (get_or (xs ++ (x ∷ [])) k d) ≤ b k
      go (inl g) = rw (get_or_append_left xs (x ∷ []) d k g) (h k g)
      go (inr g) = let e : length xs ≡ k = omega (arith, length_push xs x) in rw (get_or_push xs x d k e) (subst (λ n. f x ≤ b n) e here)

  -- .. and with one replaced by one that is no larger
  pub each_set : (xs : List X) (i : ℕ) (x : X) → ((k : ℕ) → k < length xs → f (get_or xs k d) ≤ b k) → f x ≤ f (get_or xs i d) → (k : ℕ) → k < length (set xs i x) → f (get_or (set xs i x) k d) ≤ b k
  each_set xs i x h here k l = go (cases_eq k i)
    where
      low : k < length xs
      low = rw (length-set xs i x) at l

      go : (k ≡ i) ⊎ (k ≢ i) → f (get_or (set xs i x) k d) ≤ b k
      go (inl e) =
          let at_i : i < length xs = omega (arith, low) in
          subst (λ n. f (get_or (set xs i x) n d) ≤ b n) (sym e) (rw (get_or-set_same xs i x d at_i) (omega (arith, h i at_i)))
      go (inr n) = rw (get_or-set_other xs i k x d n) (h k low)

pub total-set : (f : Statement → ℕ) (ss : List Statement) (i : ℕ) (s : Statement) → f s ≡ f (get_or ss i (End 0)) → total f (set ss i s) ≡ total f ss
total-set f [] i s h = refl
total-set f (x ∷ ss) zero s h = ap (λ n. n + total f ss) h
total-set f (x ∷ ss) (suc i) s h = ap (λ n. f x + n) (total-set f ss i s h)

pub with_body_own : (s : Statement) (n : ℕ) → own (with_body s n) ≡ own s
with_body_own (Let v e) n = refl
with_body_own (Put a e) n = refl
with_body_own (Repeat e b) n = refl
with_body_own (End b) n = refl

pub with_body_loop : (s : Statement) (n : ℕ) → loop (with_body s n) ≡ loop s
with_body_loop (Let v e) n = refl
with_body_loop (Put a e) n = refl
with_body_loop (Repeat e b) n = refl
with_body_loop (End b) n = refl

pub with_body_roots : (s : Statement) (n : ℕ) → roots (with_body s n) ≡ roots s
with_body_roots (Let v e) n = refl
with_body_roots (Put a e) n = refl
with_body_roots (Repeat e b) n = refl
with_body_roots (End b) n = refl
