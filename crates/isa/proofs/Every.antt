-- A test of every number below n.
use Rattle.std.proofs.Common.{◌≡◌, ℕ, zero, suc, ◌+◌, ◌<◌, Bool, true, ◌&&◌, [], ◌∷◌, ◌++◌, sym, refl, ap, ◌∙◌, add-one, arith}
use Rattle.std.specs.List.{list_all, range_with_len}
use Rattle.std.proofs.Math.Bool.{and-true}
use Rattle.std.proofs.lemmas.List.{map-id}
use Rattle.std.proofs.lemmas.List.Folds.{list_all-append}
use Rattle.std.proofs.lemmas.List.FromFn.{map-range_with_len_more}
use Rattle.isa.specs.Layout.{every}

pub every-none : (f : ℕ → Bool) → every 0 f ≡ true
unfolding every
every-none f = refl

pub every_suc : (n : ℕ) (f : ℕ → Bool) → every (suc n) f ≡ (every n f && f n)
unfolding every
every_suc n f = refl

-- what holds of each number below n
pub every_of : (n : ℕ) (f : ℕ → Bool) → ((k : ℕ) → k < n → f k ≡ true) → every n f ≡ true
every_of zero f h = every-none f
every_of (suc n) f h = every_suc n f ∙ ap (λ b. b && f n) (every_of n f (λ k l. h k (omega arith))) ∙ h n (omega arith)

range_more : (n : ℕ) → range_with_len 0 (n + 1) ≡ range_with_len 0 n ++ (n ∷ [])
range_more n = sym (map-id (range_with_len 0 (n + 1))) ∙ map-range_with_len_more (λ x. x) 0 n n (omega arith) ∙ ap (λ l. l ++ (n ∷ [])) (map-id (range_with_len 0 n))

-- the test, made of a list of the numbers
pub every_list : (n : ℕ) (f : ℕ → Bool) → list_all f (range_with_len 0 n) ≡ every n f
every_list zero f = sym (every-none f)
every_list (suc n) f =
    ap (λ m. list_all f (range_with_len 0 m)) (sym (add-one n))
    ∙ ap (list_all f) (range_more n)
    ∙ list_all-append f (range_with_len 0 n) (n ∷ [])
    ∙ ap (λ b. b && (f n && true)) (every_list n f)
    ∙ ap (λ b. every n f && b) (and-true (f n))
    ∙ sym (every_suc n f)
