-- What `all` and `find` over the numbers below n say of a test that the closure makes of each.
use Rattle.std.proofs.Common.{◌≡◌, ℕ, ◌<◌, ◌≤◌, Bool, true, false, None, Some, Option, refl, ◌∙◌, arith}
use Rattle.std.specs.Fn.{Called, CalledAt}
use Rattle.std.specs.Iterator.{ChecksAll, FindsItem}
use Rattle.std.specs.Option.{MatchOption}
use Rattle.std.specs.declared.ops.Range.{Range}
use Rattle.std.proofs.iter.Yields.{nat_range_steps}
use Rattle.std.proofs.lemmas.Iterator.{first_from_Range, YieldsList-from_range}
use Rattle.std.proofs.lemmas.Iterator.Search.{all_from_yields_List}
use Rattle.isa.specs.Layout.{every}
use Rattle.isa.proofs.Every.{every_of, every_list}
use denote.Param.Members.{Mut}
use denote.Ref.{Bor}

module _ {F : Type 0} (n : ℕ) (test : ℕ → Bool) where
  pub every_by_all : {g : Mut F (ℕ × Unit {0}) Bool} (f : F) (r : Bool) (u : Range ℕ) → ChecksAll nat_range_steps g (record { start = 0; end = n }) f r u
      → ((x : ℕ) (b : Bool) (q : F) → Called g f (x, tt) b q → (q ≡ f) × (b ≡ test x)) → r ≡ every n test
  every_by_all f r u ran says = all_from_yields_List test u f r ran (YieldsList-from_range 0 n n refl (omega arith)) says ∙ every_list n test

  -- the number that was found is the first one that fails the test
  pub every_by_find : {g : Mut F (Bor ℕ × Unit {0}) Bool} (f : F) (r : Option ℕ) (u : Range ℕ) → FindsItem nat_range_steps g (record { start = 0; end = n }) f r u
      → ((x : ℕ) (q : F) → CalledAt g f x true q → test x ≡ false) → ((x : ℕ) (q : F) → CalledAt g f x false q → (q ≡ f) × (test x ≡ true))
      → MatchOption r (every n test ≡ true) (λ i. (i < n) × (every i test ≡ true) × (test i ≡ false))
  every_by_find f r u ran bad good = by r (first_from_Range _ u f r (λ x. test x ≡ false) (λ x. test x ≡ true) ran bad good)
    where
      by : (o : Option ℕ) → MatchOption o ((k : ℕ) → 0 ≤ k → k < n → test k ≡ true) (λ i. (0 ≤ i) × (i < n) × (test i ≡ false) × ((k : ℕ) → 0 ≤ k → k < i → test k ≡ true))
          → MatchOption o (every n test ≡ true) (λ i. (i < n) × (every i test ≡ true) × (test i ≡ false))
      by None h = every_of n test (λ k l. h k (omega arith) l)
      by (Some i) h = (h.1, every_of i test (λ k l. h.3 k (omega arith) l), h.2)
