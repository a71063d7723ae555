-- A function changed at one place.
use Rattle.std.proofs.Common.{◌≡◌, ℕ, eqb, ◌≢◌, refl}
use Rattle.std.proofs.lemmas.Bool.{eq-eqb, ne_eqb, cond-true, cond-false}
use Rattle.rules.specs.Notes.{upd}

pub upd_same : {A : Type 0} (f : ℕ → A) (a : ℕ) (v : A) → upd f a v a ≡ v
upd_same f a v = cond-true (eqb a a) v (f a) (eq-eqb a a refl)

pub upd_other : {A : Type 0} (f : ℕ → A) (a : ℕ) (v : A) (r : ℕ) → r ≢ a → upd f a v r ≡ f r
upd_other f a v r n = cond-false (eqb r a) v (f r) (ne_eqb r a n)
