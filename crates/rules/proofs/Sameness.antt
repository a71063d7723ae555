-- What `same?` decides.
use Rattle.std.proofs.Common.{◌≡◌, true, false, sym, refl}
use native.Mathlib.Decide.{ℕ_discrete}
use Rattle.std.proofs.lemmas.Bool.{true≢false}
use Rattle.rules.specs.Expressions.{Arithmetic-discrete, Expr, Expr-discrete, holds?, same?}

yes_holds : {A : Type 0} (d : Dec A) → A → holds? d ≡ true
yes_holds (yes p) a = refl
yes_holds (no n) a = absurd (n a)

no_holds : {A : Type 0} (d : Dec A) → (A → ⊥) → holds? d ≡ false
no_holds (yes p) n = absurd (n p)
no_holds (no m) n = refl

from_holds : {A : Type 0} (d : Dec A) → holds? d ≡ true → A
from_holds (yes p) h = p
from_holds (no n) h = absurd (true≢false (sym h))

pub same_eq : (e f : Expr) → same? e f ≡ true → e ≡ f
unfolding same? ℕ_discrete
same_eq e f h = from_holds (Expr-discrete ℕ_discrete Arithmetic-discrete e f) h

pub eq_same : (e f : Expr) → e ≡ f → same? e f ≡ true
unfolding same? ℕ_discrete
eq_same e f h = yes_holds (Expr-discrete ℕ_discrete Arithmetic-discrete e f) h

pub ne_same : (e f : Expr) → (e ≡ f → ⊥) → same? e f ≡ false
unfolding same? ℕ_discrete
ne_same e f h = no_holds (Expr-discrete ℕ_discrete Arithmetic-discrete e f) h
