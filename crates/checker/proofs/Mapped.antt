-- An error that `map_err` answers.
use Rattle.std.proofs.Common.{◌≡◌, Ok, Err, Result, sym, refl, ap, ◌∙◌, subst}
use Rattle.std.specs.Result.{MatchResult, IsErrAnd, is_err}
use Rattle.std.proofs.lemmas.Bool.{false≢true}

-- it was made of the error before
pub made_of : {T E D : Type 0} (P : E → D → Type 0) (r : Result T E) (q : Result T D) (f : D) → MatchResult r (λ x. q ≡ Ok x) (λ e. IsErrAnd q (P e)) → q ≡ Err f
    → (e : E) × (r ≡ Err e) × P e f
made_of P (Ok x) q f m w = absurd (false≢true (ap is_err (sym m ∙ w)))
made_of P (Err e) q f m w = (e, refl, subst (λ s. IsErrAnd s (P e)) w m)
