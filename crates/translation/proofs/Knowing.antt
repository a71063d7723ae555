-- What is known of twins, as notes of both their registers.
use Rattle.std.proofs.Common.{◌≡◌, ℕ, Bool, true, false, [], sym, refl}
use Rattle.std.proofs.lemmas.Bool.{true≢false}
use Rattle.rules.specs.Expressions.{Expr, num as lit}
use Rattle.rules.specs.Notes.{Colour, green, blue, Note, nothing, note, Notes, clear, Static, expr_of, colour?}
use Rattle.translation.proofs.Twins.{spread}

-- what is known of a twin
pub data Known : Type 0 where
  unknown : Known
  known : Expr → Known

abbrev pub known? : Known → Bool
known? unknown = false
known? (known e) = true

-- its note in one colour
abbrev pub tint : Colour → Known → Note
tint c unknown = nothing
tint c (known e) = note c e

abbrev pub ex : Known → Expr
ex unknown = lit 0
ex (known e) = e

pub tint_is : (c : Colour) (n : Known) → known? n ≡ true → tint c n ≡ note c (ex n)
tint_is c unknown t = absurd (true≢false (sym t))
tint_is c (known e) t = refl

pub tint_ex : (c : Colour) (n : Known) → expr_of (tint c n) ≡ ex n
tint_ex c unknown = refl
tint_ex c (known e) = refl

pub colour_refl : (c : Colour) → colour? c c ≡ true
colour_refl green = refl
colour_refl blue = refl

abbrev pub stat : Notes → ℕ → Static
stat M k = record { notes = M; pending = []; k_g = k; k_b = k; dest = clear }

-- what is known of the doubled code between two lines
abbrev pub both : (ℕ → Known) → ℕ → Static
both N k = stat (spread tint N) k
