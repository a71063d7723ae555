-- The laws of the meaning of plans hold.
use Rattle.std.proofs.Common.{◌≡◌, refl}
use Rattle.language.specs.Meaning.{Book, Result, fine, stuck, and_then, times, meaning, blank}
use Rattle.language.specs.Laws.{MeaningLaws}
use Rattle.language.proofs.Stopping.{plan_stops, plan_clean}

then_then : (r : Result) (f g : Book → Result) → and_then (and_then r f) g ≡ and_then r (λ t. and_then (f t) g)
then_then (fine s) f g = refl
then_then (stuck s) f g = refl

pub laws : MeaningLaws
laws w = record {
  counted = λ e B P s. refl;
  never = λ B P s. refl;
  once_more = λ n B P s. then_then (meaning w B s) (λ t. times (λ t. meaning w B t) n t) (λ t. meaning w P t);
  made = λ P cells. plan_clean w P (blank cells) tt;
  stops = λ P cells. plan_stops w P (blank cells);
}
