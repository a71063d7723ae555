-- The numbers of the refusals.
use Rattle.std.specs.Prelude.{ℕ}
use Rattle.simulator.specs.declared.refusal.Refusal.{Refusal}
use Rattle.simulator.specs.declared.refusal.Refusal.TheVariants.{NotUnderWay, NotIdle, BadCount, TooManySteps, NoSuchPlace, NoSuchCell}

abbrev pub number : Refusal → ℕ
number NotUnderWay = 10
number NotIdle = 11
number BadCount = 12
number TooManySteps = 13
number NoSuchPlace = 14
number NoSuchCell = 15
