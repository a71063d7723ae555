-- The ends of a run and their numbers.
use Rattle.std.specs.Prelude.{ℕ, Bool, true, false}
use Rattle.machine.specs.declared.ends.Report.TheVariants.{CountersDiffer, StoreDiffers, Destination, Queue, Outside}
use Rattle.machine.specs.declared.ends.End.{End}
use Rattle.machine.specs.declared.ends.End.TheVariants.{Going, Halted, NoSuchCell, Reported}

-- 0 going, 1 halted, 2 no such cell, 3 to 7 the reports
abbrev pub number : End → ℕ
number Going = 0
number Halted = 1
number NoSuchCell = 2
number (Reported CountersDiffer) = 3
number (Reported StoreDiffers) = 4
number (Reported Destination) = 5
number (Reported Queue) = 6
number (Reported Outside) = 7

-- whether the run goes on
abbrev pub going? : End → Bool
going? Going = true
going? Halted = false
going? NoSuchCell = false
going? (Reported r) = false
