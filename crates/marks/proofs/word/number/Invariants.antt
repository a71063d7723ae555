use Rattle.std.proofs.Common.{◌≡◌, ◌^◌, ◌<◌, drop}
use Rattle.marks.specs.Spelling.{value}
use Rattle.marks.proofs.word.number.Given as goal

abbrev pub invariant-loop-digit : goal.invariant-loop-digit
invariant-loop-digit l = (l.value < 2 ^ 32) × (value l.value (drop l.digit-index l.digits) ≡ value 0 l.digits)
