use Rattle.std.proofs.Common.{◌≡◌, ◌<◌, ◌-◌, ◌^◌, drop}
use Rattle.text.proofs.Reading.{left}
use Rattle.text.proofs.number.digits.Given as goal

abbrev pub invariant-loop-byte : goal.invariant-loop-byte
invariant-loop-byte l = (l.value < 2 ^ 64) × (left (2 ^ 64 - 1) l.radix l.value (drop l.byte-index l.text) ≡ left (2 ^ 64 - 1) l.radix 0 l.text)
