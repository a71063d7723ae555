-- The worked example is within the limits.
use Rattle.std.proofs.Common.{arith}
use Rattle.language.specs.Limits.{Within, in_force}
use Rattle.language.specs.Sample.{sample}

pub sample-within : Within in_force sample
sample-within = record { proper = omega arith; narrow = omega arith; small = omega arith; few = omega arith; shallow = omega arith }
