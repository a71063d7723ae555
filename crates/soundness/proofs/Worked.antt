-- The worked examples, computed.
use Rattle.std.proofs.Common.{refl}
use lib.Count.{ones}
use Rattle.soundness.specs.Worked.{WorkedRuns}

pub worked : WorkedRuns 7
unfolding ones
worked cells = record {
  whole_end = refl;
  whole_steps = refl;
  whole_going = refl;
  whole_stores = refl;
  whole_cells = refl;
  early_bits = refl;
  early_end = refl;
  early_steps = refl;
  early_going = refl;
  early_stores = refl;
  early_cells = refl;
  late_end = refl;
  late_stores = refl;
  late_cells = refl;
  counter_end = refl;
  counter_steps = refl;
}
