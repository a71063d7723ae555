use Rattle.std.proofs.Common.{◌≡◌, map}
use Rattle.std.specs.List.{range_with_len}
use Rattle.isa.specs.Layout.{kind_at}
use Rattle.machine.specs.Views.{kinds}
use Rattle.simulator.proofs.fill.fill_code.Given as goal

abbrev pub invariant-loop-place : goal.invariant-loop-place
invariant-loop-place l = kinds l.code ≡ map (kind_at l.words) (range_with_len 0 l.place)
