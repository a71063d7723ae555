use Rattle.std.proofs.Common.{arith, rules}
use Rattle.blocks.proofs.Blocks.{nothing_below, no_pairs_below}
use Rattle.blocks.proofs.state.State.new.Goals as goal

pub invariant_of-result : goal.invariant_of-result
invariant_of-result c =
    record { room = search rules; noted = nothing_below _ _ c.in_ok-notes.ensures; queued = no_pairs_below _ _ c.in_ok-pending.ensures.0; bound = omega arith }
