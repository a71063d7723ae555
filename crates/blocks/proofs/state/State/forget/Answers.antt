use Rattle.std.proofs.Common.{arith, rules}
use Rattle.blocks.proofs.Blocks.{nothing_below, no_pairs_below}
use Rattle.blocks.proofs.state.State.forget.Goals as goal

pub invariant_of-self : goal.invariant_of-self
invariant_of-self c = record { room = search rules; noted = nothing_below _ _ c.clear.ensures; queued = no_pairs_below _ _ c.clear-2.ensures.items; bound = omega arith }
