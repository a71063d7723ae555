use Rattle.std.proofs.Common.{rules}
use Rattle.blocks.proofs.Entering.{entered}
use Rattle.blocks.proofs.state.State.enters.Goals as goal

pub returns : goal.returns
returns c = entered _ _ _ c.find_block.result _ c.find_block.ensures (search rules)
