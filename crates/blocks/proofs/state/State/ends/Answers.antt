use Rattle.std.proofs.Common.{rules}
use Rattle.blocks.specs.View.{view}
use Rattle.blocks.proofs.Entering.{ended}
use Rattle.blocks.proofs.state.State.ends.Goals as goal

pub returns : goal.returns
returns c = ended _ _ (view c.args.self.now) c.get.result _ c.get.ensures.lookup (search rules)
