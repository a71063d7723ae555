use Rattle.std.proofs.Common.{◌∙◌}
use Rattle.blocks.proofs.Entering.{started}
use Rattle.blocks.proofs.state.cards.starts.Goals as goal

pub returns : goal.returns
returns c = c.is_some.ensures ∙ started _ _ c.find_block.result c.find_block.ensures
