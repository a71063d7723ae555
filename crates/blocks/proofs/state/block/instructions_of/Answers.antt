use Rattle.blocks.proofs.Blocks.{code_pairs}
use Rattle.blocks.proofs.state.block.instructions_of.Goals as goal

pub returns-clause-code : goal.returns-clause-code
returns-clause-code c = code_pairs c.args.part.now _ _ c.as_chunks.ensures.front c.as_chunks.ensures.front_len c.min.ensures
