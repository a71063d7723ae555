use Rattle.std.proofs.Common.{◌<◌, length, ap, ◌∙◌, arith}
use Rattle.blocks.specs.View.{note_card}
use Rattle.blocks.proofs.Blocks.{fresh-more}
use Rattle.blocks.proofs.state.State.begin.Goals as goal

pub loop-r-preserved : goal.loop-r-preserved
loop-r-preserved c =
    let low : c.loop-r.r < length c.args.card.now = omega arith in
    (c.open.ensures.after ∙ ap (note_card _ _) c.loop-r.invariant.0 ∙ fresh-more c.args.card.now _ _ low, omega arith)
