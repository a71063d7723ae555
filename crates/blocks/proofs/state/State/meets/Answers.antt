use Rattle.std.proofs.Common.{◌<◌, length, sym, refl, ap, ◌∙◌, arith}
use Rattle.blocks.specs.Meeting.{seen_in}
use Rattle.blocks.specs.View.{view, known, count}
use Rattle.blocks.proofs.Meetings.{meet_from?, met_from, seen_none, first_none, meet_goes}
use Rattle.blocks.proofs.state.State.meets.Goals as goal

pub loop-r-init : goal.loop-r-init
loop-r-init c =
    let s = c.args.self.now in
    (met_from c.args.card.now (view s).notes ∙ ap (λ σ. meet_from? σ 0 c.args.card.now (view s).notes) (sym (seen_none (known s) 32)), first_none (count s) 32, refl)

pub loop-r-preserved : goal.loop-r-preserved
loop-r-preserved c =
    let s = c.args.self.now in
    let low : c.loop-r.r < length c.args.card.now = omega arith in
    let m = c.if-not-meet.ensures in
    (meet_goes _ (seen_in (known s) c.loop-r.first) _ c.args.card.now (view s).notes c.loop-r.r _ low c.loop-r.invariant.0 m.answer (m.after refl), m.below, c.meet.array_long)
