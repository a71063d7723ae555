use Rattle.std.proofs.Common.{sym, refl, arith, take_all}
use Rattle.std.proofs.lemmas.List.{take_more}
use Rattle.simulator.specs.Replay.Replays.{none}
use Rattle.simulator.proofs.Replaying.{replays_more, replays_along}
use Rattle.simulator.proofs.Standing.{found_after}
use Rattle.simulator.proofs.simulator.Simulator.replay.Goals as goal

pub loop-call-init : goal.loop-call-init
loop-call-init g c =
    let made = c.in_ok-answers.ensures in
    (replays_along refl refl (sym made.items) none, made.len, made.capacity)

pub loop-call-preserved : goal.loop-call-preserved
loop-call-preserved g c =
    let calls = c.args.calls.now in
    let i = c.loop-call.call-index in
    let inv = c.loop-call.invariant in
    let pushed = c.push_reserved.ensures in
    let longer = take_more calls i _ c.loop-call-test.true in
    (replays_along refl (sym longer) (sym pushed.items) (replays_more inv.0 c.apply.ensures), omega (arith, pushed.len, inv.1), omega (arith, pushed.capacity, inv.2))

pub returns-clause-found : goal.returns-clause-found
returns-clause-found g c = found_after (replays_along refl (take_all _ _ c.loop-call-test.false) refl c.loop-call.invariant.0)
