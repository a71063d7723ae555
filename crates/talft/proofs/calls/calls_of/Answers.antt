use Rattle.std.proofs.Common.{vec_items, ap}
use Rattle.talft.proofs.Acting.{none_more, one_more, all_made}
use Rattle.talft.proofs.calls.calls_of.Goals as goal
use Rattle.talft.proofs.calls.calls_of.Goals.{in-Some+in_ok-push, in_default}

pub loop-entry-preserved : goal.loop-entry-preserved
loop-entry-preserved c =
    let ws = c.loop-entry.last.now in
    let es = c.args.entries.now in
    let i = c.loop-entry.entry-index in
    let l = c.loop-entry-test.true in
    let at = c.entry-item.is in
    let b = c.words_behind-last.ensures in
    elim c.match-call_of.branch [
      | in-Some+in_ok-push w ↦ one_more _ ws es i _ c.loop-entry.invariant _ _ at l _ b w.in-Some.call _ _ w.in-Some.ensures (ap vec_items w.calls-is) w.in_ok-push.ensures.items
      | in_default w ↦ none_more _ ws es i _ c.loop-entry.invariant _ _ at l _ b _ w.in_default.ensures (ap vec_items w.calls-is)
    ]

pub returns : goal.returns
returns c = all_made _ c.loop-entry.last.now c.args.entries.now c.loop-entry.entry-index _ c.loop-entry.invariant c.loop-entry-test.false
