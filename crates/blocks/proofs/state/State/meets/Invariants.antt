use Rattle.std.proofs.Common.{◌≡◌, length, drop}
use Rattle.rules.specs.Cards.{met?}
use Rattle.blocks.specs.View.{view, known, count}
use Rattle.blocks.specs.Meeting.{seen_in, FirstBelow}
use Rattle.blocks.proofs.Meetings.{meet_from?}
use Rattle.blocks.proofs.state.State.meets.Given as goal

abbrev pub invariant-loop-r : goal.invariant-loop-r
invariant-loop-r l =
    (met? l.card (view l.self).notes ≡ meet_from? (seen_in (known l.self) l.first) l.r (drop l.r l.card) (view l.self).notes)
    × FirstBelow (count l.self) l.first
    × (length l.first ≡ 32)
