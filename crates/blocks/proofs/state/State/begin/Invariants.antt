use Rattle.std.proofs.Common.{◌≡◌, ◌≤◌, take}
use Rattle.rules.specs.Cards.{fresh}
use Rattle.blocks.specs.View.{view, count}
use Rattle.blocks.proofs.state.State.begin.Given as goal

abbrev pub invariant-loop-r : goal.invariant-loop-r
invariant-loop-r l = (view l.self ≡ fresh (take l.r l.card)) × (count l.self ≤ l.r)
