use Rattle.std.proofs.Common.{◌≡◌, length}
use Rattle.stack.specs.Items.{items}
use Rattle.grammar.proofs.Acceptor.{Base, line, start}
use Rattle.plan.specs.Lining.{ShowsIn, starts, Ready}
use Rattle.plan.specs.Reading.{rest, ask}
use Rattle.plan.proofs.reader.Reader.lines.Given as goal

abbrev pub invariant-loop-mark : goal.invariant-loop-mark
invariant-loop-mark l =
    Ready l.self l.repeats
    × ((K : Base) × ShowsIn l.self (items l.repeats) K × (ask l.initial.self 0 0 start ≡ ask l.self 0 (length (items l.repeats)) (line K)))
    × (starts l.self ≡ starts l.initial.self)

abbrev pub decreases-loop-mark : goal.decreases-loop-mark
decreases-loop-mark l = length (rest l.self)
