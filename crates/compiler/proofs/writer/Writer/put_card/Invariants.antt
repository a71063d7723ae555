use Rattle.compiler.specs.Laying.{carded}
use Rattle.compiler.specs.Writing.{laid, Writes}
use Rattle.compiler.proofs.writer.Writer.put_card.Given as goal

abbrev pub invariant-loop-k : goal.invariant-loop-k
invariant-loop-k l = Writes l.initial.self l.self (carded (laid l.initial.self) l.at l.twins l.k) l.initial.self.blocks
