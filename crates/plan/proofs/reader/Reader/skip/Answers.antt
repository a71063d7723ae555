use Rattle.plan.proofs.Front.{tail_at}
use Rattle.plan.proofs.reader.Reader.skip.Goals as goal

pub returns-then-self-placed-clause-rest : goal.returns-then-self-placed-clause-rest
returns-then-self-placed-clause-rest c = tail_at _ _ c.args.self.now.at c.placed.ensures c.if-self-placed.true
