use Rattle.std.proofs.Common.{rules}
use Rattle.std.proofs.Math.Seq.{take-set-lt}
use Rattle.machine.proofs.queue.Queue.set.Goals as goal

pub returns-then-at-self : goal.returns-then-at-self
returns-then-at-self c = search (rules, take-set-lt)
