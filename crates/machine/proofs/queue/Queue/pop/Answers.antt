use Rattle.std.proofs.Common.{rules}
use Rattle.machine.proofs.Pairs.{turned}
use Rattle.machine.proofs.queue.Queue.pop.Goals as goal

pub returns-then-self-gt0 : goal.returns-then-self-gt0
returns-then-self-gt0 c = search (rules, turned)
