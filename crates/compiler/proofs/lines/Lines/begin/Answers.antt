use Rattle.std.proofs.Common.{arith}
use Rattle.compiler.proofs.Adding.{emitted-entry}
use Rattle.compiler.proofs.lines.Lines.begin.Goals as goal

pub returns : goal.returns
returns c = record { code = λ K. emitted-entry _ _ _ K; longer = omega arith }
