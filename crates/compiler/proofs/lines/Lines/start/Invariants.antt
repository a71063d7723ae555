use Rattle.std.proofs.Common.{◌+◌, ◌≤◌, vec_len}
use Rattle.compiler.specs.Emitting.{Adds, zeros}
use Rattle.compiler.proofs.lines.Lines.start.Given as goal

abbrev pub invariant-loop-number : goal.invariant-loop-number
invariant-loop-number l = vec_len l.initial.self.lines + 6 ≤ 511 → Adds l.initial.self l.self (zeros l.number) l.number
