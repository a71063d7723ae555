use Rattle.std.proofs.Common.{◌≡◌, ◌<◌, ◌≤◌, length, drop, vec_len}
use Rattle.language.specs.Plans.{Plan}
use Rattle.plan.specs.Tables.{Closed}
use Rattle.compiler.specs.Emitting.{sofar}
use Rattle.compiler.specs.Selecting.{Small}
use Rattle.compiler.proofs.Flattened.{flat, AllSound}
use Rattle.compiler.proofs.lines.Lines.select.Given as goal

abbrev pub invariant-loop-statement : goal.invariant-loop-statement
invariant-loop-statement l =
    (l.next.0 < 16)
    × ((P : Plan) → Small l.nodes l.statements P → Closed l.nodes → 1024 ≤ length l.fn.slots →
    (AllSound l.nodes (drop l.statement-index l.statements) l.next.0 (vec_len l.self.lines))
    × (sofar l.self (flat l.nodes (drop l.statement-index l.statements) l.next.0 (vec_len l.self.lines)) ≡ sofar l.initial.self (flat l.nodes l.statements 6 6)))
