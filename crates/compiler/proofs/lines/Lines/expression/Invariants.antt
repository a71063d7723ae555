use Rattle.std.proofs.Common.{◌+◌, ◌≤◌, length, vec_len}
use Rattle.stack.specs.Items.{items, room}
use Rattle.compiler.specs.Halves.{FitsExpression, pending, line_count, weight, total}
use Rattle.compiler.proofs.Halving.{Going}
use Rattle.compiler.proofs.lines.Lines.expression.Given as goal

-- the code so far and the halves on the stack are those that were on it at first; their lines and their parts have room, and there are turns for their parts
abbrev pub invariant-loop : goal.invariant-loop
invariant-loop l =
    let first = items l.initial.stack in
    FitsExpression l.nodes (length l.fn.slots) (vec_len l.initial.self.lines) l.fn.twin.number l.fn.root →
    (Going l.nodes l.initial.self l.self (items l.stack) (pending l.nodes first) (total l.nodes (line_count l.nodes) first))
    × (vec_len l.self.lines + total l.nodes (line_count l.nodes) (items l.stack) ≤ 511)
    × (total l.nodes (weight l.nodes) (items l.stack) + l.counter ≤ 1024)
    × (1024 ≤ room l.stack)
