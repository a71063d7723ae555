use Rattle.std.proofs.Common.{◌≤◌, vec_capacity, rules}
use Rattle.blocks.specs.Trees.{room}
use Rattle.blocks.proofs.Entries.{empty_closed, empty_once}
use Rattle.blocks.proofs.table.Table.clear.Goals as goal

pub invariant_of-self : goal.invariant_of-self
invariant_of-self c =
    let e = c.clear.ensures.items in
    let cap : room ≤ vec_capacity c.clear.new.self = search rules in
    record { room = cap; closed = empty_closed _ e; once = empty_once _ e }
