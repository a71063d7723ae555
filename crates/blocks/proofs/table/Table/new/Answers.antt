use Rattle.blocks.proofs.Entries.{empty_closed, empty_once}
use Rattle.blocks.proofs.table.Table.new.Goals as goal

pub invariant_of-result : goal.invariant_of-result
invariant_of-result c =
    let m = c.in_ok-nodes.ensures in
    record { room = m.capacity; closed = empty_closed _ m.items; once = empty_once _ m.items }
