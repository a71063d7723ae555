-- What a queue holds.
use Rattle.std.specs.Prelude.{List, take}
use Rattle.machine.specs.declared.queue.Pair.{Pair}
use Rattle.machine.specs.declared.queue.Queue.{Queue}

-- the queued pairs, the oldest first
abbrev pub queued : Queue → List Pair
queued q = take q.len q.slots
