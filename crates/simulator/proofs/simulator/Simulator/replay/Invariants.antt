use Rattle.std.proofs.Common.{◌≡◌, ◌≤◌, length, take, vec_items, vec_len, vec_capacity}
use Rattle.simulator.specs.Model.{model}
use Rattle.simulator.specs.Replay.{Replays}
use Rattle.simulator.proofs.simulator.Simulator.replay.Given as goal

abbrev pub invariant-loop-call : goal.invariant-loop-call
invariant-loop-call g l = let m = g.M.Memory in
    Replays (model m.cells l.initial.self) (take l.call-index l.calls) (vec_items l.answers) (model m.cells l.self)
    × (vec_len l.answers ≡ l.call-index)
    × (length l.calls ≤ vec_capacity l.answers)
