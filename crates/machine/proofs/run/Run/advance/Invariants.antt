use Rattle.std.proofs.Common.{◌≡◌, ◌+◌}
use Rattle.machine.specs.Machine.{after}
use Rattle.machine.specs.Views.{run_of, kinds}
use Rattle.machine.proofs.run.Run.advance.Given as goal

abbrev pub invariant-loop-taken : goal.invariant-loop-taken
invariant-loop-taken g l = let m = g.M.Memory in
    (l.self.steps ≡ l.initial.self.steps + l.taken)
    × ((m.cells l.memory).writable ≡ (m.cells l.initial.memory).writable)
    × (run_of l.self (m.cells l.memory) ≡ after (m.cells l.initial.memory).writable (kinds l.code) (run_of l.initial.self (m.cells l.initial.memory)) l.taken)
