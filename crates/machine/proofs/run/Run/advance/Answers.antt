use Rattle.std.proofs.Common.{◌-◌, min, sym, ap, ◌∙◌, rules}
use Rattle.machine.specs.Ends.{going?}
use Rattle.machine.specs.Machine.{Run}
use Rattle.machine.specs.Views.{run_of, kinds}
use Rattle.machine.proofs.Runs.{stopped}
use Rattle.machine.proofs.Accounts.{lawful}
use Rattle.machine.proofs.run.Run.advance.Goals as goal

pub returns-then-not-is_going-clause-does : goal.returns-then-not-is_going-clause-does
returns-then-not-is_going-clause-does g c =
    let m = g.M.Memory in
    let w = (m.cells c.args.memory.now).writable in
    let from = run_of c.args.self.now (m.cells c.args.memory.now) in
    let here = c.loop-taken.invariant.2 in
    here ∙ stopped w (kinds c.args.code.now) from c.loop-taken.taken (min c.args.n (1000000000 - c.args.self.now.steps)) (search rules) (ap (λ (x : Run). going? x.end) (sym here) ∙ search rules)

pub returns-then-not-is_going-clause-laws : goal.returns-then-not-is_going-clause-laws
returns-then-not-is_going-clause-laws g c = lawful _ _ _

pub returns-clause-laws : goal.returns-clause-laws
returns-clause-laws g c = lawful _ _ _
