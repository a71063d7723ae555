use Rattle.plan.proofs.Finishing.{empty_holds}
use Rattle.plan.proofs.reader.Reader.new.Goals as goal

pub returns : goal.returns
returns c =
    let p = c.in_ok-plan.ensures in
    empty_holds c.in_ok-plan.plan p.nodes p.statements
