use Rattle.compiler.proofs.Once.{decided_once}
use Rattle.compiler.proofs.unique.verdicts_are_unique.Goals as goal

pub returns : goal.returns
returns c =
    let m = c.marks_are_unique.ensures in
    record { one = m.one; once = decided_once m.marks m.judged m.tree }
