use Rattle.translation.proofs.Passing.{code_checked}
use Rattle.translation.proofs.checked.code_checked.Goals as goal

pub returns-clause-every : goal.returns-clause-every
returns-clause-every c = code_checked
