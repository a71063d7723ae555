use Rattle.translation.proofs.Concluding.{code_runs}
use Rattle.translation.proofs.runs.code_runs.Goals as goal

pub returns-clause-every : goal.returns-clause-every
returns-clause-every c = code_runs
