use Rattle.language.proofs.Lawful.{laws}
use Rattle.language.proofs.laws.endings.Goals as goal

pub returns-clause-laws : goal.returns-clause-laws
returns-clause-laws c = laws
