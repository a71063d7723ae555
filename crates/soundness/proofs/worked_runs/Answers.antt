use Rattle.std.proofs.Common.{rules}
use mathlib.Core.Path.{subst⁻¹}
use Rattle.soundness.specs.Worked.{WorkedRuns}
use Rattle.soundness.proofs.Worked.{worked}
use Rattle.soundness.proofs.worked_runs.Goals as goal

pub returns : goal.returns
returns c = subst⁻¹ WorkedRuns {y = 7} (search rules) worked
