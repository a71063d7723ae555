use Rattle.std.proofs.Common.{rules}
use mathlib.Core.Path.{subst⁻¹}
use Rattle.soundness.specs.Finding.{Finding}
use Rattle.soundness.proofs.Finding.{finding}
use Rattle.soundness.proofs.strikes_are_found.Goals as goal

pub returns-clause-found : goal.returns-clause-found
returns-clause-found c = subst⁻¹ Finding {y = 16} (search rules) finding
