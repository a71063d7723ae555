-- The worked examples of the check, computed.
use Rattle.std.proofs.Common.{refl, lit<}
use Rattle.isa.specs.Layout.{every}
use Rattle.rules.specs.Limits.{in_force}
use Rattle.rules.specs.Expressions.{same?}
use Rattle.rules.specs.Cards.{met?, entry}
use Rattle.rules.specs.Module.{kept_at}
use Rattle.rules.specs.Words.{module_of}
use Rattle.rules.proofs.Layouts.{every-at}
use Rattle.soundness.specs.Worked.{S}
use Rattle.worked.specs.Modules.{merged, folded, twice, one_block, two_blocks}
use Rattle.worked.specs.Verdicts.{WorkedVerdicts}

pub verdicts : WorkedVerdicts 5
unfolding every same? met? entry
verdicts = record {
  passes = (refl, refl, λ p. every-at 7 p (kept_at in_force (module_of (one_block S))) refl);
  reads_green = (record { code = refl; blocks = refl }, record { place = lit< tt; before = λ q. every-at 5 q (kept_at in_force (module_of (one_block merged))) refl; broken = refl });
  computed = (refl, refl, λ p. every-at 9 p (kept_at in_force (module_of (one_block folded))) refl);
  other_tree = (record { code = refl; blocks = refl }, record { place = lit< tt; before = λ q. every-at 8 q (kept_at in_force (module_of (two_blocks twice))) refl; broken = refl });
}
