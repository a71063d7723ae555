-- Worked examples of the check.
use Rattle.std.specs.Prelude.{ℕ, Ok, Err}
use Rattle.checker.specs.declared.fault.CheckFault.TheVariants.{Rule}
use Rattle.checker.specs.Passing.{Judged}
use Rattle.soundness.specs.Worked.{S}
use Rattle.worked.specs.Modules.{merged, folded, twice, one_block, two_blocks}

-- n is the place at which the blue store that reads green's registers is refused
pub record WorkedVerdicts (n : ℕ) : Type 0 where
  pub passes : Judged (one_block S) (Ok tt)
  pub reads_green : Judged (one_block merged) (Err (Rule n))
  -- an operation on two numbers is its result
  pub computed : Judged (one_block folded) (Ok tt)
  -- A + A and 2 × A are not the same tree: refused at blue's store
  pub other_tree : Judged (two_blocks twice) (Err (Rule 8))
