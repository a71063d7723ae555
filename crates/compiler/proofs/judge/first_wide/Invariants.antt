use Rattle.std.proofs.Common.{◌≡◌, drop, vec_items}
use Rattle.plan.specs.Tables.{all_parts}
use Rattle.compiler.specs.Widths.{first_wide}
use Rattle.compiler.proofs.judge.first_wide.Given as goal

abbrev pub invariant-loop-statement : goal.invariant-loop-statement
invariant-loop-statement l = first_wide l.widths (all_parts (vec_items l.plan.statements)) ≡ first_wide l.widths (all_parts (drop l.statement-index l.statement-items))
