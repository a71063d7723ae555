use Rattle.std.proofs.Common.{◌≡◌, max, drop, vec_items}
use Rattle.plan.specs.Tables.{all_parts}
use Rattle.compiler.specs.Widths.{widest_of}
use Rattle.compiler.proofs.judge.widest.Given as goal

abbrev pub invariant-loop-statement : goal.invariant-loop-statement
invariant-loop-statement l = widest_of l.widths (all_parts (vec_items l.plan.statements)) ≡ max l.most (widest_of l.widths (all_parts (drop l.statement-index l.statement-items)))
