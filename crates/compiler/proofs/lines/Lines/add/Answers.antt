use Rattle.std.proofs.Common.{None, ap, ◌∙◌}
use Rattle.compiler.specs.Emitting.{emitted}
use Rattle.compiler.proofs.Adding.{emitted-push}
use Rattle.compiler.proofs.lines.Lines.add.Goals as goal

pub returns-then-len-lt-LINES : goal.returns-then-len-lt-LINES
returns-then-len-lt-LINES c h = record {
  code = λ K. ap (λ ls. emitted ls None K) c.push_reserved.ensures.items ∙ emitted-push _ _ None K;
  longer = c.push_reserved.ensures.len;
}
