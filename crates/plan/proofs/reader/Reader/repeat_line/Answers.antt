use Rattle.std.proofs.Common.{◌∙◌}
use Rattle.grammar.proofs.Acceptor.{of_count, full, body, plain}
use Rattle.plan.specs.Reading.{tree_in}
use Rattle.plan.proofs.Steps.{err_tell}
use Rattle.plan.proofs.Lines.{count-ends}
use Rattle.plan.proofs.reader.Reader.repeat_line.Goals as goal

pub returns-in_err-line_end-clause-says : goal.returns-in_err-line_end-clause-says
returns-in_err-line_end-clause-says c =
    let x = c.in_ok-count.ensures in
    let l = c.in_err-line_end.ensures in
    let t = tree_in c.expression.new.self c.in_ok-count.count.root in
    let r = c.from_residual-in_err-line_end.result in
    let f = c.in_err-line_end.field-0.0 in
    let h = c.from_residual-in_err-line_end.ensures.1 in
    λ p K. x.says p (of_count K) ∙ l.says 0 p (full t (of_count K)) (body plain t K) (count-ends t K) ∙ err_tell r f h _
