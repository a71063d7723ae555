use Rattle.std.proofs.Common.{sym, refl, ap, ◌∙◌}
use Rattle.language.specs.Plans.{assign}
use Rattle.grammar.proofs.Acceptor.{of_let, full, line, named, want, nothing, same, add}
use Rattle.plan.specs.Reading.{tree_in, ask}
use Rattle.plan.proofs.Steps.{err_tell}
use Rattle.plan.proofs.Lines.{let_ends, only_equals}
use Rattle.plan.proofs.reader.Reader.let_line.Goals as goal

pub returns-clause-says : goal.returns-clause-says
returns-clause-says c =
    let n = c.in_ok-variable.ensures in
    let e = c.in_ok-pass.ensures in
    let x = c.in_ok-value.ensures in
    let l = c.in_ok-line_end.ensures in
    let v = c.in_ok-variable.variable in
    let y = c.in_ok-value.value in
    let z = c.line_end.new.self in
    let t = tree_in c.expression.new.self y.root in
    let kept = l.goes.kept y.root x.begun.inside in
    λ p K. n.says 0 p K ∙ e.says 0 p 0 p (named v K) _ refl (only_equals v K) ∙ x.says p (of_let v.number K) ∙ l.says 0 p (full t (of_let v.number K)) (add (assign v.number t) K) (let_ends v.number t K)
    ∙ ap (λ u. ask z 0 p (line (add (assign v.number u) K))) (sym kept)

pub returns-in_err-line_end-clause-says : goal.returns-in_err-line_end-clause-says
returns-in_err-line_end-clause-says c =
    let n = c.in_ok-variable.ensures in
    let e = c.in_ok-pass.ensures in
    let x = c.in_ok-value.ensures in
    let l = c.in_err-line_end.ensures in
    let v = c.in_ok-variable.variable in
    let t = tree_in c.expression.new.self c.in_ok-value.value.root in
    let r = c.from_residual-in_err-line_end.result in
    let f = c.in_err-line_end.field-0.0 in
    let h = c.from_residual-in_err-line_end.ensures.1 in
    λ p K. n.says 0 p K ∙ e.says 0 p 0 p (named v K) _ refl (only_equals v K) ∙ x.says p (of_let v.number K) ∙ l.says 0 p (full t (of_let v.number K)) (add (assign v.number t) K) (let_ends v.number t K) ∙ err_tell r f h _

pub returns-in_err-value-clause-says : goal.returns-in_err-value-clause-says
returns-in_err-value-clause-says c =
    let n = c.in_ok-variable.ensures in
    let e = c.in_ok-pass.ensures in
    let x = c.in_err-value.ensures in
    let v = c.in_ok-variable.variable in
    let r = c.from_residual-in_err-value.result in
    let f = c.in_err-value.field-0.0 in
    let h = c.from_residual-in_err-value.ensures.1 in
    λ p K. n.says 0 p K ∙ e.says 0 p 0 p (named v K) _ refl (only_equals v K) ∙ x.says p (of_let v.number K) ∙ err_tell r f h _

pub returns-in_err-pass-clause-says : goal.returns-in_err-pass-clause-says
returns-in_err-pass-clause-says c =
    let n = c.in_ok-variable.ensures in
    let e = c.in_err-pass.ensures in
    let v = c.in_ok-variable.variable in
    let r = c.from_residual-in_err-pass.result in
    let f = c.in_err-pass.field-0.0 in
    let h = c.from_residual-in_err-pass.ensures.1 in
    λ p K. n.says 0 p K ∙ e.says 0 p 0 p (named v K) (want nothing same same (of_let v.number K)) refl (only_equals v K) ∙ err_tell r f h _
