use Rattle.std.proofs.Common.{sym, refl, ap, ◌∙◌}
use Rattle.language.specs.Plans.{store}
use Rattle.grammar.proofs.Acceptor.{of_address, of_value, full, line, want, nothing, same, add}
use Rattle.plan.specs.Reading.{tree_in, ask}
use Rattle.plan.proofs.Steps.{goes_then, err_tell}
use Rattle.plan.proofs.Lines.{value-ends, only_comma}
use Rattle.plan.proofs.reader.Reader.put_line.Goals as goal

pub returns-clause-says : goal.returns-clause-says
returns-clause-says c =
    let x = c.in_ok-address.ensures in
    let m = c.in_ok-pass.ensures in
    let y = c.in_ok-value.ensures in
    let l = c.in_ok-line_end.ensures in
    let i = c.in_ok-address.address in
    let j = c.in_ok-value.value in
    let a = tree_in c.expression.new.self i.root in
    let t = tree_in c.expression-2.new.self j.root in
    let b = c.line_end.new.self in
    let g = goes_then m.goes (goes_then y.goes l.goes) in
    let ka = g.kept i.root x.begun.inside in
    let kt = l.goes.kept j.root y.begun.inside in
    λ p K. x.says p (of_address K) ∙ m.says 0 p 0 p (full a (of_address K)) _ refl (only_comma a K) ∙ y.says p (of_value a K) ∙ l.says 0 p (full t (of_value a K)) (add (store a t) K) (value-ends a t K)
    ∙ ap (λ u. ask b 0 p (line (add (store u t) K))) (sym ka) ∙ ap (λ u. ask b 0 p (line (add (store (tree_in b i.root) u) K))) (sym kt)

pub returns-in_err-line_end-clause-says : goal.returns-in_err-line_end-clause-says
returns-in_err-line_end-clause-says c =
    let x = c.in_ok-address.ensures in
    let m = c.in_ok-pass.ensures in
    let y = c.in_ok-value.ensures in
    let l = c.in_err-line_end.ensures in
    let j = c.in_ok-value.value in
    let a = tree_in c.expression.new.self c.in_ok-address.address.root in
    let t = tree_in c.expression-2.new.self j.root in
    let r = c.from_residual-in_err-line_end.result in
    let f = c.in_err-line_end.field-0.0 in
    let h = c.from_residual-in_err-line_end.ensures.1 in
    λ p K. x.says p (of_address K) ∙ m.says 0 p 0 p (full a (of_address K)) _ refl (only_comma a K) ∙ y.says p (of_value a K) ∙ l.says 0 p (full t (of_value a K)) (add (store a t) K) (value-ends a t K) ∙ err_tell r f h _

pub returns-in_err-value-clause-says : goal.returns-in_err-value-clause-says
returns-in_err-value-clause-says c =
    let x = c.in_ok-address.ensures in
    let m = c.in_ok-pass.ensures in
    let y = c.in_err-value.ensures in
    let a = tree_in c.expression.new.self c.in_ok-address.address.root in
    let r = c.from_residual-in_err-value.result in
    let f = c.in_err-value.field-0.0 in
    let h = c.from_residual-in_err-value.ensures.1 in
    λ p K. x.says p (of_address K) ∙ m.says 0 p 0 p (full a (of_address K)) _ refl (only_comma a K) ∙ y.says p (of_value a K) ∙ err_tell r f h _

pub returns-in_err-pass-clause-says : goal.returns-in_err-pass-clause-says
returns-in_err-pass-clause-says c =
    let x = c.in_ok-address.ensures in
    let m = c.in_err-pass.ensures in
    let a = tree_in c.expression.new.self c.in_ok-address.address.root in
    let r = c.from_residual-in_err-pass.result in
    let f = c.in_err-pass.field-0.0 in
    let h = c.from_residual-in_err-pass.ensures.1 in
    λ p K. x.says p (of_address K) ∙ m.says 0 p 0 p (full a (of_address K)) (want nothing same same (of_value a K)) refl (only_comma a K) ∙ err_tell r f h _
