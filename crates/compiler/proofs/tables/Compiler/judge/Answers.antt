use Rattle.std.proofs.Common.{◌≡◌, length, vec_items, sym, ap, ◌∙◌, subst, arith}
use Rattle.std.proofs.lemmas.Result.{err_from_is_err_and}
use Rattle.std.proofs.lemmas.Bool.{ltb-true, ltb-false}
use Rattle.plan.specs.declared.tables.Plan.{Plan as Tables}
use Rattle.plan.specs.Tables.{all_parts}
use Rattle.compiler.specs.declared.fault.CompileFault.{CompileFault}
use Rattle.compiler.specs.Compiling.{Ready, Judges}
use Rattle.compiler.specs.Deciding.{refused, Decided, long_text, short_output}
use Rattle.compiler.specs.Faults.{number, place, layer}
use Rattle.compiler.specs.Widths.{widest_of}
use Rattle.compiler.proofs.Judging.{unread-is, Seen, seen, wide_verdict, large_verdict, fine_verdict}
use Rattle.compiler.proofs.tables.Compiler.judge.Goals as goal

pub returns-then-too_long-clause-judges : goal.returns-then-too_long-clause-judges
returns-then-too_long-clause-judges c = long_text (ltb-true 8192 (length c.args.text.now) (sym c.if-too_long.ensures))

pub returns-then-too_short-clause-judges : goal.returns-then-too_short-clause-judges
returns-then-too_short-clause-judges c = short_output (ltb-false 8192 (length c.args.text.now) (sym c.if-too_long.ensures)) (ltb-true c.args.room 2626 (sym c.if-too_short.ensures))

pub returns-in_err-read-clause-judges : goal.returns-in_err-read-clause-judges
returns-in_err-read-clause-judges c =
    let p = err_from_is_err_and c.from_residual.result c.from_residual.ensures.1 in
    let h = unread-is c.args.text.now c.args.room c.in_err-read.field-0.0 (sym c.if-too_long.ensures) (sym c.if-too_short.ensures) c.in_err-read.ensures.0 in
    let P : CompileFault → Type 0 = λ e. Decided c.args.text.now c.args.room (refused (number e) (place e) (layer e)) in
    subst (Judges c.args.text.now c.args.room c.read.new.self.plan c.args.self.now.widest) (sym p.1) (subst P (sym p.2) h)

pub returns-in-Some-clause-judges : goal.returns-in-Some-clause-judges
returns-in-Some-clause-judges c =
    let t = c.plan-plan.result.now in
    let ws = c.deref.result.now in
    let S : Seen c.args.text.now c.args.room t ws = seen (sym c.if-too_long.ensures) (sym c.if-too_short.ensures) c.in_ok-read.ensures c.plan-plan.ensures c.deref.ensures.value (c.deref.ensures.len ∙ c.measure.ensures.len ∙ omega arith) c.measure.ensures.measured in
    wide_verdict c.args.text.now c.args.room t ws S c.in-Some.place (sym c.first_wide.ensures ∙ c.in-Some.is)

pub returns-then-too_large-clause-judges : goal.returns-then-too_large-clause-judges
returns-then-too_large-clause-judges c =
    let t = c.plan-plan.result.now in
    let ws = c.deref.result.now in
    let S : Seen c.args.text.now c.args.room t ws = seen (sym c.if-too_long.ensures) (sym c.if-too_short.ensures) c.in_ok-read.ensures c.plan-plan.ensures c.deref.ensures.value (c.deref.ensures.len ∙ c.measure.ensures.len ∙ omega arith) c.measure.ensures.measured in
    large_verdict c.args.text.now c.args.room t ws S (sym c.first_wide.ensures ∙ c.in_default.is) (sym c.if-too_large.ensures)

pub returns-clause-judges : goal.returns-clause-judges
returns-clause-judges c =
    let t = c.plan-plan.result.now in
    let ws = c.deref.result.now in
    let S : Seen c.args.text.now c.args.room t ws = seen (sym c.if-too_long.ensures) (sym c.if-too_short.ensures) c.in_ok-read.ensures c.plan-plan.ensures c.deref.ensures.value (c.deref.ensures.len ∙ c.measure.ensures.len ∙ omega arith) c.measure.ensures.measured in
    let same : c.deref-2.result.now ≡ ws = c.deref-2.ensures.value ∙ sym c.deref.ensures.value in
    let w-is : c.widest-self.result ≡ widest_of ws (all_parts (vec_items t.statements)) = c.widest-self.ensures ∙ ap (λ l. widest_of l (all_parts (vec_items t.statements))) same in
    let R = fine_verdict c.args.text.now c.args.room t ws S (sym c.first_wide.ensures ∙ c.in_default.is) (sym c.if-too_large.ensures) c.widest-self.result w-is in
    let P : Tables → Type 0 = λ x. Ready c.args.text.now c.args.room x c.widest-self.result in
    subst P c.plan-plan.ensures R
