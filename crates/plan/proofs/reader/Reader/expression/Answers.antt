use Rattle.std.proofs.Common.{◌≡◌, Err, sym, ◌∙◌}
use Rattle.plan.specs.declared.fault.ReadFault.TheVariants as fault-is
use Rattle.plan.specs.Reading.{rest, place_of}
use Rattle.plan.proofs.Beginning.{place_is}
use Rattle.plan.proofs.Steps.{err_tell}
use Rattle.plan.proofs.Lines.{strange_met}
use Rattle.plan.proofs.reader.Reader.expression.Goals as goal

pub returns-clause-begun : goal.returns-clause-begun
returns-clause-begun c =
    let r = c.in_ok-root.ensures.part in
    record { inside = r.inside; counts = r.counts; place_is = place_is c.in_ok-root.root c.in_ok-place.place r.goes r.counts (sym c.in_ok-place.was ∙ c.place.ensures) }

pub returns-in_err-place-clause-says : goal.returns-in_err-place-clause-says
returns-in_err-place-clause-says c =
    let a = c.args.self.now in
    let f = c.in_err-place.field-0.0 in
    let x = c.from_residual.result in
    let h = c.from_residual.ensures.1 in
    let e : Err f ≡ place_of (rest a) a.marks.end = sym c.in_err-place.was ∙ c.place.ensures in
    λ p k. strange_met a f _ p _ e ∙ err_tell x (fault-is.Mark f) h _
