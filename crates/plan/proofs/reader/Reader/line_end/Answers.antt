use Rattle.std.proofs.Common.{◌≡◌, Some, None, Err, sym, refl, ◌∙◌, subst, rules}
use Rattle.grammar.specs.declared.mark.Mark.TheVariants.{LineEnd}
use Rattle.plan.specs.declared.fault.ReadFault.TheVariants as fault-is
use Rattle.plan.specs.Reading.{rest, first, place_of}
use Rattle.plan.specs.Lining.{NotLineEnd}
use Rattle.plan.proofs.Steps.{Skip, skipped, Refuses, goes_refl, refused, err_tell}
use Rattle.plan.proofs.Lines.{ended, strange_met, line_passed}
use Rattle.plan.proofs.reader.Reader.line_end.Goals as goal

pub returns-in_ok-place-in-None-clause-says : goal.returns-in_ok-place-in-None-clause-says
returns-in_ok-place-in-None-clause-says c d p s K e =
    let a = c.args.self.now in
    let none : None ≡ first (rest a) = search rules in
    ended a d p s K none e

pub returns-in_err-place-in-None-clause-says : goal.returns-in_err-place-in-None-clause-says
returns-in_err-place-in-None-clause-says c d p s K q =
    let a = c.args.self.now in
    let f = c.in_err-place-in-None.field-0.0 in
    let e : Err f ≡ place_of (rest a) a.marks.end = sym c.in_err-place-in-None.was ∙ c.place.ensures in
    strange_met a f d p s e ∙ err_tell c.from_residual.result (fault-is.Mark f) c.from_residual.ensures.1 _

pub returns-in-Some-LineEnd-clause-says : goal.returns-in-Some-LineEnd-clause-says
returns-in-Some-LineEnd-clause-says c d p s K e =
    let q = c.skip.ensures in
    let k : Skip c.args.self.now c.skip.new.self LineEnd = skipped (search rules) q.rest q.marks q.plan in
    line_passed d p s K k e

pub returns-in-Some : goal.returns-in-Some
returns-in-Some c =
    let a = c.args.self.now in
    let m = c.in-Some.field-0 in
    let none : NotLineEnd m = search rules in
    let seen : Some m ≡ first (rest a) = search rules in
    record { goes = goes_refl a; quiet = refl; plan = refl; says = λ d p s K e. refused a d p s c.refuse.result _ c.refuse.ensures (subst (Refuses s) seen (e.others m none)) }
