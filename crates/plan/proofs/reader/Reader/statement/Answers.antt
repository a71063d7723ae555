use Rattle.std.proofs.Common.{◌∙◌, rules}
use Rattle.std.proofs.lemmas.Result.{IfOk-from_err}
use Rattle.grammar.specs.declared.mark.Mark.TheVariants.{Let, Put}
use Rattle.plan.specs.Lining.{NoLine}
use Rattle.plan.proofs.Beginning.{behind-put}
use Rattle.plan.proofs.Steps.{Skip, skipped, goes_refl, by_err}
use Rattle.plan.proofs.Lines.{let_passed, put_passed, no_line}
use Rattle.plan.proofs.reader.Reader.statement.Goals as goal

pub returns-in-Let-clause-says : goal.returns-in-Let-clause-says
returns-in-Let-clause-says c =
    let q = c.skip.ensures in
    let r = c.let_line.ensures in
    let k : Skip c.args.self.now c.skip.new.self Let = skipped (search rules) q.rest q.marks q.plan in
    λ p K. let_passed 0 p K k ∙ r.says p K

pub returns-in-Put-clause-placed : goal.returns-in-Put-clause-placed
returns-in-Put-clause-placed c =
    let q = c.skip-in-Put.ensures in
    let r = c.put_line.ensures in
    let k : Skip c.args.self.now c.skip-in-Put.new.self Put = skipped (search rules) q.rest q.marks q.plan in
    behind-put c.put_line.new.self k c.put_line.result r.placed

pub returns-in-Put-clause-says : goal.returns-in-Put-clause-says
returns-in-Put-clause-says c =
    let q = c.skip-in-Put.ensures in
    let r = c.put_line.ensures in
    let k : Skip c.args.self.now c.skip-in-Put.new.self Put = skipped (search rules) q.rest q.marks q.plan in
    λ p K. put_passed 0 p K k ∙ r.says p K

pub returns-in_default : goal.returns-in_default
returns-in_default c =
    let a = c.args.self.now in
    let x = c.refuse.result in
    let h = c.refuse.ensures in
    let none : NoLine c.args.mark = search rules in
    record {
      goes = goes_refl a;
      less = IfOk-from_err x _ (by_err x _ h);
      laid = IfOk-from_err x _ (by_err x _ h);
      placed = IfOk-from_err x _ (by_err x _ h);
      says = λ p K. no_line a _ p K c.args.mark x _ h c.requires.seen none;
    }
