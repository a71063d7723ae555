use Rattle.std.proofs.Common.{rules}
use Rattle.grammar.specs.declared.mark.Mark.TheVariants.{Variable}
use Rattle.grammar.proofs.Acceptor.{naming}
use Rattle.plan.specs.Reading.{rest, first}
use Rattle.plan.proofs.Steps.{Skip, skipped, Refuses, refused}
use Rattle.plan.proofs.Lines.{no_name, name_passed}
use Rattle.plan.proofs.reader.Reader.name.Goals as goal

pub returns-in_default-clause-says : goal.returns-in_default-clause-says
returns-in_default-clause-says c d p K =
    let a = c.args.self.now in
    let none : Refuses (naming K) (first (rest a)) = search (rules, no_name) in
    refused a d p (naming K) c.refuse.result _ c.refuse.ensures none

pub returns-clause-says : goal.returns-clause-says
returns-clause-says c d p K =
    let q = c.skip.ensures in
    let v = c.in-Some-Variable.variable in
    let k : Skip c.args.self.now c.skip.new.self (Variable v) = skipped (search rules) q.rest q.marks q.plan in
    name_passed v d p K k
