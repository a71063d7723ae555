use Rattle.std.proofs.Common.{◌≡◌, Some, sym, ◌∙◌, rules}
use Rattle.plan.specs.Reading.{rest, first, ask}
use Rattle.grammar.proofs.Equal.{same_next}
use Rattle.plan.proofs.Steps.{Skip, skipped, other_next, only-passed, refused}
use Rattle.plan.proofs.reader.Reader.pass.Goals as goal

pub returns-then-eq-clause-says : goal.returns-then-eq-clause-says
returns-then-eq-clause-says c =
    let q = c.skip.ensures in
    let seen : Some c.args.wanted ≡ first (rest c.args.self.now) = same_next c.peek.result c.args.wanted (sym c.eq.ensures ∙ c.if-eq.true) ∙ c.peek.ensures in
    let k : Skip c.args.self.now c.skip.new.self c.args.wanted = skipped seen q.rest q.marks q.plan in
    λ d p d' p' s z e o. only-passed k d p d' p' s z e o

pub returns-else-eq-clause-says : goal.returns-else-eq-clause-says
returns-else-eq-clause-says c =
    let a = c.args.self.now in
    let x = c.refuse.result in
    let other : first (rest a) ≡ Some c.args.wanted → ⊥ = search rules in
    λ d p d' p' s z e o. refused a d p s x (λ _. ask a d' p' z) c.refuse.ensures (other_next c.args.wanted s z _ o other)
