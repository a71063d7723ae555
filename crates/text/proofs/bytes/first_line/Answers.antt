use Rattle.std.proofs.Common.{◌≡◌, ◌==◌, ◌∙◌, drop, arith, rules}
use Rattle.std.proofs.lemmas.Grind.{common_steps}
use Rattle.text.proofs.Running.{cut_part, cut_behind}
use Rattle.text.proofs.bytes.first_line.Goals as goal

pub returns-clause-part : goal.returns-clause-part
returns-clause-part c =
    cut_part (λ b. b == 10) _ _ _ c.cut-line.ensures.whole (λ k l. let h = c.cut-line.ensures.part k l in search rules) (λ l. let h = c.cut-line.ensures.end l in search rules)

pub returns-clause-rest : goal.returns-clause-rest
returns-clause-rest c =
    let one : c.unwrap_or.result.now ≡ drop 1 c.cut-line.result.rest.now = grind (arith, common_steps) in
    one
    ∙ cut_behind (λ b. b == 10) _ _ _ c.cut-line.ensures.whole (λ k l. let h = c.cut-line.ensures.part k l in search rules) (λ l. let h = c.cut-line.ensures.end l in search rules)
