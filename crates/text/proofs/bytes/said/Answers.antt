use Rattle.std.proofs.Common.{◌==◌, rules}
use Rattle.text.proofs.Running.{cut_part}
use Rattle.text.proofs.bytes.said.Goals as goal

pub returns : goal.returns
returns c =
    cut_part (λ b. b == 35) _ _ _ c.cut.ensures.whole (λ k l. let h = c.cut.ensures.part k l in search rules) (λ l. let h = c.cut.ensures.end l in search rules)
