use Rattle.std.proofs.Common.{◌≡◌, ◌-◌, ◌==◌, ◌∙◌, ap, drop, take, length, arith, rules}
use Rattle.std.proofs.lemmas.Grind.{common_steps}
use Rattle.std.proofs.lemmas.List.{take_rest}
use Rattle.std.specs.List.{before_first}
use Rattle.text.specs.Places.{since}
use Rattle.text.proofs.Running.{cut_part}
use Rattle.text.proofs.place.line_at.Goals as goal

pub returns : goal.returns
returns c =
    let text = c.args.text.now in
    let before : c.unwrap_or-before.result.now ≡ take c.args.at text = grind (arith, common_steps) in
    let line = cut_part (λ b. b == 10) _ c.cut.result.part.now c.cut.result.rest.now c.cut.ensures.whole (λ k l. let h = c.cut.ensures.part k l in search rules) (λ l. let h = c.cut.ensures.end l in search rules) in
    let begin : length c.unwrap_or-before.result.now - c.open_length.result ≡ length (take c.args.at text) - since (take c.args.at text) = cc in
    line ∙ ap (before_first (λ b. b == 10)) (take_rest text _) ∙ ap (λ k. before_first (λ b. b == 10) (drop k text)) begin
