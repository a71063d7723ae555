use Rattle.std.proofs.Common.{not, arith, rules}
use Rattle.std.proofs.lemmas.Grind.{common_steps}
use Rattle.text.specs.Bytes.{white}
use Rattle.text.proofs.Running.{Avoids, Ends, word_first, word_none}
use Rattle.text.proofs.bytes.first_word.Goals as goal

pub returns : goal.returns
returns c =
    let light : Avoids (λ b. not (white b)) c.cut.result.part.now = λ k l. let h = c.cut.ensures.part k l in search rules in
    let first : Ends (λ b. not (white b)) c.cut.result.rest.now = λ l. let h = c.cut.ensures.end l in search rules in
    let dark : Avoids white c.cut-first.result.part.now = λ k l. let h = c.cut-first.ensures.part k l in search rules in
    let over : Ends white c.cut-first.result.rest.now = λ l. let h = c.cut-first.ensures.end l in search rules in
    let some = word_first c.args.text.now c.cut.result.part.now c.cut.result.rest.now c.cut-first.result.part.now c.cut-first.result.rest.now c.cut.ensures.whole light c.cut-first.ensures.whole dark over in
    let none = word_none c.args.text.now c.cut.result.part.now c.cut.result.rest.now c.cut-first.result.part.now c.cut-first.result.rest.now c.cut.ensures.whole light c.cut-first.ensures.whole first over in
    grind (arith, common_steps, some, none)
