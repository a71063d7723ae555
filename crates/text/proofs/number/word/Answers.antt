use Rattle.std.proofs.Common.{option_and_then, sym, ap, ◌∙◌, arith}
use Rattle.std.proofs.lemmas.Grind.{common_steps}
use Rattle.text.specs.Numbers.{fitting}
use Rattle.text.proofs.Reading.{narrow_number}
use Rattle.text.proofs.number.word.Goals as goal

pub returns-in_err-wide : goal.returns-in_err-wide
returns-in_err-wide c =
    let e = narrow_number 4294967295 18446744073709551615 (omega arith) c.args.text.now in
    c.from_residual.ensures ∙ ap (option_and_then (fitting 4294967295)) c.in_err-wide.ensures ∙ sym e

pub returns : goal.returns
returns c =
    let e = narrow_number 4294967295 18446744073709551615 (omega arith) c.args.text.now in
    grind (arith, common_steps, e, c.in_ok-wide.ensures)
