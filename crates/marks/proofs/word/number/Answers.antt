use Rattle.std.proofs.Common.{◌+◌, ◌-◌, ◌*◌, ◌<◌, get_or, drop, sym, ◌∙◌, arith, rules}
use Rattle.std.proofs.lemmas.List.{at_drop_all}
use Rattle.marks.specs.Spelling.{value}
use Rattle.marks.proofs.Numbers.{value_up, one_more}
use Rattle.marks.proofs.word.number.Goals as goal

pub returns-in_err-value : goal.returns-in_err-value
returns-in_err-value c =
    let ds = c.args.digits.now in
    let i = c.loop-digit.digit-index in
    let v = c.loop-digit.value in
    let up = value_up (v * 10 + (get_or ds i 0 - 48)) (drop (i + 1) ds) in
    let big : 4294967295 < v * 10 + (get_or ds i 0 - 48) = search rules in
    let large : 4294967295 < value 0 ds = omega (arith, big, up, one_more v ds i c.loop-digit-test.true, c.loop-digit.invariant.1) in
    search (rules, large)

pub returns : goal.returns
returns c =
    let ds = c.args.digits.now in
    let v = c.loop-digit.value in
    (sym c.loop-digit.invariant.1 ∙ at_drop_all (value v) ds c.loop-digit.digit-index c.loop-digit-test.false, omega (arith, c.loop-digit.invariant.0))
