use Rattle.std.proofs.Common.{◌≡◌, ◌+◌, ◌*◌, ◌<◌, length, get_or, drop, sym, ◌∙◌, arith}
use Rattle.std.proofs.lemmas.Grind.{common_steps}
use Rattle.std.specs.Char.{digit_value}
use Rattle.text.proofs.Reading.{left_more, left_large, left_end, numeral_left, unfitting}
use Rattle.text.proofs.number.digits.Goals as goal

pub returns-in_err-value : goal.returns-in_err-value
returns-in_err-value c =
    let bs = c.args.text.now in
    let i = c.loop-byte.byte-index in
    let some : 0 < length bs = omega (arith, c.loop-byte-test.true) in
    let digit : c.in_ok-digit.digit ≡ digit_value (get_or bs i 0) = grind (arith, common_steps) in
    let low : digit_value (get_or bs i 0) < c.args.radix = grind (arith, common_steps) in
    let large = unfitting 18446744073709551615 (c.loop-byte.value * c.args.radix + c.in_ok-digit.digit) (sym c.in_err-value.ensures) in
    let read = numeral_left 18446744073709551615 c.args.radix bs some ∙ sym c.loop-byte.invariant.1 ∙ left_more 18446744073709551615 c.args.radix c.loop-byte.value bs i c.loop-byte-test.true low in
    c.from_residual-in_err-value.ensures ∙ sym (read ∙ left_large 18446744073709551615 c.args.radix _ (drop (i + 1) bs) (omega arith) (omega arith))

pub returns : goal.returns
returns c =
    let bs = c.args.text.now in
    let some : 0 < length bs = grind (arith, common_steps) in
    let end = left_end 18446744073709551615 c.args.radix c.loop-byte.value bs c.loop-byte.byte-index c.loop-byte-test.false (omega (arith, c.loop-byte.invariant.0)) in
    sym end ∙ c.loop-byte.invariant.1 ∙ sym (numeral_left 18446744073709551615 c.args.radix bs some)
