use Rattle.std.proofs.Common.{◌≡◌, get_or, rules}
use Rattle.marks.specs.declared.word.Kind.TheVariants.{Number}
use Rattle.marks.specs.Spelling.{kind_of}
use Rattle.marks.proofs.Spelled.{whole-some, whole-digits}
use Rattle.marks.proofs.word.spelled.Goals as goal

pub returns-in_ok-number-in-48-to-57 : goal.returns-in_ok-number-in-48-to-57
returns-in_ok-number-in-48-to-57 c =
    let s = c.args.bytes.now in
    let k : kind_of (get_or s 0 0) ≡ Number = search rules in
    record { some = whole-some s c.requires; digits = whole-digits s c.requires k; canonical = search rules; is = search rules; small = search rules }
