use Rattle.std.proofs.Common.{◌≡◌, ap, ◌∙◌, rules}
use Rattle.isa.specs.Words.{first_word, second_word, kind_of}
use Rattle.isa.proofs.RoundTrip.{encoded}
use Rattle.isa.proofs.words.decode.Goals as goal

pub returns-clause-back : goal.returns-clause-back
returns-clause-back c = λ h.
    let e = encoded c.args.first c.args.second h in
    let k : c.assemble.result.kind ≡ kind_of c.args.first c.args.second = search rules in
    (ap first_word k ∙ e.0, ap second_word k ∙ e.1)
