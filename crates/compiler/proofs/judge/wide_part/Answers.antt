use Rattle.std.proofs.Common.{◌≡◌, ℕ, ◌∷◌, ◌++◌, Some, None, Option, sym, refl, ap, ◌∙◌}
use Rattle.std.specs.Option.{option_or}
use Rattle.plan.specs.Tables.{parts}
use Rattle.compiler.specs.Widths.{first_wide}
use Rattle.compiler.proofs.judge.wide_part.Goals as goal

grouped : (o p q : Option ℕ) → option_or o (option_or p q) ≡ option_or (option_or o p) q
grouped None p q = refl
grouped (Some x) p q = refl

pub returns-in-Put : goal.returns-in-Put
returns-in-Put c rest =
    let ws = c.args.widths.now in
    let w = c.in-Put.word in
    let o = c.wide.result in
    ap (λ s. first_wide ws (parts s ++ rest)) c.in-Put.is ∙ c.wide.ensures (w ∷ rest) ∙ ap (option_or o) (c.wide-in-Put.ensures rest)
    ∙ grouped o c.wide-in-Put.result (first_wide ws rest) ∙ ap (λ p. option_or p (first_wide ws rest)) (sym c.or.ensures)
