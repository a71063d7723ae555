-- The front of what is still to be read.
use Rattle.std.proofs.Common.{◌≡◌, ℕ, ◌+◌, ◌<◌, List, length, drop, sym, ap, ◌∙◌}
use Rattle.std.proofs.lemmas.List.{drop_more}
use Rattle.grammar.specs.declared.mark.Mark.TheVariants.{Let}
use Rattle.grammar.specs.declared.mark.Placed.{Placed}
use Rattle.plan.specs.Reading.{tail}

-- xs is what was seen of the marks ps, and i the place in them
pub tail_at : (xs ps : List Placed) (i : ℕ) → xs ≡ ps → i < length xs → drop (i + 1) ps ≡ tail (drop i ps)
tail_at xs ps i q h = ap (drop (i + 1)) (sym q) ∙ sym (ap tail (drop_more xs i (record { mark = Let; place = 0 }) h)) ∙ ap (λ l. tail (drop i l)) q
