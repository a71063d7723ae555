-- The cards of compiled code by register.
use Rattle.std.proofs.Common.{◌≡◌, ℕ, zero, suc, ◌+◌, ◌<◌, get_or, ap, ◌∙◌, arith, None}
use Rattle.rules.specs.Notes.{green, blue}
use Rattle.translation.specs.Cards.{twin_slot, slots_from, card}
use Rattle.translation.specs.Code.{twice}
use Rattle.translation.proofs.Twins.{half, side}

slot_from : (n k i r : ℕ) → r < twice k → get_or (slots_from n i k) r None ≡ twin_slot n (half r + i) (side r)
slot_from n zero i r h = absurd (omega arith)
slot_from n (suc k) i zero h = let z : i ≡ 0 + i = omega arith in ap (λ j. twin_slot n j green) z
slot_from n (suc k) i (suc zero) h = let z : i ≡ 0 + i = omega arith in ap (λ j. twin_slot n j blue) z
slot_from n (suc k) i (suc (suc r)) h =
    let z : half r + suc i ≡ suc (half r) + i = omega arith in
    slot_from n k (suc i) r (omega arith) ∙ ap (λ j. twin_slot n j (side r)) z

-- what the card of n twins says of register r
pub card-at : (n r : ℕ) → r < 32 → get_or (card n) r None ≡ twin_slot n (half r) (side r)
card-at n r h = let z : half r + 0 ≡ half r = omega arith in slot_from n 16 0 r h ∙ ap (λ j. twin_slot n j (side r)) z
