-- Which block starts at a place.
use Rattle.std.proofs.Common.{◌≡◌, ℕ, zero, suc, ◌<◌, List, [], ◌∷◌, length, get_or, refl, ◌∙◌, arith}
use Rattle.std.proofs.lemmas.Bool.{eq-eqb, ne_eqb, cond-true, cond-false}
use Rattle.rules.specs.Cards.{Block, inside, start, entry}

-- block j, no earlier one starting there
pub entry_found : (bs : List Block) (j p : ℕ) (d : Block) → j < length bs → ((i : ℕ) → i < j → (get_or bs i d).start ≡ p → ⊥) → (get_or bs j d).start ≡ p
    → entry bs p ≡ start (get_or bs j d).card
unfolding entry
entry_found [] j p d h n e = absurd (omega arith)
entry_found (b ∷ bs) zero p d h n e = cond-true _ _ _ (eq-eqb b.start p e)
entry_found (b ∷ bs) (suc j) p d h n e =
    cond-false _ _ _ (ne_eqb b.start p (n 0 (omega arith))) ∙ entry_found bs j p d (omega arith) (λ i g. n (suc i) (omega arith)) e

-- none
pub entry-inside : (bs : List Block) (p : ℕ) (d : Block) → ((i : ℕ) → i < length bs → (get_or bs i d).start ≡ p → ⊥) → entry bs p ≡ inside
unfolding entry
entry-inside [] p d n = refl
entry-inside (b ∷ bs) p d n =
    cond-false _ _ _ (ne_eqb b.start p (n 0 (omega arith))) ∙ entry-inside bs p d (λ i g. n (suc i) (omega arith))
