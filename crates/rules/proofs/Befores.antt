-- What is known before the first instruction of a block, and before one more.
use Rattle.std.proofs.Common.{◌≡◌, ℕ, ◌+◌, List, get_or, refl, ap, add-one}
use Rattle.rules.specs.Notes.{Kind, halt, next}
use Rattle.rules.specs.Cards.{Card, fresh}
use Rattle.rules.specs.Block.{before}

pub before-none : (K : Card) (C : List Kind) → before K C 0 ≡ fresh K
unfolding before
before-none K C = refl

pub before_more : (K : Card) (C : List Kind) (k : ℕ) → before K C (k + 1) ≡ next (get_or C k halt) (before K C k)
unfolding before
before_more K C k = ap (before K C) (add-one k)
