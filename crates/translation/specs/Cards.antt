-- The cards of compiled code: twin i has variable i, in both colours.
use Rattle.std.specs.Prelude.{ℕ, zero, suc, cond, [], ◌∷◌, nat_lt, Some, None}
use Rattle.rules.specs.Notes.{Colour, green, blue}
use Rattle.rules.specs.Cards.{Slot, Card}
use Rattle.rules.specs.Words.{variable}

-- what the card of the first n twins says of twin i's register of a colour
abbrev pub twin_slot : ℕ → ℕ → Colour → Slot
twin_slot n i c = cond (nat_lt i n) (Some (c, variable i)) None

-- what it says of k twins from i on
abbrev pub slots_from : ℕ → ℕ → ℕ → Card
slots_from n i zero = []
slots_from n i (suc k) = twin_slot n i green ∷ twin_slot n i blue ∷ slots_from n (suc i) k

-- the card of the first n twins; the others are free
abbrev pub card : ℕ → Card
card n = slots_from n 0 16
