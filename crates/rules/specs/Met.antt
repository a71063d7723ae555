-- When a card is met, as a statement about registers.
use Rattle.std.specs.Prelude.{◌≡◌, ℕ, true, slice_index_or, Some, None}
use Rattle.rules.specs.Notes.{Colour, Notes, expr_of, has?}
use Rattle.rules.specs.Cards.{Variable, Card, met?}

pub record Met (K : Card) (N : Notes) : Type 0 where
  -- each coloured register has a note of that colour
  pub coloured : (r : ℕ) (c : Colour) (v : Variable) → slice_index_or K r None ≡ Some (c, v) → has? c (N r) ≡ true
  -- registers with one variable have the same expression, across the colours too
  pub same : (r s : ℕ) (c d : Colour) (v w : Variable) → slice_index_or K r None ≡ Some (c, v) → slice_index_or K s None ≡ Some (d, w) → v.number ≡ w.number → expr_of (N r) ≡ expr_of (N s)

-- the test of a card says exactly this
abbrev pub CardStands : Type 0
CardStands = (K : Card) (N : Notes) → (met? K N ≡ true → Met K N) × (Met K N → met? K N ≡ true)
