-- A block's card says of each register its colour and the variable whose value it has, or nothing: it is free.
pub use Rattle.isa.specs.declared.card.Variable.{Variable}
pub use Rattle.isa.specs.Layout.{Slot}
pub use Rattle.isa.specs.declared.card.Block.{Block}
use Rattle.std.specs.Prelude.{ℕ, ◌+◌, Bool, true, false, cond, ◌&&◌, List, [], ◌∷◌, ◌==◌, slice_index_or, Some, None}
use Rattle.rules.specs.Expressions.{Expr, num, var, same?}
use Rattle.rules.specs.Notes.{Note, nothing, note, Notes, clear, Static, expr_of, has?}

-- register 0 first
abbrev pub Card : Type 0
Card = List Slot

abbrev pub card_note : Slot → Note
card_note None = nothing
card_note (Some (c, v)) = note c (var v.number)

-- what is known where a block with this card starts
abbrev pub fresh : Card → Static
fresh K = record { notes = λ r. card_note (slice_index_or K r None); pending = []; k_g = 0; k_b = 0; dest = clear }

-- the expression of the first register from r on that has the variable v, K being the card from r on
abbrev pub chosen : ℕ → Card → Notes → ℕ → Expr
chosen r [] N v = num 0
chosen r (None ∷ K) N v = chosen (r + 1) K N v
chosen r (Some (c, y) ∷ K) N v = cond (y.number == v) (expr_of (N r)) (chosen (r + 1) K N v)

abbrev pub meets? : (ℕ → Expr) → Slot → Note → Bool
meets? θ None n = true
meets? θ (Some (c, v)) n = has? c n && same? (expr_of n) (θ v.number)

abbrev pub meet_all? : (ℕ → Expr) → ℕ → Card → Notes → Bool
meet_all? θ r [] N = true
meet_all? θ r (x ∷ K) N = meets? θ x (N r) && meet_all? θ (r + 1) K N

-- each coloured register has a note of that colour, and registers with one variable have the same expression
unfoldable pub met? : Card → Notes → Bool
met? K N = meet_all? (chosen 0 K N) 0 K N

-- what stands before a place: nothing, or a block's card
pub data Entry : Type 0 where
  inside : Entry
  start : Card → Entry

unfoldable pub entry : List Block → ℕ → Entry
entry [] p = inside
entry (b ∷ bs) p = cond (b.start == p) (start b.card) (entry bs p)

abbrev pub starts? : Entry → Bool
starts? inside = false
starts? (start K) = true

-- a block starts there, and its card is met
abbrev pub enters? : Entry → Notes → Bool
enters? inside N = false
enters? (start K) N = met? K N
