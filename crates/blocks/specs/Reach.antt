-- The entries that notes, pending pairs and the destination refer to.
use Rattle.std.specs.Prelude.{ℕ, suc, ◌<◌, ◌≤◌, max, List, length, Some, None, Option, slice_index_or}
pub use Rattle.blocks.specs.declared.note.Noted.{Noted}
pub use Rattle.blocks.specs.declared.note.Pair.{Pair}
pub use Rattle.blocks.specs.declared.note.Destination.{Destination}
pub use Rattle.blocks.specs.declared.note.Destination.TheVariants.{Clear, Jump, If}

abbrev pub Note : Type 0
Note = Option Noted

abbrev pub reach_note : Note → ℕ
reach_note None = 0
reach_note (Some n) = suc n.expression.index

abbrev pub reach_pair : Pair → ℕ
reach_pair p = max (suc p.address.index) (suc p.word.index)

abbrev pub reach_dest : Destination → ℕ
reach_dest Clear = 0
reach_dest (Jump t) = 0
reach_dest (If x t) = suc x.index

abbrev pub first_pair : Pair
first_pair = record { address = record { index = 0 }; word = record { index = 0 } }

-- the notes refer to entries below n
abbrev pub NotesBelow : ℕ → List Note → Type 0
NotesBelow n notes = (r : ℕ) → reach_note (slice_index_or notes r None) ≤ n

abbrev pub PairsBelow : ℕ → List Pair → Type 0
PairsBelow n ps = (k : ℕ) → k < length ps → reach_pair (slice_index_or ps k first_pair) ≤ n
