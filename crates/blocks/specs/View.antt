-- What the state of the code stands for.
use Rattle.std.specs.Prelude.{◌≡◌, ℕ, ◌+◌, ◌<◌, ◌≤◌, Bool, true, false, List, map, Some, None, vec_items, vec_len, Option, slice_index_or}
use Rattle.blocks.specs.declared.state.State.{State}
use Rattle.blocks.specs.Trees.{at, trees, room}
use Rattle.blocks.specs.Reach as code
use Rattle.rules.specs.Limits.{in_force}
use Rattle.rules.specs.Expressions.{Expr, var}
use Rattle.rules.specs.Notes.{Register, Note, nothing, note, Dest, clear, jump, branch, Static, note_of, set_note}
use Rattle.rules.specs.Cards.{Slot}

abbrev pub note_in : List Expr → code.Note → Note
note_in E None = nothing
note_in E (Some n) = note n.colour (at E n.expression)

abbrev pub pair_in : List Expr → code.Pair → Expr × Expr
pair_in E p = (at E p.address, at E p.word)

abbrev pub dest_in : List Expr → code.Destination → Dest
dest_in E code.Clear = clear
dest_in E (code.Jump t) = jump t
dest_in E (code.If x t) = branch (at E x) t

-- E being the trees of the table's entries
abbrev pub view_in : List Expr → List code.Note → List code.Pair → ℕ → ℕ → code.Destination → Static
view_in E N P g b d = record { notes = λ r. note_in E (slice_index_or N r None); pending = map (pair_in E) P; k_g = g; k_b = b; dest = dest_in E d }

-- the trees of the entries
abbrev pub known : State → List Expr
known s = trees (vec_items s.table.nodes)

-- how many entries there are
abbrev pub count : State → ℕ
count s = vec_len s.table.nodes

abbrev pub view : State → Static
view s = view_in (known s) (vec_items s.notes.all) (vec_items s.pending) s.green s.blue s.destination

-- the note of a register
abbrev pub noted : State → Register → Note
noted s r = note_of (view s) r

-- the answer is v, exactly where the test holds
abbrev pub Answers : Bool → ℕ → Option ℕ → Type 0
Answers test v None = test ≡ false
Answers test v (Some n) = (test ≡ true) × (v ≡ n)

-- the note that a card gives a register
abbrev pub note_card : Slot → Register → Static → Static
note_card None r S = S
note_card (Some (c, v)) r S = set_note S r (note c (var v.number))

-- there is room for what one instruction may add
pub record HasRoom (s : State) : Type 0 where
  pub entries : count s < room
  pub greens : s.green < in_force.instructions
  pub blues : s.blue < in_force.instructions

-- what one instruction may add
pub record Grown (s t : State) : Type 0 where
  pub entries : count t ≤ count s + 1
  pub greens : t.green ≤ s.green + 1
  pub blues : t.blue ≤ s.blue + 1
