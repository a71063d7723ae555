-- What strikes can do to a run of a module that the check has passed.
use Rattle.std.specs.Prelude.{◌≡◌, ℕ, ◌<◌, ◌≤◌, Bool, ◌⊎◌, List, [], ◌∷◌, length, take, Some, None, Option, slice_index}
use Rattle.isa.specs.declared.kinds.Colour.{Colour}
use Rattle.isa.specs.declared.kinds.Colour.TheVariants.{Green}
use Rattle.isa.specs.declared.kinds.Kind.{Kind}
use Rattle.machine.specs.declared.queue.Pair.{Pair}
use Rattle.machine.specs.declared.ends.End.{End}
use Rattle.machine.specs.declared.ends.End.TheVariants.{Going}
use Rattle.machine.specs.Ends.{number}
use Rattle.machine.specs.Pairs.{overlay}
use Rattle.machine.specs.Machine.{Run, after, made, started}
use Rattle.rules.specs.Limits.{Limits}
use Rattle.rules.specs.Notes.{Note, nothing, note, Notes}
use Rattle.rules.specs.Module.{Module, static}
use Rattle.rules.specs.Words.{module_of, Passes}
use Rattle.soundness.specs.Strikes.{Word, Place, register, counter, destination, address, word, Strike, Reached}

-- the run without strikes, after n steps
abbrev pub unstruck : (ℕ → Bool) → List Kind → (ℕ → ℕ) → ℕ → Run
unstruck w code cells n = after w code (started cells) n

-- the stores that the unstruck run makes within n steps, in order
abbrev pub stores : (ℕ → Bool) → List Kind → (ℕ → ℕ) → ℕ → List Pair
stores w code cells n = made w code (started cells) n

-- the unstruck run does not end in fewer than n steps
abbrev pub Lasts : (ℕ → Bool) → List Kind → (ℕ → ℕ) → ℕ → Type 0
Lasts w code cells n = (j : ℕ) → j < n → (unstruck w code cells j).end ≡ Going

-- ends 3 to 7 are reports
abbrev pub IsReport : End → Type 0
IsReport e = (3 ≤ number e) × (number e ≤ 7)

-- (a): cells, store count and end are the unstruck run's after as many steps.
pub record Undisturbed (w : ℕ → Bool) (code : List Kind) (cells : ℕ → ℕ) (x : Run) : Type 0 where
  pub lasts : Lasts w code cells x.steps
  pub same_cells : x.state.cells ≡ (unstruck w code cells x.steps).state.cells
  pub same_stores : x.state.stores ≡ (unstruck w code cells x.steps).state.stores
  pub same_end : x.end ≡ (unstruck w code cells x.steps).end

-- (b): the end is a report. Its store count c is at most the number of stores that the unstruck run makes
-- within as many steps, and its cells are those at the start with the first c of these stores made.
pub record Caught (w : ℕ → Bool) (code : List Kind) (cells : ℕ → ℕ) (x : Run) : Type 0 where
  pub lasts : Lasts w code cells x.steps
  pub a_report : IsReport x.end
  pub few_stores : x.state.stores ≤ length (stores w code cells x.steps)
  pub cells_then : x.state.cells ≡ overlay (take x.state.stores (stores w code cells x.steps)) cells

-- (a) or (b)
abbrev pub Found : (ℕ → Bool) → List Kind → (ℕ → ℕ) → Run → Type 0
Found w code cells x = Undisturbed w code cells x ⊎ Caught w code cells x

-- the colour of a register is that of its note; counter B is blue, and all the rest is green
abbrev pub note_colour : Note → Option Colour
note_colour nothing = None
note_colour (note c e) = Some c

abbrev pub place_colour : Notes → Place → Option Colour
place_colour N (register r) = note_colour (N r)
place_colour N (counter c) = Some c
place_colour N destination = Some Green
place_colour N (address i) = Some Green
place_colour N (word i) = Some Green

-- the colour of what a strike hit, by the notes where the unstruck run stands after as many steps
abbrev pub strike_colour : (ℕ → Bool) → Module → (ℕ → ℕ) → Strike → Option Colour
strike_colour w m cells x = place_colour (static m (unstruck w m.code cells x.steps).state.green).notes x.place

-- of this colour, or of none
abbrev pub Of : Colour → Option Colour → Type 0
Of k None = Unit {0}
Of k (Some c) = c ≡ k

abbrev pub AllOf : Colour → (Strike → Option Colour) → List Strike → Type 0
AllOf k colour [] = Unit {0}
AllOf k colour (x ∷ l) = (Of k (colour x)) × AllOf k colour l

-- at each of the 2^32 addresses stands a word
abbrev pub AreCells : (ℕ → ℕ) → Type 0
AreCells cells = (a : ℕ) → Word a → Word (cells a)

-- what is found of a run x that the strikes l have hit
pub record Outcomes (w : ℕ → Bool) (m : Module) (cells : ℕ → ℕ) (l : List Strike) (x : Run) : Type 0 where
  -- with no strike: as the unstruck run, and no report
  pub calm : l ≡ [] → (Undisturbed w m.code cells x) × (IsReport x.end → ⊥)
  -- with one strike at most: as the unstruck run, or a report
  pub single : length l ≤ 1 → Found w m.code cells x
  -- with any number of strikes, all on one colour: the same
  pub one_colour : (k : Colour) → AllOf k (strike_colour w m cells) l → Found w m.code cells x
  -- whatever was struck, its cells are such that another run can start on them
  pub restartable : AreCells x.state.cells

-- every element is a word
abbrev pub AreWords : List ℕ → Type 0
AreWords ws = (i : ℕ) → Word (slice_index ws i)

-- So it is for every module that passes the check, with at most `room` pairs pending, whatever addresses are writable (those at
-- which w is true), over all cells of words, and at every moment of every run.
abbrev pub Finding : ℕ → Type 0
Finding room = (L : Limits) → L.queue ≤ room → (ws : List ℕ) → AreWords ws → Passes L ws → (w : ℕ → Bool) (cells : ℕ → ℕ) → AreCells cells
    → (l : List Strike) (x : Run) → Reached w (module_of ws).code cells l x → Outcomes w (module_of ws) cells l x
