-- What is promised of the run of a plan's code.
use Rattle.std.specs.Prelude.{◌≡◌, ℕ, ◌^◌, ◌<◌, ◌≤◌, Bool, List, map, length}
use Rattle.machine.specs.declared.queue.Pair.{Pair}
use Rattle.machine.specs.declared.ends.End.TheVariants.{Going}
use Rattle.machine.specs.Ends.{number}
use Rattle.machine.specs.Machine.{Run, after, made, started}
use Rattle.language.specs.Plans.{Plan}
use Rattle.language.specs.Meaning.{Store, book_of, ending, outcome}
use Rattle.language.specs.Limits.{Within, in_force}
use Rattle.translation.specs.Compile.{compiled}
use Rattle.translation.specs.Steps.{steps}

-- a store of the plan as a pair of the machine
abbrev pub pair_of : Store → Pair
pair_of s = record { address = s.address; word = s.word }

module _ (w : ℕ → Bool) (P : Plan) (cells : ℕ → ℕ) where
  -- the run of the plan's code after k steps, without a strike
  abbrev pub runs : ℕ → Run
  runs k = after w (compiled P).code (started cells) k

  -- the stores that it has made then
  abbrev pub makes : ℕ → List Pair
  makes k = made w (compiled P).code (started cells) k

  abbrev pub last : ℕ
  last = steps w P cells

  pub record Ran : Type 0 where
    -- it does not end before
    pub going : (k : ℕ) → k < last → (runs k).end ≡ Going
    -- it comes to the plan's ending
    pub ends : number (runs last).end ≡ ending (outcome w P cells)
    -- with the plan's stores, in order
    pub stores : makes last ≡ map pair_of (book_of (outcome w P cells)).made
    pub count : (runs last).state.stores ≡ length (book_of (outcome w P cells)).made
    -- and the plan's cells
    pub leaves : (runs last).state.cells ≡ (book_of (outcome w P cells)).cells
    -- so it stays
    pub stays : (k : ℕ) → last ≤ k → (runs k ≡ runs last) × (makes k ≡ makes last)
    -- it never reports
    pub quiet : (k : ℕ) → number (runs k).end < 3

-- of every plan within the limits, over all cells that hold words, writable or not
abbrev pub CodeRuns : Type 0
CodeRuns = (P : Plan) → Within in_force P → (w : ℕ → Bool) (cells : ℕ → ℕ) → ((a : ℕ) → a < 2 ^ 32 → cells a < 2 ^ 32) → Ran w P cells
