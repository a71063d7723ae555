-- Worked examples of runs.
use Rattle.std.specs.Prelude.{◌≡◌, ℕ, Bool, List, [], ◌∷◌, ◌==◌, bit_xor, count_ones}
use Rattle.memory.specs.Cells.{replaced}
use Rattle.isa.specs.declared.kinds.Colour.TheVariants.{Green, Blue}
use Rattle.isa.specs.declared.kinds.Register.{Register}
use Rattle.isa.specs.declared.kinds.Kind.{Kind}
use Rattle.isa.specs.declared.kinds.Kind.TheVariants.{Move, Store, Halt}
use Rattle.machine.specs.Ends.{number}
use Rattle.machine.specs.Machine.{Run, after}
use Rattle.soundness.specs.Strikes.{Place, register, counter, struck_at}
use Rattle.soundness.specs.Finding.{unstruck, stores}

abbrev r : ℕ → Register
r n = record { number = n }

-- stores 7 at 5
abbrev pub S : List Kind
S = Move Green (r 0) 5 ∷ Move Blue (r 1) 5 ∷ Move Green (r 2) 7 ∷ Move Blue (r 3) 7 ∷ Store Green (r 0) (r 2) ∷ Store Blue (r 1) (r 3) ∷ Halt ∷ []

-- cell 5 alone is writable
abbrev pub five : ℕ → Bool
five a = a == 5

-- n steps of S
abbrev pub run : (ℕ → ℕ) → ℕ → Run
run cells n = unstruck five S cells n

-- v stands at the place after n steps, and k steps follow
abbrev pub hit : Place → ℕ → (ℕ → ℕ) → ℕ → ℕ → Run
hit p v cells n k = after five S (struck_at p v (run cells n)) k

-- over any cells, n being the steps that S takes
pub record Worked (n : ℕ) (cells : ℕ → ℕ) : Type 0 where
  -- S in so many steps: the store of 7 at 5, and end 1
  pub whole_end : number (run cells n).end ≡ 1
  pub whole_steps : (run cells n).steps ≡ n
  pub whole_going : number (run cells 6).end ≡ 0
  pub whole_stores : stores five S cells n ≡ record { address = 5; word = 7 } ∷ []
  pub whole_cells : (run cells n).state.cells ≡ replaced cells 5 7
  -- register 2 struck to 8 after 3 steps: 4 bits change, end 4 after 6 steps, and no store
  pub early_bits : count_ones (bit_xor ((run cells 3).state.regs 2) 8) ≡ 4
  pub early_end : number (hit (register 2) 8 cells 3 3).end ≡ 4
  pub early_steps : (hit (register 2) 8 cells 3 3).steps ≡ 6
  pub early_going : number (hit (register 2) 8 cells 3 2).end ≡ 0
  pub early_stores : (hit (register 2) 8 cells 3 3).state.stores ≡ 0
  pub early_cells : (hit (register 2) 8 cells 3 3).state.cells ≡ cells
  -- the same strike after 6 steps: end 1, and one store
  pub late_end : number (hit (register 2) 8 cells 6 1).end ≡ 1
  pub late_stores : (hit (register 2) 8 cells 6 1).state.stores ≡ 1
  pub late_cells : (hit (register 2) 8 cells 6 1).state.cells ≡ replaced cells 5 7
  -- the green counter struck to 0 after 2 steps: end 3 at step 3
  pub counter_end : number (hit (counter Green) 0 cells 2 1).end ≡ 3
  pub counter_steps : (hit (counter Green) 0 cells 2 1).steps ≡ 3

abbrev pub WorkedRuns : ℕ → Type 0
WorkedRuns n = (cells : ℕ → ℕ) → Worked n cells
