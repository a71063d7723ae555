-- Strikes: the places of a state at which a word may change by itself, and the runs in which that happens.
use Rattle.std.specs.Prelude.{◌≡◌, ℕ, ◌^◌, ◌<◌, Bool, true, List, [], ◌∷◌, length, nat_lt, slice_index_or, slice_set}
use Rattle.memory.specs.Cells.{replaced}
use Rattle.isa.specs.declared.kinds.Colour.{Colour}
use Rattle.isa.specs.declared.kinds.Colour.TheVariants.{Green, Blue}
use Rattle.isa.specs.declared.kinds.Kind.{Kind}
use Rattle.machine.specs.declared.queue.Pair.{Pair}
use Rattle.machine.specs.declared.ends.End.TheVariants.{Going}
use Rattle.machine.specs.Machine.{State, with_regs, with_place, with_queue, Run, step, started}

-- a word has 32 bits and no sign
abbrev pub Word : ℕ → Type 0
Word n = n < 2 ^ 32

-- a register, a colour's counter, the destination, or the address or the word of a queued pair, the oldest being pair 0
pub data Place : Type 0 where
  register : ℕ → Place
  counter : Colour → Place
  destination : Place
  address : ℕ → Place
  word : ℕ → Place

-- the queued pair with number i
abbrev pub pair_at : State → ℕ → Pair
pair_at s i = slice_index_or s.queue i (record { address = 0; word = 0 })

abbrev pub with_pair : State → ℕ → Pair → State
with_pair s i p = with_queue s (slice_set s.queue i p)

-- the state once v stands at the place
abbrev pub strike : Place → ℕ → State → State
strike (register r) v s = with_regs s (replaced s.regs r v)
strike (counter Green) v s = with_place s v s.blue s.destination
strike (counter Blue) v s = with_place s s.green v s.destination
strike destination v s = with_place s s.green s.blue v
strike (address i) v s = with_pair s i (record { address = v; word = (pair_at s i).word })
strike (word i) v s = with_pair s i (record { address = (pair_at s i).address; word = v })

-- there is such a place: 32 registers, and as many pairs as are queued
abbrev pub there? : State → Place → Bool
there? s (register r) = nat_lt r 32
there? s (counter c) = true
there? s destination = true
there? s (address i) = nat_lt i (length s.queue)
there? s (word i) = nat_lt i (length s.queue)

-- the run once v stands at the place
abbrev pub struck_at : Place → ℕ → Run → Run
struck_at p v x = record { state = strike p v x.state; end = x.end; steps = x.steps }

-- a strike that was made: its place, and the number of steps before it
pub record Strike : Type 0 where
  pub steps : ℕ
  pub place : Place

-- the runs of code over cells, with the strikes made, the latest first: a run begins with none, makes a step
-- (one that has ended stays), or, while it is going, is struck by a word
pub data Reached (w : ℕ → Bool) (code : List Kind) (cells : ℕ → ℕ) : List Strike → Run → Type 0 where
  begun : Reached w code cells [] (started cells)
  stepped : {l : List Strike} {x : Run} → Reached w code cells l x → Reached w code cells l (step w code x)
  struck : {l : List Strike} {x : Run} → Reached w code cells l x → x.end ≡ Going → (p : Place) (v : ℕ) → there? x.state p ≡ true → Word v →
      Reached w code cells (record { steps = x.steps; place = p } ∷ l) (struck_at p v x)
