-- The places of strikes, by their numbers.
use Rattle.std.specs.Prelude.{◌≡◌, ℕ, ◌-◌, ◌<◌, cond, List, Some, None, Option, ◌==◌, nat_lt, slice_set}
use Rattle.std.specs.Option.{option_map}
use Rattle.std.specs.List.{slice_get}
use Rattle.memory.specs.Cells.{replaced}
use Rattle.machine.specs.declared.queue.Pair.{Pair}
use Rattle.machine.specs.Machine.{State, with_regs, with_place, with_queue}
use Rattle.simulator.specs.declared.place.Place.{Place}
use Rattle.simulator.specs.declared.place.Place.TheVariants.{Register, CounterGreen, CounterBlue, Destination, PairAddress, PairWord}

-- 0 to 31 the registers, 32 and 33 the counters, 34 the destination, 35 + i and 51 + i the address and the word of queued pair i
abbrev pub place_of : ℕ → Option Place
place_of n =
    cond (nat_lt n 32) (Some (Register n))
    (cond (n == 32) (Some CounterGreen)
    (cond (n == 33) (Some CounterBlue)
    (cond (n == 34) (Some Destination)
    (cond (nat_lt n 51) (Some (PairAddress (n - 35)))
    (cond (nat_lt n 67) (Some (PairWord (n - 51))) None)))))

-- the latch at a place; None where no such pair is queued
abbrev pub latch : Place → State → Option ℕ
latch (Register r) s = Some (s.regs r)
latch CounterGreen s = Some s.green
latch CounterBlue s = Some s.blue
latch Destination s = Some s.destination
latch (PairAddress i) s = option_map (λ (p : Pair). p.address) (slice_get s.queue i)
latch (PairWord i) s = option_map (λ (p : Pair). p.word) (slice_get s.queue i)

-- queued pair i changed, if there is one
abbrev pub changed_at : Option Pair → (Pair → Pair) → ℕ → List Pair → List Pair
changed_at None f i q = q
changed_at (Some p) f i q = slice_set q i (f p)

abbrev pub changed : (Pair → Pair) → ℕ → List Pair → List Pair
changed f i q = changed_at (slice_get q i) f i q

-- the same, by a relation of the old pair to the new one
abbrev pub ChangesPair : (Pair → Pair → Type 0) → Option Pair → ℕ → List Pair → List Pair → Type 0
ChangesPair R None i q r = r ≡ q
ChangesPair R (Some p) i q r = (new : Pair) × R p new × (r ≡ slice_set q i new)

abbrev pub with_address : ℕ → Pair → Pair
with_address v p = record { address = v; word = p.word }

abbrev pub with_word : ℕ → Pair → Pair
with_word v p = record { address = p.address; word = v }

-- the state with v in the latch at a place
abbrev pub struck : Place → ℕ → State → State
struck (Register r) v s = with_regs s (replaced s.regs r v)
struck CounterGreen v s = with_place s v s.blue s.destination
struck CounterBlue v s = with_place s s.green v s.destination
struck Destination v s = with_place s s.green s.blue v
struck (PairAddress i) v s = with_queue s (changed (with_address v) i s.queue)
struck (PairWord i) v s = with_queue s (changed (with_word v) i s.queue)

-- a register that there is
abbrev pub Low : Place → Type 0
Low (Register r) = r < 32
Low CounterGreen = Unit {0}
Low CounterBlue = Unit {0}
Low Destination = Unit {0}
Low (PairAddress i) = Unit {0}
Low (PairWord i) = Unit {0}
