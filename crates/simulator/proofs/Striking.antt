-- A strike of the simulator is one of those that the theorem on strikes speaks of.
use Rattle.std.proofs.Common.{◌≡◌, ℕ, ◌-◌, true, eqb, ltb, length, set, Some, None, Option, sym, refl, ap, ◌∙◌}
use Rattle.std.specs.Option.{option_map}
use Rattle.std.specs.List.{slice_get}
use Rattle.std.proofs.lemmas.Bool.{cond_both, ltb-true, lt-ltb}
use Rattle.std.proofs.lemmas.Option.{none-some, get_or_from_slice_get, slice_get_within}
use Rattle.isa.specs.declared.kinds.Colour.TheVariants.{Green, Blue}
use Rattle.machine.specs.declared.queue.Pair.{Pair}
use Rattle.machine.specs.Machine.{State, with_queue}
use Rattle.soundness.specs.Strikes as strikes
use Rattle.simulator.specs.declared.place.Place.{Place}
use Rattle.simulator.specs.declared.place.Place.TheVariants.{Register, CounterGreen, CounterBlue, Destination, PairAddress, PairWord}
use Rattle.simulator.specs.Places.{place_of, latch, struck, changed, changed_at, with_address, with_word, Low}

-- the place, as the theorem has it
abbrev pub placed : Place → strikes.Place
placed (Register r) = strikes.register r
placed CounterGreen = strikes.counter Green
placed CounterBlue = strikes.counter Blue
placed Destination = strikes.destination
placed (PairAddress i) = strikes.address i
placed (PairWord i) = strikes.word i

-- a pair that there is, changed
pair_struck : (s : State) (i : ℕ) (f : Pair → Pair) (o : Option Pair) → slice_get s.queue i ≡ o → (g : Pair → ℕ) (old : ℕ) → option_map g o ≡ Some old →
    (ltb i (length s.queue) ≡ true) × (with_queue s (changed f i s.queue) ≡ with_queue s (set s.queue i (f (strikes.pair_at s i))))
pair_struck s i f None e g old h = absurd (none-some old h)
pair_struck s i f (Some p) e g old h =
    let here = get_or_from_slice_get s.queue i p (record { address = 0; word = 0 }) e in (
      lt-ltb i (length s.queue) (slice_get_within s.queue i p e),
      ap (λ o. with_queue s (changed_at o f i s.queue)) e ∙ ap (λ x. with_queue s (set s.queue i (f x))) (sym here),
    )

-- where there is a latch, the strike is that of the theorem
pub struck-is : (p : Place) (v old : ℕ) (s : State) → Low p → latch p s ≡ Some old → (strikes.there? s (placed p) ≡ true) × (struck p v s ≡ strikes.strike (placed p) v s)
struck-is (Register r) v old s l h = (lt-ltb r 32 l, refl)
struck-is CounterGreen v old s l h = (refl, refl)
struck-is CounterBlue v old s l h = (refl, refl)
struck-is Destination v old s l h = (refl, refl)
struck-is (PairAddress i) v old s l h = pair_struck s i (with_address v) (slice_get s.queue i) refl (λ (p : Pair). p.address) old h
struck-is (PairWord i) v old s l h = pair_struck s i (with_word v) (slice_get s.queue i) refl (λ (p : Pair). p.word) old h

-- it leaves the cells
pub cells-kept : (p : Place) (v : ℕ) (s : State) → (struck p v s).cells ≡ s.cells
cells-kept (Register r) v s = refl
cells-kept CounterGreen v s = refl
cells-kept CounterBlue v s = refl
cells-kept Destination v s = refl
cells-kept (PairAddress i) v s = refl
cells-kept (PairWord i) v s = refl

abbrev pub LowIf : Option Place → Type 0
LowIf None = Unit {0}
LowIf (Some p) = Low p

-- a place by its number is one that there is
pub place-low : (n : ℕ) → LowIf (place_of n)
place-low n =
    cond_both (ltb n 32) (Some (Register n)) _ LowIf (λ e. ltb-true n 32 e) λ _.
    cond_both (eqb n 32) (Some CounterGreen) _ LowIf (λ _. tt) λ _.
    cond_both (eqb n 33) (Some CounterBlue) _ LowIf (λ _. tt) λ _.
    cond_both (eqb n 34) (Some Destination) _ LowIf (λ _. tt) λ _.
    cond_both (ltb n 51) (Some (PairAddress (n - 35))) _ LowIf (λ _. tt) λ _.
    cond_both (ltb n 67) (Some (PairWord (n - 51))) None LowIf (λ _. tt) (λ _. tt)
