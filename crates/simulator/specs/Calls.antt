-- What each call answers, and the simulator after it. A refusal leaves the simulator as it was.
use Rattle.std.specs.Prelude.{ℕ, ◌+◌, ◌-◌, cond, ◌||◌, List, Some, None, Ok, Err, Option, Result, ◌==◌, bit_xor, count_ones, nat_lt}
use Rattle.memory.specs.Cells.{stored}
use Rattle.isa.specs.declared.kinds.Kind.{Kind}
use Rattle.machine.specs.declared.ends.End.{End}
use Rattle.machine.specs.declared.ends.End.TheVariants.{Going}
use Rattle.machine.specs.Ends.{going?}
use Rattle.machine.specs.Machine.{Run, started, after}
use Rattle.simulator.specs.declared.place.Place.{Place}
use Rattle.simulator.specs.declared.refusal.Refusal.{Refusal}
use Rattle.simulator.specs.declared.refusal.Refusal.TheVariants.{NotUnderWay, NotIdle, BadCount, TooManySteps, NoSuchPlace, NoSuchCell}
use Rattle.simulator.specs.declared.simulator.calls.Shown.{Shown}
use Rattle.simulator.specs.Model.{Loaded, Model, fresh}
use Rattle.simulator.specs.Places.{place_of, latch, struck}

-- an answer or a refusal, and the simulator after the call
abbrev pub Answered : Type 0 → Type 0
Answered T = Result T Refusal × Model

abbrev refused : {T : Type 0} → Refusal → Model → Answered T
refused e s = (Err e, s)

abbrev pub with_loaded : Model → Loaded → Model
with_loaded s x = record { cells = s.cells; loaded = Some x }

-- load: the code of a module that passed, with latches as at the start and counts 0
abbrev loads_at : List Kind → Model → Option Loaded → Answered (Unit {0})
loads_at code s (Some x) = refused NotIdle s
loads_at code s None = (Ok tt, with_loaded s (record { code = code; run = started s.cells.word }))

abbrev pub loads : List Kind → Model → Answered (Unit {0})
loads code s = loads_at code s s.loaded

-- the simulator behind a run: the memory holds the cells that the run leaves
abbrev pub ran_to : Model → List Kind → Run → Model
ran_to s code r = record {
  cells = record { word = r.state.cells; writable = s.cells.writable };
  loaded = Some (record { code = code; run = r });
}

-- run: n steps, or those to the end; the steps taken, and the end
abbrev pub goes : ℕ → Model → Loaded → Answered (ℕ × End)
goes n s x =
    let r : Run = after s.cells.writable x.code x.run n in
    (Ok (r.steps - x.run.steps, r.end), ran_to s x.code r)

abbrev runs_at : ℕ → Model → Option Loaded → Answered (ℕ × End)
runs_at n s None = refused NotUnderWay s
runs_at n s (Some x) =
    cond (going? x.run.end)
    (cond (n == 0 || nat_lt 1000000 n) (refused BadCount s)
    (cond (nat_lt 1000000000 (x.run.steps + n)) (refused TooManySteps s) (goes n s x)))
    (refused NotUnderWay s)

abbrev pub runs : ℕ → Model → Answered (ℕ × End)
runs n s = runs_at n s s.loaded

-- strike: one latch set; the number of its bits that changed
abbrev pub hit : Place → ℕ → Model → Loaded → Option ℕ → Answered ℕ
hit p v s x None = refused NoSuchPlace s
hit p v s x (Some old) =
    (Ok (count_ones (bit_xor old v)), with_loaded s (record { code = x.code; run = record { state = struck p v x.run.state; end = x.run.end; steps = x.run.steps } }))

abbrev pub strikes_place : ℕ → Model → Loaded → Option Place → Answered ℕ
strikes_place v s x None = refused NoSuchPlace s
strikes_place v s x (Some p) = hit p v s x (latch p x.run.state)

abbrev strikes_at : ℕ → ℕ → Model → Option Loaded → Answered ℕ
strikes_at n v s None = refused NotUnderWay s
strikes_at n v s (Some x) = cond (going? x.run.end) (strikes_place v s x (place_of n)) (refused NotUnderWay s)

abbrev pub strikes : ℕ → ℕ → Model → Answered ℕ
strikes n v s = strikes_at n v s s.loaded

-- show: end, steps and store count; idle, all 0
abbrev shows_at : Option Loaded → Shown
shows_at None = record { end = Going; steps = 0; stores = 0 }
shows_at (Some x) = record { end = x.run.end; steps = x.run.steps; stores = x.run.state.stores }

abbrev pub shows : Model → Shown
shows s = shows_at s.loaded

-- put: a store
abbrev puts_at : ℕ → ℕ → Model → Option Loaded → Answered (Unit {0})
puts_at a v s (Some x) = refused NotIdle s
puts_at a v s None = cond (s.cells.writable a) (Ok tt, record { cells = stored s.cells a v; loaded = None }) (refused NoSuchCell s)

abbrev pub puts : ℕ → ℕ → Model → Answered (Unit {0})
puts a v s = puts_at a v s s.loaded

-- look: the word at an address, always
abbrev pub looks : ℕ → Model → ℕ
looks a s = s.cells.word a

-- probe: a latch
abbrev probed : Option ℕ → Result ℕ Refusal
probed None = Err NoSuchPlace
probed (Some v) = Ok v

abbrev probes_place : Loaded → Option Place → Result ℕ Refusal
probes_place x None = Err NoSuchPlace
probes_place x (Some p) = probed (latch p x.run.state)

abbrev probes_at : ℕ → Option Loaded → Result ℕ Refusal
probes_at n None = Err NotUnderWay
probes_at n (Some x) = probes_place x (place_of n)

abbrev pub probes : ℕ → Model → Result ℕ Refusal
probes n s = probes_at n s.loaded

-- clear: idle again, over the same cells
abbrev clears_at : Model → Option Loaded → Answered (Unit {0})
clears_at s None = refused NotUnderWay s
clears_at s (Some x) = (Ok tt, fresh s.cells)

abbrev pub clears : Model → Answered (Unit {0})
clears s = clears_at s s.loaded
