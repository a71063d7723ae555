-- What the code's values stand for in the definition of the machine.
use Rattle.std.specs.Prelude.{◌≡◌, ℕ, suc, List, map, Some, None, Ok, Err, Option, Result, vec_items, slice_index}
use Rattle.isa.specs.declared.kinds.Kind.{Kind}
use Rattle.memory.specs.Cells.{Cells}
use Rattle.isa.specs.declared.instruction.Instruction.{Instruction}
use Rattle.machine.specs.declared.latches.Latches.{Latches}
use Rattle.machine.specs.declared.code.Code.{Code}
use Rattle.machine.specs.declared.run.Run.{Run as Held}
pub use Rattle.machine.specs.Queued.{queued}
use Rattle.machine.specs.declared.ends.Report.{Report}
use Rattle.machine.specs.declared.ends.End.{End}
use Rattle.machine.specs.declared.ends.End.TheVariants.{Going, Reported}
use Rattle.machine.specs.Machine.{State, Outcome, Run, settled, with_place}

-- the state with these latches, over these cells, after this number of stores
abbrev pub latched : Latches → (ℕ → ℕ) → ℕ → State
latched l cells stores = record {
  regs = λ r. slice_index l.registers r;
  green = l.green;
  blue = l.blue;
  destination = l.destination;
  queue = queued l.queue;
  cells = cells;
  stores = stores;
}

-- the state of a run over these cells
abbrev pub state_of : Held → Cells → State
state_of x c = latched x.latches c.word x.stores

-- a run over these cells
abbrev pub run_of : Held → Cells → Run
run_of x c = record { state = state_of x c; end = x.end; steps = x.steps }

-- the instructions
abbrev pub kinds : Code → List Kind
kinds c = map (λ (i : Instruction). i.kind) (vec_items c.instructions)

-- over any cells, and after any number of stores, an instruction turns the latches l into m and ends so
abbrev pub Turns : Latches → Latches → End → (State → Outcome) → Type 0
Turns l m e does = (cells : ℕ → ℕ) (stores : ℕ) → (e, latched m cells stores) ≡ settled (latched l cells stores) (does (latched l cells stores))

-- on from the counters of l: to a place, or to the next instruction
abbrev pub onward : Latches → Option ℕ → State → State
onward l None s = with_place s (suc l.green) (suc l.blue) s.destination
onward l (Some place) s = with_place s place place s.destination

-- what an answer stands for: the run goes on at the state that `on` gives, or it ends at s
abbrev pub came : {T E : Type 0} → (T → State → State) → (E → End) → Result T E → State → End × State
came on end (Ok x) s = (Going, on x s)
came on end (Err e) s = (end e, s)

-- over any cells, and after any number of stores, an instruction turns the latches l into m, and either `to` says where the run goes on, or it is reported
abbrev pub Moves : {T : Type 0} → Latches → Latches → (T → Option ℕ) → Result T Report → (State → Outcome) → Type 0
Moves l m to r does = (cells : ℕ → ℕ) (stores : ℕ) → came (λ x. onward l (to x)) Reported r (latched m cells stores) ≡ settled (latched l cells stores) (does (latched l cells stores))

-- both counters at a place
abbrev pub placed : Latches → ℕ → Latches
placed l place = record { registers = l.registers; green = place; blue = place; destination = l.destination; queue = l.queue }

-- other registers
abbrev pub with_registers : Latches → List ℕ → Latches
with_registers l registers = record { registers = registers; green = l.green; blue = l.blue; destination = l.destination; queue = l.queue }
