-- The machine: what it holds, what each instruction does, one step, and a run of many.
use Rattle.std.specs.Prelude.{ℕ, zero, suc, ◌-◌, Bool, true, false, cond, not, ◌&&◌, List, [], ◌∷◌, ◌++◌, length, take, ◌==◌, nat_lt, slice_index_or}
use Rattle.memory.specs.Cells.{replaced}
use Rattle.isa.specs.Words.{alu}
use Rattle.isa.specs.declared.kinds.Colour.{Colour}
use Rattle.isa.specs.declared.kinds.Colour.TheVariants.{Green, Blue}
use Rattle.isa.specs.declared.kinds.Register.{Register}
use Rattle.isa.specs.declared.kinds.Kind.{Kind}
use Rattle.isa.specs.declared.kinds.Kind.TheVariants.{Move, Copy, Arith, Load, Store, Jump, Branch, Halt}
use Rattle.machine.specs.declared.queue.Pair.{Pair}
use Rattle.machine.specs.declared.ends.Report.{Report}
use Rattle.machine.specs.declared.ends.Report.TheVariants.{CountersDiffer, StoreDiffers, Destination, Queue, Outside}
use Rattle.machine.specs.declared.ends.End.{End}
use Rattle.machine.specs.declared.ends.End.TheVariants.{Going, Halted, NoSuchCell, Reported}
use Rattle.machine.specs.Ends.{going?}
use Rattle.machine.specs.Pairs.{first, rest, some?, overlay}

-- the latches (registers, the two counters, the destination, the queue), the cells, and the number of stores made
pub record State : Type 0 where
  pub regs : ℕ → ℕ
  pub green : ℕ
  pub blue : ℕ
  pub destination : ℕ
  pub queue : List Pair
  pub cells : ℕ → ℕ
  pub stores : ℕ

-- what a step comes to: an end, or the next state
pub data Outcome : Type 0 where
  stop : End → Outcome
  go : State → Outcome

-- the test holds, or the report is made
abbrev pub need : Bool → Report → Outcome → Outcome
need true r o = o
need false r o = stop (Reported r)

abbrev pub reg : State → Register → ℕ
reg s a = s.regs a.number

abbrev pub with_regs : State → (ℕ → ℕ) → State
with_regs s f = record { regs = f; green = s.green; blue = s.blue; destination = s.destination; queue = s.queue; cells = s.cells; stores = s.stores }

-- the counters and the destination
abbrev pub with_place : State → ℕ → ℕ → ℕ → State
with_place s g b d = record { regs = s.regs; green = g; blue = b; destination = d; queue = s.queue; cells = s.cells; stores = s.stores }

abbrev pub with_queue : State → List Pair → State
with_queue s q = record { regs = s.regs; green = s.green; blue = s.blue; destination = s.destination; queue = q; cells = s.cells; stores = s.stores }

-- one store more
abbrev pub with_store : State → ℕ → ℕ → State
with_store s a v = record { regs = s.regs; green = s.green; blue = s.blue; destination = s.destination; queue = s.queue; cells = replaced s.cells a v; stores = suc s.stores }

-- both counters at p, and the destination d
abbrev pub at : ℕ → ℕ → State → State
at p d s = with_place s p p d

-- on to the next instruction, with the destination d
abbrev pub fall : ℕ → State → Outcome
fall d s = go (with_place s (suc s.green) (suc s.blue) d)

-- a register set to v, and on
abbrev pub put : State → Register → ℕ → Outcome
put s a v = fall s.destination (with_regs s (replaced s.regs a.number v))

abbrev pub zero? : ℕ → Bool
zero? n = n == 0

-- what a load of each colour sees: blue the cells, green the queued pairs laid over them
abbrev pub seen : Colour → List Pair → (ℕ → ℕ) → ℕ → ℕ
seen Green queue cells a = overlay queue cells a
seen Blue queue cells a = cells a

-- green's store queues a pair, of which there may be 16
abbrev pub enqueue : State → ℕ → ℕ → Outcome
enqueue s a v = need (nat_lt (length s.queue) 16) Queue (fall s.destination (with_queue s (s.queue ++ (record { address = a; word = v } ∷ []))))

-- whether these are the pair's address and word
abbrev pub pair? : Pair → ℕ → ℕ → Bool
pair? p a v = p.address == a && p.word == v

-- blue's store must be the oldest queued pair, and writable; it leaves the queue, and is made
abbrev pub commit : (ℕ → Bool) → State → ℕ → ℕ → Outcome
commit w s a v =
    need (some? s.queue) Queue
    (need (pair? (first s.queue) a v) StoreDiffers
    (cond (w a) (fall s.destination (with_store (with_queue s (rest s.queue)) a v)) (stop NoSuchCell)))

abbrev pub store : (ℕ → Bool) → Colour → State → ℕ → ℕ → Outcome
store w Green s a v = enqueue s a v
store w Blue s a v = commit w s a v

-- green's half of a jump: the destination must be clear, and becomes x
abbrev pub aim : State → ℕ → Outcome
aim s x = need (zero? s.destination) Destination (fall x s)

-- blue's half of a jump: the destination must be set, and be x; both counters become it, and it is cleared
abbrev pub land : State → ℕ → Outcome
land s x = need (not (zero? s.destination)) Destination (need (s.destination == x) Destination (go (at s.destination 0 s)))

abbrev pub jump : Colour → State → ℕ → Outcome
jump Green s x = aim s x
jump Blue s x = land s x

-- a jump to x where n is 0; where it is not, the destination must be clear, and stays so
abbrev pub branch : Colour → State → ℕ → ℕ → Outcome
branch c s n x = cond (zero? n) (jump c s x) (aim s 0)

-- the destination must be clear and the queue empty
abbrev pub halt : State → Outcome
halt s = need (zero? s.destination) Destination (need (not (some? s.queue)) Queue (stop Halted))

-- what an instruction does, where the cells at which w is true are writable
abbrev pub exec : (ℕ → Bool) → Kind → State → Outcome
exec w (Move c a n) s = put s a n
exec w (Copy a b) s = put s a (reg s b)
exec w (Arith o a b c) s = put s a (alu o (reg s b) (reg s c))
exec w (Load c a b) s = put s a (seen c s.queue s.cells (reg s b))
exec w (Store c a b) s = store w c s (reg s a) (reg s b)
exec w (Jump c a) s = jump c s (reg s a)
exec w (Branch c a b) s = branch c s (reg s a) (reg s b)
exec w Halt s = halt s

-- the instruction that both counters name
abbrev pub act : (ℕ → Bool) → List Kind → State → Outcome
act w code s =
    need (s.green == s.blue) CountersDiffer (need (nat_lt s.green (length code)) Outside (exec w (slice_index_or code s.green Halt) s))

-- an ending step changes no latch and no cell
abbrev pub settled : State → Outcome → End × State
settled s (stop e) = (e, s)
settled s (go t) = (Going, t)

-- a run: its state, how it stands, and the number of steps taken
pub record Run : Type 0 where
  pub state : State
  pub end : End
  pub steps : ℕ

-- one step more, after which the run stands so
abbrev pub counted : Run → End × State → Run
counted x t = record { state = t.1; end = t.0; steps = suc x.steps }

-- one step; a run that has ended stays
abbrev pub step : (ℕ → Bool) → List Kind → Run → Run
step w code x = cond (going? x.end) (counted x (settled x.state (act w code x.state))) x

-- n steps, or those to the end
abbrev pub after : (ℕ → Bool) → List Kind → Run → ℕ → Run
after w code x zero = x
after w code x (suc n) = step w code (after w code x n)

-- the stores made from one state to the next: as many of the oldest queued pairs as the store count rose by
abbrev pub leaving : State → State → List Pair
leaving s t = take (t.stores - s.stores) s.queue

-- the stores made within n steps, in order
abbrev pub made : (ℕ → Bool) → List Kind → Run → ℕ → List Pair
made w code x zero = []
made w code x (suc n) = made w code x n ++ leaving (after w code x n).state (after w code x (suc n)).state

-- all latches 0, the queue empty
abbrev pub begin : (ℕ → ℕ) → State
begin cells = record { regs = λ r. 0; green = 0; blue = 0; destination = 0; queue = []; cells = cells; stores = 0 }

-- a run at its start
abbrev pub started : (ℕ → ℕ) → Run
started cells = record { state = begin cells; end = Going; steps = 0 }
