-- What compiling a text leaves. Must be believed, with what passes the check (Passes), what a run is (Ran), and which tables hold a plan (Holds).
use Rattle.std.specs.Prelude.{◌≡◌, ℕ, ◌^◌, ◌<◌, ◌≤◌, Bool, List, length, take, drop, Ok, Err, Result}
use Rattle.rules.specs.Limits.{in_force}
use Rattle.rules.specs.Module.{size}
use Rattle.rules.specs.Words.{module_of, Passes}
use Rattle.language.specs.Limits as plans
use Rattle.language.specs.Plans.{Plan}
use Rattle.plan.specs.declared.tables.Plan.{Plan as Tables}
use Rattle.plan.specs.Reads.{Holds}
use Rattle.translation.specs.Compile.{compiled}
use Rattle.translation.specs.Runs.{Ran}
use Rattle.compiler.specs.declared.fault.CompileFault.{CompileFault}
use Rattle.compiler.specs.Deciding.{accepted, refused, largest, Decided}
use Rattle.compiler.specs.Faults.{number, place, layer}

-- the first n words of the output are a module for the plan
pub record Built (P : Plan) (old new : List ℕ) (n : ℕ) : Type 0 where
  -- the others are as they were
  pub inside : n ≤ length new
  pub rest : drop n new ≡ drop n old
  pub passes : Passes in_force (take n new)
  pub size_is : size (module_of (take n new)) ≡ plans.need P
  -- they are read as the plan's code; over cells that hold words, writable or not, its run without a strike does what the plan means
  pub module_is : module_of (take n new) ≡ compiled P
  pub runs : (w : ℕ → Bool) (cells : ℕ → ℕ) → ((a : ℕ) → a < 2 ^ 32 → cells a < 2 ^ 32) → Ran w P cells

-- the tables hold this plan, which is what the text is, and w is its largest width
pub record Taken (text : List ℕ) (room : ℕ) (t : Tables) (w : ℕ) (P : Plan) : Type 0 where
  pub decided : Decided text room (accepted P)
  pub holds : Holds t P
  pub widest_is : w ≡ plans.widest P

-- the text is a plan that is compiled: the output has its module, and the compiler's tables hold it
pub record Compiled (text old new : List ℕ) (t : Tables) (w n : ℕ) : Type 0 where
  pub plan : Plan
  pub taken : Taken text (length old) t w plan
  pub built : Built plan old new n

-- the text is refused, and the output is as it was
pub record Refused (text old new : List ℕ) (e : CompileFault) : Type 0 where
  pub decided : Decided text (length old) (refused (number e) (place e) (layer e))
  pub kept : new ≡ old

abbrev pub Compiles : List ℕ → List ℕ → List ℕ → Tables → ℕ → Result ℕ CompileFault → Type 0
Compiles text old new t w (Ok n) = Compiled text old new t w n
Compiles text old new t w (Err e) = Refused text old new e

-- what is known before anything is written: the same plan, within the limits, and room for its module
pub record Ready (text : List ℕ) (room : ℕ) (t : Tables) (w : ℕ) : Type 0 where
  pub plan : Plan
  pub taken : Taken text room t w plan
  pub roomy : largest ≤ room
  pub within : plans.Within plans.in_force plan

abbrev pub Judges : {T : Type 0} → List ℕ → ℕ → Tables → ℕ → Result T CompileFault → Type 0
Judges text room t w (Ok u) = Ready text room t w
Judges text room t w (Err e) = Decided text room (refused (number e) (place e) (layer e))
