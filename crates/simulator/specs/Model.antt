-- What a simulator stands for.
use Rattle.std.specs.Prelude.{List, None, Option}
use Rattle.std.specs.Option.{option_map}
use Rattle.memory.specs.Cells.{Cells}
use Rattle.isa.specs.declared.kinds.Kind.{Kind}
use Rattle.machine.specs.declared.run.Run.{Run as Held}
use Rattle.machine.specs.Machine.{Run}
use Rattle.machine.specs.Views.{run_of, kinds}
use Rattle.simulator.specs.declared.simulator.Simulator.{Simulator}

-- a module's instructions and their run, under way or ended
pub record Loaded : Type 0 where
  pub code : List Kind
  pub run : Run

-- the memory's meaning, and what is loaded: nothing while the simulator is idle
pub record Model : Type 0 where
  pub cells : Cells
  pub loaded : Option Loaded

-- a simulator that nothing was done with
abbrev pub fresh : Cells → Model
fresh cells = record { cells = cells; loaded = None }

abbrev pub loaded_of : List Kind → Cells → Held → Loaded
loaded_of code cells x = record { code = code; run = run_of x cells }

module _ {M : Type 0} (cells : M → Cells) where
  abbrev pub model : Simulator M → Model
  model s = record { cells = cells s.memory; loaded = option_map (loaded_of (kinds s.code) (cells s.memory)) s.run }
