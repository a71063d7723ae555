-- A load on an idle simulator.
use Rattle.std.proofs.Common.{◌≡◌, false, List, Some, None, Option, ap, ◌∙◌, true≢false}
use Rattle.std.specs.Option.{option_map, is_some}
use Rattle.memory.specs.Cells.{Cells}
use Rattle.isa.specs.declared.kinds.Kind.{Kind}
use Rattle.machine.specs.declared.run.Run.{Run as Held}
use Rattle.machine.specs.Machine.{Run, started}
use Rattle.machine.specs.Views.{run_of}
use Rattle.simulator.specs.Calls.{loads}
use Rattle.simulator.specs.Model.{Model, loaded_of}

abbrev holding : Cells → List Kind → Run → Model
holding cells code r = record { cells = cells; loaded = Some (record { code = code; run = r }) }

pub idle_loads : (code old new : List Kind) (cells : Cells) (o : Option Held) (h : Held) → is_some o ≡ false → new ≡ code → run_of h cells ≡ started cells.word
    → holding cells new (run_of h cells) ≡ (loads code (record { cells = cells; loaded = option_map (loaded_of old cells) o })).1
idle_loads code old new cells None h e k r = ap (λ x. holding cells x (run_of h cells)) k ∙ ap (holding cells code) r
idle_loads code old new cells (Some x) h e k r = absurd (true≢false e)
