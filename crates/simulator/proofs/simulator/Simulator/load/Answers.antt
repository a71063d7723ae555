use Rattle.std.proofs.Common.{ℕ, List, map, ap, ◌∙◌, rules}
use Rattle.std.specs.List.{range_with_len}
use Rattle.isa.specs.Layout.{kind_at, word}
use Rattle.rules.specs.Words.{module_of}
use Rattle.checker.specs.Passing.{words_of}
use Rattle.machine.specs.Views.{kinds}
use Rattle.simulator.proofs.Loading.{idle_loads}
use Rattle.simulator.proofs.simulator.Simulator.load.Goals as goal

pub returns-clause-after : goal.returns-clause-after
returns-clause-after g c =
    let s = c.args.self.now in
    let cells = g.M.Memory.cells s.memory in
    let ws = words_of c.args.pass.now in
    idle_loads (module_of ws).code (kinds s.code) (kinds c.fill_code.new.code) cells s.run c.start.result (search rules)
    (c.fill_code.ensures ∙ ap (λ (x : List ℕ). map (kind_at x) (range_with_len 0 (word x 0))) c.words.ensures) (c.start.ensures cells)
