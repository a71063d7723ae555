-- The module of one halt passes.
use Rattle.std.proofs.Common.{◌≡◌, zero, suc, true, refl, arith}
use Rattle.isa.specs.Layout.{code_fits, block_fits, every}
use Rattle.rules.specs.Limits.{in_force}
use Rattle.rules.specs.Cards.{entry}
use Rattle.rules.specs.Module.{Keeps}
use Rattle.rules.specs.Words.{Passes, module_of}
use Rattle.checker.specs.Passing.{one-halt}

code : code_fits one-halt ≡ true
unfolding every
code = refl

blocks : every 1 (block_fits one-halt 1) ≡ true
unfolding every
blocks = refl

kept : Keeps in_force (module_of one-halt)
unfolding entry
kept zero h = refl
kept (suc p) h = absurd (omega arith)

pub halt_passes : Passes in_force one-halt
halt_passes = (code, blocks, kept)
