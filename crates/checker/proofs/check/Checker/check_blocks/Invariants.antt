use Rattle.std.proofs.Common.{◌≡◌, ℕ, ◌<◌, true, vec_items}
use Rattle.rules.specs.Limits.{in_force}
use Rattle.rules.specs.Module.{kept_at}
use Rattle.rules.specs.Words.{edge, module_of}
use Rattle.checker.proofs.check.Checker.check_blocks.Given as goal

-- the rules are kept before block b
abbrev pub invariant-loop-b : goal.invariant-loop-b
invariant-loop-b l =
    ((q : ℕ) → q < edge l.examined.layout.words.now l.b → kept_at in_force (module_of l.examined.layout.words.now) q ≡ true)
    × (vec_items l.self.blocks ≡ (module_of l.examined.layout.words.now).blocks)
