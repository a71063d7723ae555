use Rattle.std.proofs.Common.{◌≡◌, ℕ, ◌+◌, ◌<◌, ◌≤◌, true}
use Rattle.blocks.specs.View.{view, count}
use Rattle.rules.specs.Limits.{in_force}
use Rattle.rules.specs.Block.{before, behind, kept?}
use Rattle.rules.specs.Words.{block_code}
use Rattle.blocks.proofs.state.State.check_block.Given as goal

abbrev pub invariant-loop-i : goal.invariant-loop-i
invariant-loop-i l =
    (view l.self ≡ before l.card (block_code in_force l.part) l.i)
    × ((k : ℕ) → k < l.i → kept? in_force l.blocks (behind l.blocks l.next) l.card (block_code in_force l.part) k ≡ true)
    × (count l.self ≤ 32 + l.i)
    × (l.self.green ≤ l.i)
    × (l.self.blue ≤ l.i)
