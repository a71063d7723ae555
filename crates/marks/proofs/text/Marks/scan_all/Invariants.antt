use Rattle.std.proofs.Common.{◌+◌, ◌-◌, ◌≤◌, List, ◌++◌, length, vec_items, vec_len}
use Rattle.grammar.specs.declared.mark.Placed.{Placed}
use Rattle.grammar.specs.Verdict.{Ending}
use Rattle.marks.specs.Spelling.{Scanned}
use Rattle.marks.proofs.text.Marks.scan_all.Given as goal

abbrev pub invariant-loop-first : goal.invariant-loop-first
invariant-loop-first l =
    (vec_len l.self.placed + length l.rest ≤ length l.text)
    × (length l.text ≤ 8192)
    × ((ps : List Placed) (z : Ending) → Scanned l.rest (length l.text - length l.rest) ps z → Scanned l.text 0 (vec_items l.self.placed ++ ps) z)

abbrev pub decreases-loop-first : goal.decreases-loop-first
decreases-loop-first l = length l.rest
