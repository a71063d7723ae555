use Rattle.std.proofs.Common.{◌≡◌, ◌++◌, map, drop, vec_items}
use Rattle.talft.specs.Acts.{seen, acts}
use Rattle.talft.proofs.calls.calls_of.Given as goal

abbrev pub invariant-loop-entry : goal.invariant-loop-entry
invariant-loop-entry l = map seen (vec_items l.calls) ++ acts l.last (drop l.entry-index l.entries) ≡ acts l.first l.entries
