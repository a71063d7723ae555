use Rattle.std.proofs.Common.{◌≡◌, ◌-◌, ◌≤◌, ◌++◌, map, Some, vec_items, vec_len}
use Rattle.text.specs.Lists as lists
use Rattle.text.proofs.list.read_list.Given as goal

abbrev pub invariant-loop-rest : goal.invariant-loop-rest
invariant-loop-rest l = (vec_len l.numbers ≤ l.most) × (lists.numbers l.text ≡ map Some (vec_items l.numbers) ++ lists.numbers l.rest)

abbrev pub decreases-loop-rest : goal.decreases-loop-rest
decreases-loop-rest l = l.most - vec_len l.numbers
