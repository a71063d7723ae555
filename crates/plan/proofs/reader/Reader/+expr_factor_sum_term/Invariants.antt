use Rattle.std.proofs.Common.{◌≡◌, ℕ, ◌+◌, ◌*◌, ◌<◌, ◌≤◌, length, vec_len}
use Rattle.language.specs.Limits.{nodes}
use Rattle.language.specs.Plans.{Tree}
use Rattle.grammar.proofs.Acceptor.{Left, Hole, have, same}
use Rattle.plan.specs.Reading.{rest, first, operator, tree_in, Goes, Quiet, ask, StopsAt, not_star}
use Rattle.plan.proofs.reader.Reader.+expr_factor_sum_term.Given as goal

abbrev pub decreases-expr : goal.decreases-expr
decreases-expr l = 4 * length (rest l.self.now) + 3

abbrev pub decreases-sum : goal.decreases-sum
decreases-sum l = 4 * length (rest l.self.now) + 2

abbrev pub decreases-term : goal.decreases-term
decreases-term l = 4 * length (rest l.self.now) + 1

abbrev pub decreases-factor : goal.decreases-factor
decreases-factor l = 4 * length (rest l.self.now)

abbrev pub invariant-term-loop-self : goal.invariant-term-loop-self
invariant-term-loop-self l =
    (l.nesting.depth ≡ l.initial.nesting.depth)
    × Goes l.initial.self l.self
    × (l.left.index < vec_len l.self.plan.nodes)
    × ((d p : ℕ) (m : Left) (S : Tree → Tree) (k : Hole) → d ≡ l.initial.nesting.depth → ask l.initial.self d p (have m S (tree_in l.initial.self l.initial.left) k) ≡ ask l.self d p (have m S (tree_in l.self l.left) k))
    × (length (rest l.self) ≤ length (rest l.initial.self))
    × (vec_len l.self.plan.nodes + nodes (tree_in l.initial.self l.initial.left) ≡ vec_len l.initial.self.plan.nodes + nodes (tree_in l.self l.left))
    × Quiet l.initial.self l.self

abbrev pub decreases-term-loop-self : goal.decreases-term-loop-self
decreases-term-loop-self l = length (rest l.self)

abbrev pub invariant-sum-loop-operator : goal.invariant-sum-loop-operator
invariant-sum-loop-operator l =
    (l.nesting.depth ≡ l.initial.nesting.depth)
    × Goes l.initial.self l.self
    × (l.left.index < vec_len l.self.plan.nodes)
    × ((d p : ℕ) (m : Left) (k : Hole) → d ≡ l.initial.nesting.depth → ask l.initial.self d p (have m same (tree_in l.initial.self l.initial.left) k) ≡ ask l.self d p (have m same (tree_in l.self l.left) k))
    × StopsAt not_star (operator (first (rest l.self)))
    × (vec_len l.self.plan.nodes + nodes (tree_in l.initial.self l.initial.left) ≡ vec_len l.initial.self.plan.nodes + nodes (tree_in l.self l.left))
    × Quiet l.initial.self l.self

abbrev pub decreases-sum-loop-operator : goal.decreases-sum-loop-operator
decreases-sum-loop-operator l = length (rest l.self)
