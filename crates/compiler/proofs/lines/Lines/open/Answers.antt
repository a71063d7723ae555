use Rattle.std.proofs.Common.{length, sym, ap, ◌∙◌, arith}
use Rattle.std.proofs.lemmas.List.{length_push}
use Rattle.language.specs.Limits.{nodes, width}
use Rattle.language.specs.Plans.{variable}
use Rattle.plan.specs.Trees.{tree_at}
use Rattle.compiler.specs.Emitting.{computed}
use Rattle.compiler.proofs.Halving.{some-nodes, two, three, goes_whole, goes_cell, goes_binary}
use Rattle.compiler.proofs.Tabled.{entry, some-width}
use Rattle.compiler.proofs.lines.Lines.open.Goals as goal

pub returns-in-Number-clause-goes : goal.returns-in-Number-clause-goes
returns-in-Number-clause-goes c f =
    let a = c.set.ensures (omega (arith, some-nodes (tree_at c.args.nodes.now c.args.id), f.room)) in
    let e = entry _ _ _ _ f.closed f.fit.0 c.in-Some.ensures.lookup.1 c.in-Number.is in
    goes_whole _ a (sym (ap nodes e.tree_is)) (λ K. ap (λ x. computed c.args.twin.number x K) (sym e.tree_is))

pub returns-in-Variable-clause-goes : goal.returns-in-Variable-clause-goes
returns-in-Variable-clause-goes c f =
    let a = c.set-in-Variable.ensures (omega (arith, some-nodes (tree_at c.args.nodes.now c.args.id), f.room)) in
    let e = entry _ _ _ _ f.closed f.fit.0 c.in-Some.ensures.lookup.1 c.in-Variable.is in
    goes_whole _ a (sym (ap nodes e.tree_is)) (λ K. ap (λ n. computed c.args.twin.number (variable n) K) c.from.ensures ∙ ap (λ x. computed c.args.twin.number x K) (sym e.tree_is))

pub returns-in-Cell-clause-goes : goal.returns-in-Cell-clause-goes
returns-in-Cell-clause-goes c f =
    let e = entry _ _ _ _ f.closed f.fit.0 c.in-Some.ensures.lookup.1 c.in-Cell.is in
    let count = ap nodes e.tree_is in
    let some = some-nodes (tree_at c.args.nodes.now c.in-Cell.address) in
    let first = c.keep.ensures.items (omega (arith, count, some, f.slots)) in
    let l = ap length first ∙ length_push _ _ in
    let second = c.keep-in-Cell.ensures.items (omega (arith, count, some, f.slots, l, c.keep.ensures.slots)) in
    goes_cell _ _ _ _ e f.fit (two _ _ _ _ _ first second)

pub returns-in-Binary-clause-goes : goal.returns-in-Binary-clause-goes
returns-in-Binary-clause-goes c f =
    let e = entry _ _ _ _ f.closed f.fit.0 c.in-Some.ensures.lookup.1 c.in-Binary.is in
    let count = ap nodes e.tree_is in
    let some = some-nodes (tree_at c.args.nodes.now c.in-Binary.left) in
    let first = c.keep-in-Binary.ensures.items (omega (arith, count, some, f.slots)) in
    let l = ap length first ∙ length_push _ _ in
    let second = c.keep-in-Binary-2.ensures.items (omega (arith, count, some, f.slots, l, c.keep-in-Binary.ensures.slots)) in
    let m = ap length second ∙ length_push _ _ in
    let third = c.keep-in-Binary-3.ensures.items (omega (arith, count, some, f.slots, l, m, c.keep-in-Binary.ensures.slots, c.keep-in-Binary-2.ensures.slots)) in
    let next = c.behind-next.ensures (omega (arith, ap width e.tree_is, f.fit.1, some-width (tree_at c.args.nodes.now c.in-Binary.right))) in
    goes_binary _ _ _ _ _ _ _ next e f.fit (three _ _ _ _ _ _ _ first second third)
