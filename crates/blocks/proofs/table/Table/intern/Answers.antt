use Rattle.std.proofs.Common.{◌≡◌, ◌≤◌, List, [], ◌∷◌, ◌++◌, length, get_or, vec_items, vec_capacity, sym, ap, ◌∙◌, subst, rules}
use Rattle.std.proofs.lemmas.List.{get_or_default}
use Rattle.blocks.specs.Trees.{room, Node, Number, Closed, Once, Kept, trees, tree_of, reach}
use Rattle.rules.specs.Expressions.{num}
use Rattle.blocks.proofs.Entries.{push_closed, push_once, push_tree, push_kept, tree_at}
use Rattle.blocks.proofs.table.Table.intern.Goals as goal

pub invariant_of-self : goal.invariant_of-self
invariant_of-self c =
    let t = c.args.self.now in
    let ns = vec_items t.nodes in
    let n = c.args.node in
    let low : reach n ≤ length ns = search rules in
    let p = c.push_reserved.ensures in
    let P : List Node → Type 0 = λ l. Once (trees l) in
    let cap : room ≤ vec_capacity c.push_reserved.new.self = search rules in
    record { room = cap; closed = subst Closed (sym p.items) (push_closed ns n t.closed low); once = subst P (sym p.items) (push_once ns n t.closed low t.once c.in-None.ensures) }

pub returns-in-Some-clause-tree : goal.returns-in-Some-clause-tree
returns-in-Some-clause-tree c =
    let t = c.args.self.now in
    let ns = vec_items t.nodes in
    let f = c.in-Some.ensures in
    tree_at ns c.in-Some.x.index t.closed f.0 ∙ ap (tree_of (trees ns)) (get_or_default ns _ (Number 0) c.args.node f.0 ∙ f.1)

pub returns-in-None-clause-tree : goal.returns-in-None-clause-tree
returns-in-None-clause-tree c =
    let t = c.args.self.now in
    let ns = vec_items t.nodes in
    let n = c.args.node in
    let low : reach n ≤ length ns = search rules in
    let p = c.push_reserved.ensures in
    let at_end : c.len-index.result ≡ length ns = search rules in
    ap (λ l. get_or (trees l) c.len-index.result (num 0)) p.items ∙ ap (λ i. get_or (trees (ns ++ (n ∷ []))) i (num 0)) at_end ∙ push_tree ns n t.closed low

pub returns-in-None-clause-kept : goal.returns-in-None-clause-kept
returns-in-None-clause-kept c =
    let t = c.args.self.now in
    let ns = vec_items t.nodes in
    let n = c.args.node in
    let low : reach n ≤ length ns = search rules in
    let p = c.push_reserved.ensures in
    let P : List Node → Type 0 = λ l. Kept (trees ns) (trees l) in
    subst P (sym p.items) (push_kept ns n t.closed low)
