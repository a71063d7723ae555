use Rattle.std.proofs.Common.{◌≡◌, get_or, vec_items, vec_len, sym, ap, ◌∙◌, arith}
use Rattle.std.proofs.lemmas.List.{get_or_read_under}
use Rattle.plan.specs.declared.tree.Statement.TheVariants.{End}
use Rattle.plan.specs.Tables.{roots, own, loop}
use Rattle.plan.proofs.Growing.{each_set, total-set, with_body_own, with_body_loop, with_body_roots}
use Rattle.plan.proofs.tables.Plan.set_body.Goals as goal

pub invariant_of-self : goal.invariant_of-self
invariant_of-self c =
    let p = c.args.self.now in
    let ss = vec_items p.statements in
    let i = c.args.at in
    let n = c.args.body in
    let s = c.with_body.result in
    let old : c.index.result.now ≡ get_or ss i (End 0) = get_or_read_under ss i p.statements.len _ _ c.index.ensures c.requires p.statements.ok.0 in
    let same-own = ap own c.with_body.ensures ∙ with_body_own _ n ∙ ap own old in
    let same-loop = ap loop c.with_body.ensures ∙ with_body_loop _ n ∙ ap loop old in
    let same-roots = ap roots c.with_body.ensures ∙ with_body_roots _ n ∙ ap roots old in
    record { room = p.room; few = p.few; closed = p.closed; rooted = each_set (End 0) roots (λ k. vec_len p.nodes) ss i s p.rooted (omega (arith, same-roots)); owned = p.owned ∙ sym (total-set own ss i s same-own); looped = p.looped ∙ sym (total-set loop ss i s same-loop) }
