use Rattle.std.proofs.Common.{◌+◌, vec_items, vec_len, sym, ap, ◌∙◌, subst, arith}
use Rattle.plan.specs.declared.tree.Statement.TheVariants.{End}
use Rattle.plan.specs.Tables.{roots, Rooted, total, own, loop}
use Rattle.plan.proofs.Growing.{each_push, total-push, owns_most, loops_most, own_most, loop_most}
use Rattle.plan.proofs.tables.Plan.add_statement.Goals as goal

pub overflow_add-self : goal.overflow_add-self
overflow_add-self c =
    let p = c.args.self.now in
    omega (arith, owns_most (vec_items p.statements), p.statements.ok.0, own_most c.args.statement, p.few.1, p.owned, c.own.ensures)

pub overflow_add-self-2 : goal.overflow_add-self-2
overflow_add-self-2 c =
    let p = c.args.self.now in
    omega (arith, loops_most (vec_items p.statements), p.statements.ok.0, loop_most c.args.statement, p.few.1, p.looped, c.loops.ensures)

pub invariant_of-self : goal.invariant_of-self
invariant_of-self c =
    let p = c.args.self.now in
    let ss = vec_items p.statements in
    let s = c.args.statement in
    let q = c.push_reserved.ensures in
    let rooted = subst (Rooted (vec_len p.nodes)) (sym q.items) (each_push (End 0) roots (λ k. vec_len p.nodes) ss s p.rooted c.requires.roots) in
    let owned = ap (λ n. n + c.own.result) p.owned ∙ ap (λ n. total own ss + n) c.own.ensures ∙ sym (total-push own ss s) ∙ ap (total own) (sym q.items) in
    let looped = ap (λ n. n + c.loops.result) p.looped ∙ ap (λ n. total loop ss + n) c.loops.ensures ∙ sym (total-push loop ss s) ∙ ap (total loop) (sym q.items) in
    record { room = (p.room.0, omega (arith, p.room.1, q.capacity)); few = (p.few.0, omega (arith, c.requires.room, q.len)); closed = p.closed; rooted = rooted; owned = owned; looped = looped }
