use Rattle.std.proofs.Common.{vec_items, arith}
use Rattle.plan.proofs.Growing.{owns_most}
use Rattle.plan.proofs.tables.Plan.spent.Goals as goal

pub overflow_add-result : goal.overflow_add-result
overflow_add-result c =
    let p = c.args.self.now in
    omega (arith, owns_most (vec_items p.statements), p.statements.ok.0, p.owned, p.few.0, p.few.1)

pub returns-clause-bound : goal.returns-clause-bound
returns-clause-bound c =
    let p = c.args.self.now in
    omega (arith, owns_most (vec_items p.statements), p.statements.ok.0, p.owned, p.few.0, p.few.1, c.len.ensures)
