use Rattle.std.proofs.Common.{◌≡◌, ℕ, ◌+◌, ◌≤◌, List, length, get_or, vec_items, sym, ap, ◌∙◌, subst, arith}
use Rattle.plan.specs.Tables.{Closed}
use Rattle.compiler.specs.Widths.{width_by, Measured}
use Rattle.compiler.proofs.Widened.{measured_more, low_more}
use Rattle.compiler.proofs.width.measure.Goals as goal

pub loop-node-preserved : goal.loop-node-preserved
loop-node-preserved c =
    let a = c.loop-node.invariant in
    let i = c.loop-node.node-index in
    let ns = c.nodes-node-items.result.now in
    let ws = vec_items c.loop-node.widths in
    let r = c.node-item.result in
    let w = c.width-w.result in
    let long : length ws ≡ i = omega (arith, ap length c.as_slice.ensures.value, c.as_slice.ensures.len, a.len) in
    let value : w ≡ width_by ws r = c.width-w.ensures.value ∙ ap (λ l. width_by l r) c.as_slice.ensures.value in
    let items = sym c.push_reserved.ensures.items in
    let closed : Closed ns = subst Closed (sym c.nodes-node-items.ensures) c.args.plan.now.closed in
    let P : List ℕ → Type 0 = λ l. (k : ℕ) → get_or l k 0 ≤ i + 1 in
    record {
      len = omega (arith, c.push_reserved.ensures.len, a.len);
      capacity = c.push_reserved.ensures.capacity ∙ a.capacity;
      room = omega (arith, c.push_reserved.ensures.capacity, a.room);
      low = subst P items (low_more ns ws i r w long a.low (omega (arith, c.width-w.ensures.low, c.as_slice.ensures.len, a.len)));
      measured = subst (Measured ns) items (measured_more ns ws i r w long closed c.loop-node-test.true c.node-item.is value a.measured);
    }
