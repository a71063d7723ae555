use Rattle.std.proofs.Common.{[], ◌∷◌, ap, ◌∙◌, sym, subst, arith}
use Rattle.std.proofs.lemmas.List.{nil_from_length}
use Rattle.stack.specs.Items.{items}
use Rattle.compiler.specs.Halves.{line_count, weight, total, AllFit}
use Rattle.compiler.proofs.Halving.{alone, total_append, few_halves, fit_last, begun, further, finished}
use Rattle.compiler.proofs.lines.Lines.expression.Goals as goal

pub loop-init : goal.loop-init
loop-init c f =
    let ns = c.args.nodes.now in
    let first = alone c.new-stack.ensures.empty (omega (arith, f.enough, c.new-stack.ensures.room)) c.keep.ensures.items in
    let fits : AllFit ns (items c.keep.new.stack) = subst (AllFit ns) (sym first) ((f.inside, f.narrow), tt) in (
      begun ns c.args.self.now (items c.keep.new.stack) fits,
      omega (arith, ap (total ns (line_count ns)) first, f.room),
      omega (arith, ap (total ns (weight ns)) first, f.room),
      omega (arith, f.enough, c.new-stack.ensures.room, c.keep.ensures.slots),
    )

pub loop-preserved : goal.loop-preserved
loop-preserved c f =
    let ns = c.args.nodes.now in
    let rest = items c.pop.new.self in
    let h = c.in-Some.half in
    let p = c.in-Some.ensures.popped in
    let inv = c.loop.invariant f in
    let lines = ap (total ns (line_count ns)) p ∙ total_append ns (line_count ns) rest (h ∷ []) in
    let weights = ap (total ns (weight ns)) p ∙ total_append ns (weight ns) rest (h ∷ []) in
    let g = c.go_on.ensures.goes (record {
      closed = f.closed;
      fit = fit_last ns rest h (subst (AllFit ns) p inv.0.fits);
      room = omega (arith, lines, inv.1);
      slots = omega (arith, weights, inv.2, inv.3, few_halves ns rest, c.pop.ensures.room);
    }) in
    let lines-then = ap (total ns (line_count ns)) g.kept ∙ total_append ns (line_count ns) rest g.parts in
    let weights-then = ap (total ns (weight ns)) g.kept ∙ total_append ns (weight ns) rest g.parts in (
      further ns _ _ _ _ rest _ h _ _ p g inv.0,
      omega (arith, lines, lines-then, g.lines, g.adds.longer, inv.1),
      omega (arith, weights, weights-then, g.lighter, inv.2),
      omega (arith, inv.3, c.pop.ensures.room, c.go_on.ensures.slots),
    )

pub returns-in_default : goal.returns-in_default
returns-in_default c f =
    let first = alone c.new-stack.ensures.empty (omega (arith, f.enough, c.new-stack.ensures.room)) c.keep.ensures.items in
    finished c.args.nodes.now first c.in_default.ensures.popped.0 (c.loop.invariant f).0

pub returns : goal.returns
returns c f =
    let ns = c.args.nodes.now in
    let hs = items c.loop.stack in
    let first = alone c.new-stack.ensures.empty (omega (arith, f.enough, c.new-stack.ensures.room)) c.keep.ensures.items in
    let inv = c.loop.invariant f in
    let none = nil_from_length hs (omega (arith, few_halves ns hs, inv.2, c.loop-test.false)) in
    finished ns first none inv.0
