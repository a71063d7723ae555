use Rattle.std.proofs.Common.{◌≡◌, [], drop, vec_items, vec_len, sym, ap, ◌∙◌, subst, arith}
use Rattle.std.proofs.lemmas.List.{drop_all}
use Rattle.compiler.specs.Emitting.{emitted, sofar, zeros}
use Rattle.compiler.proofs.Adding.{emitted-stop}
use Rattle.compiler.proofs.Flattened.{flat, AllSound, all_of, flat_whole}
use Rattle.compiler.proofs.lines.Lines.select.Goals as goal

pub loop-statement-init : goal.loop-statement-init
loop-statement-init c = (
  omega arith,
  λ P S closed slots.
      let ns = c.args.nodes.now in
      let ss = c.args.statements.now in
      let s = c.start.new.self in
      let a = c.start.ensures (omega (arith, c.clear.ensures.len)) in
      let e : 6 ≡ vec_len s.lines = omega (arith, a.longer, c.clear.ensures.len) in
      (subst (AllSound ns ss 6) e (all_of ns S.lists S.within), ap (λ p. sofar s (flat ns ss 6 p)) (sym e)),
)

pub returns : goal.returns
returns c P S closed slots =
    let ns = c.args.nodes.now in
    let ss = c.args.statements.now in
    let z = c.loop-statement.self in
    let i = c.loop-statement.statement-index in
    let K = flat ns ss 6 6 in
    let a = c.start.ensures (omega (arith, c.clear.ensures.len)) in
    let e : drop i ss ≡ [] = drop_all i ss c.loop-statement-test.false in
    sym (emitted-stop (vec_items z.lines) z.entry)
    ∙ ap (λ l. sofar z (flat ns l c.loop-statement.next.0 (vec_len z.lines))) (sym e)
    ∙ (c.loop-statement.invariant.1 P S closed slots).1
    ∙ a.code K
    ∙ ap (λ ls. emitted ls c.clear.new.self.entry (zeros 6 K)) c.clear.ensures.none
    ∙ ap (λ x. emitted [] x (zeros 6 K)) c.clear.ensures.entry
    ∙ flat_whole ns S.lists
