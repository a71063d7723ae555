use Rattle.std.proofs.Common.{sym, refl, subst, arith}
use Rattle.stack.specs.Items.{items}
use Rattle.compiler.specs.declared.half.Half.{Half}
use Rattle.compiler.specs.declared.half.Half.TheVariants.{Load, Operate}
use Rattle.compiler.specs.Halves.{Goes, FitsHalf}
use Rattle.compiler.proofs.Halving.{goes_whole}
use Rattle.compiler.proofs.lines.Lines.go_on.Goals as goal

pub returns-in-Load-clause-goes : goal.returns-in-Load-clause-goes
returns-in-Load-clause-goes c =
    let hs = items c.args.stack.now in
    let ns = c.args.nodes.now in
    let P : Half → Type 0 = λ h. FitsHalf ns c.args.self.now c.args.stack.now h → Goes ns c.args.self.now c.set.new.self hs hs h in
    subst P (sym c.in-Load.is) (λ f. goes_whole _ {h = Load c.in-Load.twin} (c.set.ensures (omega (arith, f.room))) refl (λ K. refl))

pub returns-in-Operate-clause-goes : goal.returns-in-Operate-clause-goes
returns-in-Operate-clause-goes c =
    let hs = items c.args.stack.now in
    let ns = c.args.nodes.now in
    let P : Half → Type 0 = λ h. FitsHalf ns c.args.self.now c.args.stack.now h → Goes ns c.args.self.now c.set-in-Operate.new.self hs hs h in
    subst P (sym c.in-Operate.is) (λ f. goes_whole _ {h = Operate c.in-Operate.op c.in-Operate.left c.in-Operate.right} (c.set-in-Operate.ensures (omega (arith, f.room))) refl (λ K. refl))
