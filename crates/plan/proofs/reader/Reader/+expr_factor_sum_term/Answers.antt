use Rattle.std.proofs.Common.{◌≡◌, suc, Some, Ok, Err, sym, refl, ◌∙◌, subst, arith, rules}
use Rattle.std.proofs.lemmas.Bool.{leb-true, leb-false}
use Rattle.isa.specs.declared.kinds.Arithmetic.TheVariants.{Mul, Lt}
use Rattle.grammar.specs.declared.mark.Mark.TheVariants.{Number, Variable, Operator, Open}
use Rattle.grammar.proofs.Acceptor.{nothing, same, want}
use Rattle.plan.specs.Reading.{rest, first, operator, StopsAt, not_star, NoFactorNext, FactorSays, TermSays, SumSays, ExprSays}
use Rattle.plan.proofs.Steps.{Skip, skipped, fill, ends, op-next, goes_then, goes_join, err_tell, refused, no_factor, only_close}
use Rattle.plan.proofs.Beginning.{quiet_join}
use Rattle.plan.proofs.Parts.{number_read, variable-read, limit_met, opened-fault, unclosed, bracket_read, times-read, times-fault, signs, sign_read, sign-fault, less-read, less-fault, counts-node}
use Rattle.plan.proofs.reader.Reader.+expr_factor_sum_term.Goals as goal

pub expr-returns-in_default-2-clause-says : goal.expr-returns-in_default-2-clause-says
expr-returns-in_default-2-clause-says t c =
    let s = c.in_ok-left.ensures in
    let none : StopsAt (ends nothing) c.operator.result = search rules in
    λ p k. s.says p nothing k ∙ fill c.sum.new.self _ p nothing same _ k (subst (StopsAt (ends nothing)) c.operator.ensures none)

pub factor-returns-in_default-clause-says : goal.factor-returns-in_default-clause-says
factor-returns-in_default-clause-says t c =
    let a = c.args.self.now in
    let x = c.refuse.result in
    let none : NoFactorNext (first (rest a)) = search rules in
    λ p l S M k. refused a _ p (want l S M k) x _ c.refuse.ensures (no_factor l S M k (first (rest a)) none)

pub factor-returns-in-Some-Number-clause-says : goal.factor-returns-in-Some-Number-clause-says
factor-returns-in-Some-Number-clause-says t c =
    let q = c.skip.ensures in
    let w = c.add.ensures in
    let k : Skip c.args.self.now c.skip.new.self (Number c.in-Some-Number.number) = skipped (search rules) q.rest q.marks q.plan in
    number_read _ k w

pub factor-returns-in-Some-Variable-clause-says : goal.factor-returns-in-Some-Variable-clause-says
factor-returns-in-Some-Variable-clause-says t c =
    let q = c.skip-in-Some-Variable.ensures in
    let w = c.add-in-Some-Variable.ensures in
    let k : Skip c.args.self.now c.skip-in-Some-Variable.new.self (Variable c.in-Some-Variable.variable) = skipped (search rules) q.rest q.marks q.plan in
    variable-read _ k w

pub factor-returns-then-is_full-clause-says : goal.factor-returns-then-is_full-clause-says
factor-returns-then-is_full-clause-says t c =
    let a = c.args.self.now in
    let x = c.too_deep.result in
    let h = c.too_deep.ensures in
    let seen : Some (Open c.in-Some-Open.bracket) ≡ first (rest a) = search rules in
    λ p l S M k. limit_met a _ c.in-Some-Open.bracket x _ h seen (leb-true 16 _ (sym c.is_full.ensures ∙ c.if-is_full.true)) p l S M k

pub term-loop-self-preserved : goal.term-loop-self-preserved
term-loop-self-preserved t c =
    let inv = c.loop-self.invariant in
    let r = c.in_ok-right.ensures in
    let q = c.skip.ensures in
    let w = c.join-left.ensures in
    let seen : Some Mul ≡ operator (first (rest c.loop-self.self)) = search rules in
    let k : Skip c.loop-self.self c.skip.new.self (Operator Mul) = skipped (op-next _ Mul seen) q.rest q.marks q.plan in
    let g = goes_then inv.1 (goes_join k r.part.goes w) in (
      r.part.depth ∙ inv.0,
      g,
      w.inside_is,
      λ d p m S h e. inv.3 d p m S h e ∙ times-read c.loop-self.left c.in_ok-right.right d k inv.2 r.part.goes (subst (λ n. FactorSays c.skip.new.self c.factor-in-Some-Mul.new.self n (Ok c.in_ok-right.right)) (inv.0 ∙ sym e) r.says) w p m S h,
      g.forth,
      omega (arith, inv.5, counts-node c.loop-self.left c.in_ok-right.right k inv.2 r.part.goes r.part.counts w),
      quiet_join k refl r.part.quiet w ∙ inv.6,
    )

pub term-returns-in_err-right-clause-says : goal.term-returns-in_err-right-clause-says
term-returns-in_err-right-clause-says t c =
    let inv = c.loop-self.invariant in
    let s = c.in_ok-left.ensures in
    let r = c.in_err-right.ensures in
    let q = c.skip.ensures in
    let x = c.from_residual-in_err-right.result in
    let f = c.in_err-right.field-0.0 in
    let b = c.from_residual-in_err-right.ensures.1 in
    let z = c.factor-in-Some-Mul.new.self in
    let d = c.args.nesting.now.depth in
    let seen : Some Mul ≡ operator (first (rest c.loop-self.self)) = search rules in
    let k : Skip c.loop-self.self c.skip.new.self (Operator Mul) = skipped (op-next _ Mul seen) q.rest q.marks q.plan in
    λ p l S h. s.says p l S same h ∙ inv.3 d p l S h (sym s.part.depth) ∙ times-fault c.loop-self.left d k (subst (λ n. FactorSays c.skip.new.self z n (Err f)) (inv.0 ∙ s.part.depth) r.says) p l S h ∙ err_tell x f b _

pub sum-loop-operator-preserved : goal.sum-loop-operator-preserved
sum-loop-operator-preserved t c =
    let inv = c.loop-operator.invariant in
    let r = c.in_ok-right.ensures in
    let q = c.skip.ensures in
    let w = c.join-left.ensures in
    let o = c.in-Some.operator in
    let sign = signs (operator (first (rest c.loop-operator.self))) o (sym c.in-Some.is ∙ c.sign.ensures) in
    let k : Skip c.loop-operator.self c.skip.new.self (Operator o) = skipped (op-next _ o sign.0) q.rest q.marks q.plan in (
      r.part.depth ∙ inv.0,
      goes_then inv.1 (goes_join k r.part.goes w),
      w.inside_is,
      λ d p m h e. inv.3 d p m h e ∙ sign_read c.loop-operator.left c.in_ok-right.right d sign.1 k inv.2 r.part.goes (subst (λ n. TermSays c.skip.new.self c.term-in-Some.new.self n (Ok c.in_ok-right.right)) (inv.0 ∙ sym e) r.says) r.stops w p m h,
      subst (λ l. StopsAt not_star (operator (first l))) (sym w.rest_is) r.stops,
      omega (arith, inv.5, counts-node c.loop-operator.left c.in_ok-right.right k inv.2 r.part.goes r.part.counts w),
      quiet_join k refl r.part.quiet w ∙ inv.6,
    )

pub sum-returns-in_err-right-clause-says : goal.sum-returns-in_err-right-clause-says
sum-returns-in_err-right-clause-says t c =
    let inv = c.loop-operator.invariant in
    let s = c.in_ok-left.ensures in
    let r = c.in_err-right.ensures in
    let q = c.skip.ensures in
    let x = c.from_residual-in_err-right.result in
    let f = c.in_err-right.field-0.0 in
    let b = c.from_residual-in_err-right.ensures.1 in
    let z = c.term-in-Some.new.self in
    let d = c.args.nesting.now.depth in
    let o = c.in-Some.operator in
    let sign = signs (operator (first (rest c.loop-operator.self))) o (sym c.in-Some.is ∙ c.sign.ensures) in
    let k : Skip c.loop-operator.self c.skip.new.self (Operator o) = skipped (op-next _ o sign.0) q.rest q.marks q.plan in
    λ p l h. s.says p l same h ∙ inv.3 d p l h (sym s.part.depth) ∙ sign-fault c.loop-operator.left d sign.1 k (subst (λ n. TermSays c.skip.new.self z n (Err f)) (inv.0 ∙ s.part.depth) r.says) p l h ∙ err_tell x f b _

pub expr-returns-clause-part : goal.expr-returns-clause-part
expr-returns-clause-part t c =
    let s = c.in_ok-left.ensures in
    let r = c.in_ok-right.ensures in
    let q = c.skip.ensures in
    let w = c.join.ensures in
    let seen : Some Lt ≡ operator (first (rest c.sum.new.self)) = search rules in
    let k : Skip c.sum.new.self c.skip.new.self (Operator Lt) = skipped (op-next _ Lt seen) q.rest q.marks q.plan in
    record {
      depth = r.part.depth ∙ s.part.depth;
      goes = goes_then s.part.goes (goes_join k r.part.goes w);
      quiet = quiet_join k refl r.part.quiet w ∙ s.part.quiet;
      inside = w.inside_is;
      counts = omega (arith, s.part.counts, counts-node c.in_ok-left.left c.in_ok-right.right k s.part.inside r.part.goes r.part.counts w);
    }

pub expr-returns-clause-says : goal.expr-returns-clause-says
expr-returns-clause-says t c =
    let s = c.in_ok-left.ensures in
    let r = c.in_ok-right.ensures in
    let q = c.skip.ensures in
    let w = c.join.ensures in
    let d = c.args.nesting.now.depth in
    let seen : Some Lt ≡ operator (first (rest c.sum.new.self)) = search rules in
    let k : Skip c.sum.new.self c.skip.new.self (Operator Lt) = skipped (op-next _ Lt seen) q.rest q.marks q.plan in
    λ p h. s.says p nothing h ∙ less-read c.in_ok-left.left c.in_ok-right.right d k s.part.inside r.part.goes (subst (λ n. SumSays c.skip.new.self c.sum-2.new.self n (Ok c.in_ok-right.right)) s.part.depth r.says) r.stops w p h

pub expr-returns-in_err-right-clause-says : goal.expr-returns-in_err-right-clause-says
expr-returns-in_err-right-clause-says t c =
    let s = c.in_ok-left.ensures in
    let r = c.in_err-right.ensures in
    let q = c.skip.ensures in
    let x = c.from_residual-in_err-right.result in
    let f = c.in_err-right.field-0.0 in
    let b = c.from_residual-in_err-right.ensures.1 in
    let z = c.sum-2.new.self in
    let d = c.args.nesting.now.depth in
    let seen : Some Lt ≡ operator (first (rest c.sum.new.self)) = search rules in
    let k : Skip c.sum.new.self c.skip.new.self (Operator Lt) = skipped (op-next _ Lt seen) q.rest q.marks q.plan in
    λ p h. s.says p nothing h ∙ less-fault c.in_ok-left.left d k (subst (λ n. SumSays c.skip.new.self z n (Err f)) s.part.depth r.says) p h ∙ err_tell x f b _

pub factor-returns-in_err-inner-in-Some-Open-clause-says : goal.factor-returns-in_err-inner-in-Some-Open-clause-says
factor-returns-in_err-inner-in-Some-Open-clause-says t c =
    let r = c.in_err-inner-in-Some-Open.ensures in
    let q = c.skip-in-Some-Open.ensures in
    let x = c.from_residual.result in
    let f = c.in_err-inner-in-Some-Open.field-0.0 in
    let b = c.from_residual.ensures.1 in
    let d = c.args.nesting.now.depth in
    let k : Skip c.args.self.now c.skip-in-Some-Open.new.self (Open c.in-Some-Open.bracket) = skipped (search rules) q.rest q.marks q.plan in
    λ p l S M h. opened-fault d (leb-false 16 _ (sym c.is_full.ensures ∙ c.if-is_full.false)) k (subst (λ n. ExprSays c.skip-in-Some-Open.new.self c.expr.new.self n (Err f)) c.enter-guard.ensures.deeper r.says) p l S M h ∙ err_tell x f b _

pub factor-returns-in_err-pass-in-Some-Open-clause-says : goal.factor-returns-in_err-pass-in-Some-Open-clause-says
factor-returns-in_err-pass-in-Some-Open-clause-says t c =
    let e = c.in_ok-inner-in-Some-Open.ensures in
    let r = c.in_err-pass-in-Some-Open.ensures in
    let q = c.skip-in-Some-Open.ensures in
    let x = c.from_residual-in_err-pass-in-Some-Open.result in
    let f = c.in_err-pass-in-Some-Open.field-0.0 in
    let b = c.from_residual-in_err-pass-in-Some-Open.ensures.1 in
    let d = c.args.nesting.now.depth in
    let k : Skip c.args.self.now c.skip-in-Some-Open.new.self (Open c.in-Some-Open.bracket) = skipped (search rules) q.rest q.marks q.plan in
    λ p l S M h. unclosed c.expr.new.self c.in_ok-inner-in-Some-Open.inner d (leb-false 16 _ (sym c.is_full.ensures ∙ c.if-is_full.false)) k (subst (λ n. ExprSays c.skip-in-Some-Open.new.self c.expr.new.self n (Ok c.in_ok-inner-in-Some-Open.inner)) c.enter-guard.ensures.deeper e.says) (λ d p l S M t k. r.says (suc d) p d p _ _ refl (only_close c.in-Some-Open.bracket t l S M k)) p l S M h ∙ err_tell x f b _

pub factor-returns-in_ok-pass-in-Some-Open-clause-says : goal.factor-returns-in_ok-pass-in-Some-Open-clause-says
factor-returns-in_ok-pass-in-Some-Open-clause-says t c =
    let e = c.in_ok-inner-in-Some-Open.ensures in
    let r = c.in_ok-pass-in-Some-Open.ensures in
    let q = c.skip-in-Some-Open.ensures in
    let w = c.wrap.ensures in
    let d = c.args.nesting.now.depth in
    let k : Skip c.args.self.now c.skip-in-Some-Open.new.self (Open c.in-Some-Open.bracket) = skipped (search rules) q.rest q.marks q.plan in
    bracket_read c.in_ok-inner-in-Some-Open.inner d (leb-false 16 _ (sym c.is_full.ensures ∙ c.if-is_full.false)) k (subst (λ n. ExprSays c.skip-in-Some-Open.new.self c.expr.new.self n (Ok c.in_ok-inner-in-Some-Open.inner)) c.enter-guard.ensures.deeper e.says) e.part.inside r.goes (λ d p l S M t k. r.says (suc d) p d p _ _ refl (only_close c.in-Some-Open.bracket t l S M k)) w
