use Rattle.std.proofs.Common.{length, vec_items, vec_len, sym, refl, ap, ◌∙◌, subst, arith, rules}
use Rattle.std.proofs.lemmas.Result.{IfOk-from_err}
use Rattle.stack.specs.Items.{items}
use Rattle.grammar.specs.declared.mark.Mark.TheVariants.{LineEnd}
use Rattle.grammar.proofs.Acceptor.{add}
use Rattle.plan.specs.declared.reader.Reader.{Reader}
use Rattle.plan.specs.Plans.{spent}
use Rattle.plan.proofs.Beginning.{laid_starts}
use Rattle.plan.proofs.Steps.{Skip, skipped, by_err}
use Rattle.plan.proofs.Lines.{blank_passed, told_err}
use Rattle.plan.proofs.Opening.{opened-goes, opened_laid}
use Rattle.plan.proofs.Laying.{laid_shows, ask-same}
use Rattle.plan.specs.Showing.{Shows, doing}
use Rattle.plan.proofs.reader.Reader.line.Goals as goal

pub returns-in-LineEnd-clause-says : goal.returns-in-LineEnd-clause-says
returns-in-LineEnd-clause-says c =
    let a = c.args.self.now in
    let q = c.skip.ensures in
    let k : Skip a c.skip.new.self LineEnd = skipped (search rules) q.rest q.marks q.plan in
    let os = items c.args.repeats.now in
    λ K S. (K, subst (λ p. Shows (vec_items p.nodes) (vec_items p.statements) (spent p) os K) (sym q.plan) S, blank_passed _ (length os) K k)

pub returns-in_ok-statement-in_default : goal.returns-in_ok-statement-in_default
returns-in_ok-statement-in_default c =
    let a = c.args.self.now in
    let r = c.in_ok-statement-in_default.ensures in
    let s = c.in_ok-statement-in_default.statement in
    let b = c.statement.new.self in
    let w = c.add_statement.ensures in
    let os = items c.args.repeats.now in
    let z : Reader = record { marks = b.marks; at = b.at; plan = c.add_statement.new.self; node_room = omega (arith, b.node_room, ap vec_len w.nodes); statement_room = omega (arith, w.len, ap vec_len r.goes.statements, r.less, a.statement_room) } in
    record {
      ready = record { opened = opened_laid z.plan os r.goes w.nodes w.len (omega (arith, w.own)) c.requires.ready.opened; slots = c.requires.ready.slots };
      onward = record {
        forth = r.goes.forth;
        room = omega (arith, r.goes.room, ap vec_len w.nodes);
        lines = omega (arith, w.len, ap vec_len r.goes.statements, r.less);
        longer = omega (arith, w.len, ap vec_len r.goes.statements);
        dearer = omega (arith, r.goes.more, ap vec_len w.nodes, w.own, r.goes.own);
        marks = r.goes.marks;
      };
      less = r.less;
      starts = laid_starts a b z s r.goes.statements w.statements refl r.placed;
      says = λ K S. (add (doing (vec_items b.plan.nodes) s) K, laid_shows a b z s r.goes r.laid w.nodes w.statements w.own S, r.says (length os) K ∙ ask-same b _ 0 (length os) _ refl refl);
    }

pub returns-in_err-statement-in_default : goal.returns-in_err-statement-in_default
returns-in_err-statement-in_default c =
    let a = c.args.self.now in
    let r = c.in_err-statement-in_default.ensures in
    let x = c.from_residual.result in
    let f = c.in_err-statement-in_default.field-0.0 in
    let h = c.from_residual.ensures.1 in
    let os = items c.args.repeats.now in
    record {
      ready = record { opened = opened-goes os r.goes c.requires.ready.opened; slots = c.requires.ready.slots };
      onward = record {
        forth = r.goes.forth;
        room = r.goes.room;
        lines = omega (arith, ap vec_len r.goes.statements, r.goes.forth);
        longer = omega (arith, ap vec_len r.goes.statements);
        dearer = omega (arith, r.goes.more, r.goes.own);
        marks = r.goes.marks;
      };
      less = IfOk-from_err x _ (by_err x _ h);
      starts = IfOk-from_err x _ (by_err x _ h);
      says = λ K S. told_err a _ _ os os K x f h (r.says (length os) K);
    }
