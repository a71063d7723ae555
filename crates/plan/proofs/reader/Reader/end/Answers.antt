use Rattle.std.proofs.Common.{◌<◌, length, vec_len, refl, ap, ◌∙◌, subst, arith}
use Rattle.stack.specs.Items.{items}
use Rattle.grammar.specs.declared.mark.Mark.TheVariants.{End}
use Rattle.plan.specs.declared.reader.Reader.{Reader}
use Rattle.plan.specs.Plans.{spent}
use Rattle.plan.specs.Reading.{rest, Opened}
use Rattle.plan.proofs.Beginning.{quiet_skip, ended-starts}
use Rattle.plan.proofs.Steps.{Skip, skipped, goes_skip, goes_then, shorter, by_err}
use Rattle.plan.proofs.Lines.{told_err, told_tell}
use Rattle.plan.proofs.Opening.{opened-goes, opened_rest, opened_last, opened_laid}
use Rattle.plan.proofs.Laying.{ended_told}
use Rattle.plan.proofs.Laying.{end-fault, end_none}
use Rattle.plan.proofs.reader.Reader.end.Goals as goal

pub returns-in_default-clause-says : goal.returns-in_default-clause-says
returns-in_default-clause-says c =
    let a = c.args.self.now in
    let x = c.refuse.result in
    let h = c.refuse.ensures in
    let i = by_err x _ h in
    let e = c.in_default.ensures.popped in
    λ K S. told_tell a a 0 (items c.args.repeats.now) (items c.pop.new.self) K x i (λ g. end_none a 0 (items c.args.repeats.now) x g h c.requires.seen e.0 K S)

pub end_repeat-requires-clause-entry : goal.end_repeat-requires-clause-entry
end_repeat-requires-clause-entry c =
    let a = c.args.self.now in
    let q = c.skip.ensures in
    let l = c.in_ok-line_end.ensures in
    let x = opened_last a.plan c.in-Some.repeat (items c.pop.new.self) (subst (Opened a.plan) c.in-Some.ensures.popped c.requires.ready.opened) in
    let p = l.plan ∙ q.plan in
    omega (arith, x.0, ap (λ p. vec_len p.statements) p)

pub end_repeat-requires-clause-need : goal.end_repeat-requires-clause-need
end_repeat-requires-clause-need c =
    let a = c.args.self.now in
    let q = c.skip.ensures in
    let l = c.in_ok-line_end.ensures in
    let x = opened_last a.plan c.in-Some.repeat (items c.pop.new.self) (subst (Opened a.plan) c.in-Some.ensures.popped c.requires.ready.opened) in
    let p = l.plan ∙ q.plan in
    omega (arith, x.1, ap spent p)

pub returns-clause-ready : goal.returns-clause-ready
returns-clause-ready c =
    let a = c.args.self.now in
    let q = c.skip.ensures in
    let l = c.in_ok-line_end.ensures in
    let w = c.end_repeat.ensures in
    let o = c.in-Some.repeat in
    let e = c.in-Some.ensures.popped in
    let b = c.line_end.new.self in
    let k : Skip a c.skip.new.self End = skipped c.requires.seen q.rest q.marks q.plan in
    let s : length (rest b) < length (rest a) = omega (arith, shorter k, l.goes.forth) in
    let z : Reader = record { marks = b.marks; at = b.at; plan = c.end_repeat.new.self; node_room = omega (arith, b.node_room, ap vec_len w.nodes); statement_room = omega (arith, w.len, ap (λ p. vec_len p.statements) q.plan, ap vec_len l.goes.statements, s, a.statement_room) } in
    let left = opened_rest a.plan o (items c.pop.new.self) (subst (Opened a.plan) e c.requires.ready.opened) in
    record { opened = opened_laid z.plan (items c.pop.new.self) (goes_then (goes_skip k) l.goes) w.nodes w.len (omega (arith, w.own)) left; slots = c.in-Some.ensures.room ∙ c.requires.ready.slots }

pub returns-clause-starts : goal.returns-clause-starts
returns-clause-starts c =
    let a = c.args.self.now in
    let q = c.skip.ensures in
    let l = c.in_ok-line_end.ensures in
    let w = c.end_repeat.ensures in
    let o = c.in-Some.repeat in
    let b = c.line_end.new.self in
    let k : Skip a c.skip.new.self End = skipped c.requires.seen q.rest q.marks q.plan in
    let s : length (rest b) < length (rest a) = omega (arith, shorter k, l.goes.forth) in
    let z : Reader = record { marks = b.marks; at = b.at; plan = c.end_repeat.new.self; node_room = omega (arith, b.node_room, ap vec_len w.nodes); statement_room = omega (arith, w.len, ap (λ p. vec_len p.statements) q.plan, ap vec_len l.goes.statements, s, a.statement_room) } in
    ended-starts a b z o.statement _ (l.plan ∙ q.plan) w.statements refl (l.quiet ∙ quiet_skip k refl)

pub returns-clause-says : goal.returns-clause-says
returns-clause-says c =
    let a = c.args.self.now in
    let q = c.skip.ensures in
    let l = c.in_ok-line_end.ensures in
    let w = c.end_repeat.ensures in
    let o = c.in-Some.repeat in
    let e = c.in-Some.ensures.popped in
    let b = c.line_end.new.self in
    let k : Skip a c.skip.new.self End = skipped c.requires.seen q.rest q.marks q.plan in
    λ K S. ended_told a c.skip.new.self b _ o k l.plan w.nodes w.statements w.own {T = Unit {0}} tt 0 (items c.args.repeats.now) (items c.pop.new.self) e l.says refl refl K S

pub returns-in_err-line_end-clause-ready : goal.returns-in_err-line_end-clause-ready
returns-in_err-line_end-clause-ready c =
    let a = c.args.self.now in
    let q = c.skip.ensures in
    let l = c.in_err-line_end.ensures in
    let o = c.in-Some.repeat in
    let e = c.in-Some.ensures.popped in
    let k : Skip a c.skip.new.self End = skipped c.requires.seen q.rest q.marks q.plan in
    let left = opened_rest a.plan o (items c.pop.new.self) (subst (Opened a.plan) e c.requires.ready.opened) in
    record { opened = opened-goes (items c.pop.new.self) (goes_then (goes_skip k) l.goes) left; slots = c.in-Some.ensures.room ∙ c.requires.ready.slots }

pub returns-in_err-line_end-clause-says : goal.returns-in_err-line_end-clause-says
returns-in_err-line_end-clause-says c =
    let a = c.args.self.now in
    let q = c.skip.ensures in
    let l = c.in_err-line_end.ensures in
    let o = c.in-Some.repeat in
    let e = c.in-Some.ensures.popped in
    let x = c.from_residual.result in
    let f = c.in_err-line_end.field-0.0 in
    let h = c.from_residual.ensures.1 in
    let k : Skip a c.skip.new.self End = skipped c.requires.seen q.rest q.marks q.plan in
    λ K S. told_err a _ 0 (items c.args.repeats.now) (items c.pop.new.self) K x f h (end-fault a c.skip.new.self o k 0 (items c.args.repeats.now) (items c.pop.new.self) e (λ p s L z. l.says 0 p s L z) K S)
