use Rattle.std.proofs.Common.{◌+◌, ◌<◌, ◌≤◌, length, vec_len, sym, refl, ap, ◌∙◌, subst, arith}
use Rattle.stack.specs.Items.{items}
use Rattle.grammar.specs.declared.mark.Mark.TheVariants.{Repeat}
use Rattle.plan.specs.declared.reader.Reader.{Reader}
use Rattle.plan.specs.Reading.{rest, Opened}
use Rattle.plan.proofs.Beginning.{repeat_starts}
use Rattle.plan.proofs.Steps.{Skip, skipped, goes_skip, goes_then, shorter, by_err}
use Rattle.plan.proofs.Lines.{repeat_deep, told_err, told_tell}
use Rattle.plan.proofs.Opening.{opened-goes, opened_push, opened_laid}
use Rattle.plan.proofs.Laying.{pushed_ok, opened_told}
use Rattle.plan.proofs.Lines.{repeat_passed}
use Rattle.plan.proofs.reader.Reader.repeat.Goals as goal

pub returns-then-len-ge-REPEATS-clause-says : goal.returns-then-len-ge-REPEATS-clause-says
returns-then-len-ge-REPEATS-clause-says c =
    let a = c.args.self.now in
    let x = c.too_deep.result in
    let h = c.too_deep.ensures in
    let i = by_err x _ h in
    let full : 4 ≤ length (items c.args.repeats.now) = omega (arith, c.len.ensures, c.if-len-ge-REPEATS.true) in
    λ K S. told_tell a a _ (items c.args.repeats.now) (items c.args.repeats.now) K x i (λ g. repeat_deep a _ _ K x g h c.requires.seen full)

pub returns-clause-ready : goal.returns-clause-ready
returns-clause-ready c =
    let a = c.args.self.now in
    let q = c.skip.ensures in
    let k : Skip a c.skip.new.self Repeat = skipped c.requires.seen q.rest q.marks q.plan in
    let r = c.in_ok-count.ensures in
    let o = c.open_repeat-repeat.result in
    let w = c.open_repeat-repeat.ensures in
    let b = c.repeat_line.new.self in
    let os = items c.args.repeats.now in
    let few : length os < 4 = omega (arith, c.len.ensures, c.if-len-ge-REPEATS.false) in
    let pushed = pushed_ok c.args.repeats.now c.push.new.self o c.push.result c.push.ensures.pushed few c.requires.ready.slots in
    let l : length (rest b) < length (rest a) = omega (arith, shorter k, r.goes.forth) in
    let z : Reader = record { marks = b.marks; at = b.at; plan = c.open_repeat-repeat.new.self; node_room = omega (arith, b.node_room, ap vec_len w.nodes); statement_room = omega (arith, w.len, ap (λ p. vec_len p.statements) q.plan, ap vec_len r.goes.statements, l, a.statement_room) } in
    record { opened = subst (Opened c.open_repeat-repeat.new.self) (sym pushed) (opened_push c.open_repeat-repeat.new.self o os (opened_laid z.plan os (goes_then (goes_skip k) r.goes) w.nodes w.len (omega (arith, w.own)) c.requires.ready.opened) (omega (arith, w.entry, w.len)) (omega (arith, w.need))); slots = c.push.ensures.room ∙ c.requires.ready.slots }

pub returns-clause-starts : goal.returns-clause-starts
returns-clause-starts c =
    let a = c.args.self.now in
    let q = c.skip.ensures in
    let k : Skip a c.skip.new.self Repeat = skipped c.requires.seen q.rest q.marks q.plan in
    let r = c.in_ok-count.ensures in
    let x = c.in_ok-count.count in
    let w = c.open_repeat-repeat.ensures in
    let b = c.repeat_line.new.self in
    let l : length (rest b) < length (rest a) = omega (arith, shorter k, r.goes.forth) in
    let z : Reader = record { marks = b.marks; at = b.at; plan = c.open_repeat-repeat.new.self; node_room = omega (arith, b.node_room, ap vec_len w.nodes); statement_room = omega (arith, w.len, ap (λ p. vec_len p.statements) q.plan, ap vec_len r.goes.statements, l, a.statement_room) } in
    repeat_starts a c.skip.new.self b z x k r.goes.statements w.statements refl r.begun.place_is r.quiet

pub returns-clause-says : goal.returns-clause-says
returns-clause-says c =
    let a = c.args.self.now in
    let q = c.skip.ensures in
    let k : Skip a c.skip.new.self Repeat = skipped c.requires.seen q.rest q.marks q.plan in
    let r = c.in_ok-count.ensures in
    let x = c.in_ok-count.count in
    let o = c.open_repeat-repeat.result in
    let w = c.open_repeat-repeat.ensures in
    let b = c.repeat_line.new.self in
    let os = items c.args.repeats.now in
    let few : length os < 4 = omega (arith, c.len.ensures, c.if-len-ge-REPEATS.false) in
    let pushed = pushed_ok c.args.repeats.now c.push.new.self o c.push.result c.push.ensures.pushed few c.requires.ready.slots in
    λ K S. opened_told a c.skip.new.self b _ x o k r.goes r.begun w.nodes w.statements w.own w.entry w.need {T = Unit {0}} tt 0 os (items c.push.new.self) few pushed r.says refl refl K S

pub returns-in_err-count-clause-ready : goal.returns-in_err-count-clause-ready
returns-in_err-count-clause-ready c =
    let a = c.args.self.now in
    let q = c.skip.ensures in
    let k : Skip a c.skip.new.self Repeat = skipped c.requires.seen q.rest q.marks q.plan in
    let r = c.in_err-count.ensures in
    let os = items c.args.repeats.now in
    record { opened = opened-goes os (goes_then (goes_skip k) r.goes) c.requires.ready.opened; slots = c.requires.ready.slots }

pub returns-in_err-count-clause-says : goal.returns-in_err-count-clause-says
returns-in_err-count-clause-says c =
    let a = c.args.self.now in
    let q = c.skip.ensures in
    let k : Skip a c.skip.new.self Repeat = skipped c.requires.seen q.rest q.marks q.plan in
    let r = c.in_err-count.ensures in
    let x = c.from_residual.result in
    let f = c.in_err-count.field-0.0 in
    let h = c.from_residual.ensures.1 in
    let os = items c.args.repeats.now in
    let few : length os < 4 = omega (arith, c.len.ensures, c.if-len-ge-REPEATS.false) in
    λ K S. told_err a _ _ os os K x f h (repeat_passed _ (length os) K few k ∙ r.says (length os + 1) K)
