use Rattle.std.proofs.Common.{◌≡◌, ◌<◌, [], length, None, Ok, Err, sym, ap, ◌∙◌, arith, rules}
use Rattle.stack.specs.Items.{items}
use Rattle.grammar.proofs.Acceptor.{line}
use Rattle.plan.specs.declared.fault.ReadFault.TheVariants as fault-is
use Rattle.plan.specs.Reading.{rest, first, place_of, ask}
use Rattle.plan.proofs.Beginning.{all_placed}
use Rattle.plan.proofs.Lines.{strange_met}
use Rattle.language.specs.Plans.{done}
use Rattle.std.proofs.lemmas.List.{nil_from_length}
use Rattle.plan.proofs.Lines.{all_read, left_open}
use Rattle.plan.proofs.Listed.{whole}
use Rattle.plan.proofs.Finishing.{open_base, lines_err}
use Rattle.plan.proofs.reader.Reader.lines.Goals as goal

pub returns : goal.returns
returns c =
    let inv = c.loop-mark.invariant in
    let a = c.loop-mark.self in
    let n = c.in_ok-end.end in
    let os = items c.loop-mark.repeats in
    let none : None ≡ first (rest a) = search rules in
    let e : Ok n ≡ place_of (rest a) a.marks.end = sym c.in_ok-end.was ∙ c.place.ensures in
    let nil : os ≡ [] = nil_from_length os (omega (arith, c.len.ensures, c.if-len-gt0.false)) in
    let w = whole inv.1.1 nil in
    record { tree = w.plan done; says = inv.1.2 ∙ ap (λ B. ask a 0 (length os) (line B)) w.base_is ∙ all_read a n 0 (length os) w.plan none e; lists = w.lists; costs = w.needs_is; places_are = all_placed a none ∙ inv.2 }

pub returns-then-len-gt0 : goal.returns-then-len-gt0
returns-then-len-gt0 c =
    let inv = c.loop-mark.invariant in
    let a = c.loop-mark.self in
    let n = c.in_ok-end.end in
    let os = items c.loop-mark.repeats in
    let none : None ≡ first (rest a) = search rules in
    let e : Ok n ≡ place_of (rest a) a.marks.end = sym c.in_ok-end.was ∙ c.place.ensures in
    let some : 0 < length os = omega (arith, c.len.ensures, c.if-len-gt0.true) in
    let w = open_base inv.1.1 some in
    inv.1.2 ∙ ap (λ B. ask a 0 (length os) (line B)) w.is ∙ left_open a n 0 (length os) w.lines w.tree w.outer none e

pub returns-in_err-end : goal.returns-in_err-end
returns-in_err-end c =
    let inv = c.loop-mark.invariant in
    let a = c.loop-mark.self in
    let f = c.in_err-end.field-0.0 in
    let x = c.from_residual-in_err-end.result in
    let h = c.from_residual-in_err-end.ensures.1 in
    let e : Err f ≡ place_of (rest a) a.marks.end = sym c.in_err-end.was ∙ c.place.ensures in
    lines_err c.args.self.now a x (fault-is.Mark f) h (inv.1.2 ∙ strange_met a f 0 _ _ e)
