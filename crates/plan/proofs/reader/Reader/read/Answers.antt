use Rattle.std.proofs.Common.{take, sym, ◌∙◌}
use Rattle.plan.proofs.Finishing.{empty_shows, empty_holds, read_ended, read_failed}
use Rattle.plan.proofs.reader.Reader.read.Goals as goal

pub lines-read-requires-clause-empty : goal.lines-read-requires-clause-empty
lines-read-requires-clause-empty c =
    let p = c.clear.new.self in
    empty_shows p _ c.clear.ensures.nodes c.clear.ensures.statements c.clear.ensures.own c.new.ensures.empty

pub returns-else-is_err : goal.returns-else-is_err
returns-else-is_err c =
    read_ended (take 8192 c.args.text.now) _ c.lines-read.new.self c.scan.ensures.scanned c.lines-read.result (sym c.is_err.ensures.value ∙ c.if-is_err.false) c.clear.ensures.statements c.lines-read.ensures

pub returns-then-is_err : goal.returns-then-is_err
returns-then-is_err c =
    let p = c.clear-then-is_err.new.self in
    let e = c.clear-then-is_err.ensures in
    read_failed (take 8192 c.args.text.now) _ c.lines-read.new.self c.scan.ensures.scanned c.lines-read.result p (sym c.is_err.ensures.value ∙ c.if-is_err.true) (empty_holds p e.nodes e.statements) c.lines-read.ensures
