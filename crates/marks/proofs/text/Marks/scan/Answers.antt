use Rattle.std.proofs.Common.{take, ap, ◌∙◌, subst}
use Rattle.std.proofs.lemmas.List.{take_min}
use Rattle.marks.specs.Endings.{ending}
use Rattle.marks.specs.Spelling.{Scanned}
use Rattle.marks.proofs.text.Marks.scan.Goals as goal

pub returns-clause-scanned : goal.returns-clause-scanned
returns-clause-scanned c =
    let t = c.args.text.now in
    subst (λ l. Scanned l 0 c.scan_all-self.new.self.placed.items (ending c.scan_all-self.result)) (ap (λ n. take n t) c.min.ensures ∙ take_min 8192 t) c.scan_all-self.ensures.scanned
