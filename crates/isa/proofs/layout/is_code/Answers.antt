use Rattle.std.proofs.Common.{rules, tests}
use Rattle.isa.specs.Layout.{well_formed_at}
use Rattle.isa.proofs.Tested.{every_by_all}
use Rattle.isa.proofs.layout.is_code.Goals as goal

pub returns : goal.returns
returns c = every_by_all c.args.instructions (well_formed_at c.args.words.now) _ c.all.result _ c.all.ensures.ran (λ x b q k. search (rules, tests))
