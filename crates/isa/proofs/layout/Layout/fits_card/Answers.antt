use Rattle.std.proofs.Common.{rules, tests}
use Rattle.isa.specs.Layout.{slot_fits}
use Rattle.isa.proofs.Tested.{every_by_all}
use Rattle.isa.proofs.layout.Layout.fits_card.Goals as goal

pub returns : goal.returns
returns c =
    every_by_all 32 (slot_fits c.args.self.now.words.now c.args.self.now.instructions c.args.block) _ c.all.result _ c.all.ensures.ran (λ x b q k. search (rules, tests))
