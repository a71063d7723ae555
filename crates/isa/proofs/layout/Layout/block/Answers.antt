use Rattle.std.proofs.Common.{◌≡◌, true, None, rules, tests}
use Rattle.isa.specs.Layout.{slot_byte, slotted, card_byte}
use Rattle.isa.proofs.Made.{made}
use Rattle.isa.proofs.layout.Layout.block.Goals as goal

pub returns-clause-card : goal.returns-clause-card
returns-clause-card c =
    let byte = card_byte c.args.self.now.words.now c.args.self.now.instructions c.args.block in
    made _ _ (λ k s. slotted (byte k) ≡ true → slot_byte s ≡ byte k) (λ k s q call. search (rules, tests)) _ None 32 c.from_fn.ensures.items
