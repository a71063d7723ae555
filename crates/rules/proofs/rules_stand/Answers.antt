use Rattle.rules.proofs.Copies.{copies as copies-stand}
use Rattle.rules.proofs.Meets.{card_means, card_from}
use Rattle.rules.proofs.Modules.{part_kept}
use Rattle.rules.proofs.rules_stand.Goals as goal

pub returns-clause-cards : goal.returns-clause-cards
returns-clause-cards c = λ K N. (card_means K N, card_from K N)

pub returns-clause-parts : goal.returns-clause-parts
returns-clause-parts c = part_kept

pub returns-clause-copies : goal.returns-clause-copies
returns-clause-copies c = copies-stand
