use Rattle.translation.proofs.Reading.{words_pass}
use Rattle.translation.proofs.words.words_pass.Goals as goal

pub returns-clause-every : goal.returns-clause-every
returns-clause-every c = words_pass
