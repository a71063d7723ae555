use Rattle.language.proofs.Sampled.{sample-within}
use Rattle.language.proofs.sample.sample_need.Goals as goal

pub returns-clause-within : goal.returns-clause-within
returns-clause-within c = sample-within
