use Rattle.std.proofs.Common.{ℕ, Bool, eqb, List, [], ◌∷◌, eqb→eq}
use Rattle.isa.specs.Words.{mask}
use Rattle.isa.proofs.Table.{at}
use Rattle.isa.proofs.words.fields.Goals as goal

abbrev right : ℕ → ℕ → Bool
right op entry = eqb entry (mask op)

abbrev table : List ℕ
table = 9 ∷ 9 ∷ 12 ∷ 14 ∷ 14 ∷ 14 ∷ 14 ∷ 12 ∷ 12 ∷ 12 ∷ 12 ∷ 8 ∷ 8 ∷ 12 ∷ 12 ∷ 0 ∷ []

pub returns : goal.returns
returns c = eqb→eq _ _ (at right table tt c.args.op c.requires)
