use Rattle.std.proofs.Common.{◌≡◌, ℕ, zero, suc, ◌<◌, [], ◌∷◌, get_or, refl, arith, rules}
use Rattle.language.specs.Meaning.{book_of}
use Rattle.language.specs.Sample.{comes}
use Rattle.worked.specs.Examples.{WorkedExamples}
use Rattle.soundness.proofs.Worked.{worked}
use Rattle.worked.proofs.Verdicts.{verdicts}
use Rattle.worked.proofs.worked_examples.Goals as goal

left : (a : ℕ) → a < 4 → (book_of comes).cells a ≡ get_or (1 ∷ 15 ∷ 25 ∷ 35 ∷ []) a 0
left zero h = refl
left (suc zero) h = refl
left (suc (suc zero)) h = refl
left (suc (suc (suc zero))) h = refl
left (suc (suc (suc (suc a)))) h = absurd (omega arith)

all : WorkedExamples 7 5 55
all = record {
  runs = worked;
  verdicts = verdicts;
  sample_need = refl;
  sample_ending = refl;
  sample_cells = left;
}

pub returns : goal.returns
returns c = search (rules, all)
