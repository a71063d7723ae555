-- The worked examples together.
use Rattle.std.specs.Prelude.{◌≡◌, ℕ, ◌<◌, [], ◌∷◌, slice_index}
use Rattle.language.specs.Limits.{need}
use Rattle.language.specs.Meaning.{book_of, ending}
use Rattle.language.specs.Sample.{sample, comes}
use Rattle.soundness.specs.Worked.{WorkedRuns}
use Rattle.worked.specs.Verdicts.{WorkedVerdicts}

-- S takes so many steps; the blue store that reads green's registers is refused at this place; the sample plan has this need
pub record WorkedExamples (steps place size : ℕ) : Type 0 where
  pub runs : WorkedRuns steps
  pub verdicts : WorkedVerdicts place
  pub sample_need : size ≡ need sample
  -- over cells 1, 10, 20, 30 the sample plan comes to its end, and leaves 1, 15, 25, 35
  pub sample_ending : ending comes ≡ 1
  pub sample_cells : (a : ℕ) → a < 4 → (book_of comes).cells a ≡ slice_index (1 ∷ 15 ∷ 25 ∷ 35 ∷ []) a
