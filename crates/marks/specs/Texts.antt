-- A text has one list of marks, and so one judgement: the theorem of marks_are_unique.
use Rattle.std.specs.Prelude.{◌≡◌, ℕ, List}
use Rattle.language.specs.Plans.{Plan}
use Rattle.grammar.specs.declared.mark.Placed.{Placed}
use Rattle.grammar.specs.Verdict.{Ending, Judgement, plan, Judged}
use Rattle.marks.specs.Spelling.{Scanned}

-- the judgement of a text is that of its marks
pub record TextJudged (text : List ℕ) (j : Judgement) : Type 0 where
  pub marks : List Placed
  pub end : Ending
  pub scanned : Scanned text 0 marks end
  pub judged : Judged marks end j

-- every text has marks
abbrev pub HasMarks : Type 0
HasMarks = (text : List ℕ) → (ps : List Placed) × (z : Ending) × Scanned text 0 ps z

-- marks that are those of a text are its only ones, and so is their end
abbrev pub MarksAreUnique : Type 0
MarksAreUnique = (text : List ℕ) (n : ℕ) (ps qs : List Placed) (y z : Ending) → Scanned text n ps y → Scanned text n qs z → (ps ≡ qs) × (y ≡ z)

-- so the text has exactly one judgement: one plan, or one first fault
abbrev pub JudgedOnce : Type 0
JudgedOnce = (text : List ℕ) (ps : List Placed) (z : Ending) → Scanned text 0 ps z → (j : Judgement) × TextJudged text j × ((k : Judgement) → TextJudged text k → k ≡ j)

-- and at most one tree
abbrev pub TreeIsUnique : Type 0
TreeIsUnique = (text : List ℕ) (p q : Plan) → TextJudged text (plan p) → TextJudged text (plan q) → p ≡ q
