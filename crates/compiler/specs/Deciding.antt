-- What compiling a text comes to. Must be believed, with the text's marks (Scanned), the judgement of them (Judged), where expressions begin (begins), and the limits.
use Rattle.std.specs.Prelude.{◌≡◌, ℕ, ◌<◌, ◌≤◌, cond, ◌⊎◌, List, ◌∷◌, length, ◌==◌}
use Rattle.language.specs.Limits.{width, widest, expressions, need, repeats, in_force}
use Rattle.language.specs.Plans.{Tree, Plan}
use Rattle.grammar.specs.declared.mark.Placed.{Placed}
use Rattle.grammar.specs.Begins.{begins}
use Rattle.grammar.specs.Verdict.{Ending, plan, fault, Judged}
use Rattle.plan.specs.declared.fault.Layer.{Layer}
use Rattle.plan.specs.declared.fault.Layer.TheVariants.{Marks, Reader, Builder}
use Rattle.marks.specs.Spelling.{Scanned}
use Rattle.marks.specs.Texts.{TextJudged}

-- the plan, or the number, the byte and the layer of the first fault
pub data Verdict : Type 0 where
  accepted : Plan → Verdict
  refused : ℕ → ℕ → Layer → Verdict

-- the bytes of the longest text, and the words of the largest module
abbrev pub longest : ℕ
longest = 8192

abbrev pub largest : ℕ
largest = 2626

-- a strange mark is found with the marks; the reader finds 4 and 5
abbrev pub finder : ℕ → Layer
finder n = cond (n == 3) Marks Reader

-- the k-th expression begins at the k-th byte; the first one that is wider than `most` begins at this one
pub data FirstWide (most : ℕ) : List Tree → List ℕ → ℕ → Type 0 where
  here : {e : Tree} {es : List Tree} {b : ℕ} {bs : List ℕ} → most < width e → FirstWide most (e ∷ es) (b ∷ bs) b
  later : {e : Tree} {es : List Tree} {b at : ℕ} {bs : List ℕ} → width e ≤ most → FirstWide most es bs at → FirstWide most (e ∷ es) (b ∷ bs) at

-- a plan whose expressions begin at these bytes: first the widths, and then the size
pub data Weighed (P : Plan) (bs : List ℕ) : Verdict → Type 0 where
  too_wide : {at : ℕ} → FirstWide in_force.width (expressions P) bs at → Weighed P bs (refused 5 at Builder)
  too_large : widest P ≤ in_force.width → (in_force.need < need P) ⊎ (in_force.repeats < repeats P) → Weighed P bs (refused 6 0 Builder)
  compiles : widest P ≤ in_force.width → need P ≤ in_force.need → repeats P ≤ in_force.repeats → Weighed P bs (accepted P)

-- a text, and the words of room in the output: a line applies where those above it do not
pub data Decided (text : List ℕ) (room : ℕ) : Verdict → Type 0 where
  long_text : longest < length text → Decided text room (refused 1 0 Builder)
  short_output : length text ≤ longest → room < largest → Decided text room (refused 2 0 Builder)
  unread : {n at : ℕ} → length text ≤ longest → largest ≤ room → TextJudged text (fault n at) → Decided text room (refused n at (finder n))
  read : {ms : List Placed} {z : Ending} {P : Plan} {v : Verdict} → length text ≤ longest → largest ≤ room →
      Scanned text 0 ms z → Judged ms z (plan P) → Weighed P (begins ms) v → Decided text room v

-- a text and an output have one verdict
abbrev pub DecidedOnce : Type 0
DecidedOnce = (text : List ℕ) (room : ℕ) (u v : Verdict) → Decided text room u → Decided text room v → u ≡ v
