-- The rules of one block, judged by itself: K is its card, C its instructions, and `after` the card of the next block.
use Rattle.std.specs.Prelude.{◌≡◌, ℕ, zero, suc, ◌+◌, ◌<◌, Bool, true, false, not, ◌&&◌, ◌||◌, List, [], ◌∷◌, length, Some, None, Ok, Err, Option, Result, ◌==◌, slice_index_or}
use Rattle.rules.specs.Limits.{Limits}
use Rattle.rules.specs.Notes.{Kind, halt, Static, none?, clear?, next}
use Rattle.rules.specs.Cards.{Block, Card, met?, fresh}
use Rattle.rules.specs.Rules.{own?, leaves?}

-- the card of the j-th block, if there is one
abbrev pub behind : List Block → ℕ → Option Card
behind [] j = None
behind (b ∷ bs) zero = Some b.card
behind (b ∷ bs) (suc j) = behind bs j

abbrev pub or_free : Option Card → Card
or_free None = []
or_free (Some K) = K

-- the card of the j-th block
abbrev pub card_at : List Block → ℕ → Card
card_at bs j = or_free (behind bs j)

-- the block may end so: there is a next block, nothing is pending, the destination is clear, and its card is met
abbrev pub ends? : Option Card → Static → Bool
ends? None S = false
ends? (Some K) S = (none? S.pending && clear? S.dest) && met? K S.notes

-- the rule of one instruction, and in the last place that of the block's end
abbrev pub keeps? : Limits → List Block → Option Card → Bool → Kind → Static → Bool
keeps? L bs after last i S = own? L bs last i S && (not last || (leaves? i || ends? after (next i S)))

-- what is known before the k-th instruction
unfoldable pub before : Card → List Kind → ℕ → Static
before K C zero = fresh K
before K C (suc k) = next (slice_index_or C k halt) (before K C k)

abbrev pub last? : List Kind → ℕ → Bool
last? C k = k + 1 == length C

-- the rule of the k-th instruction is kept
abbrev pub kept? : Limits → List Block → Option Card → Card → List Kind → ℕ → Bool
kept? L bs after K C k = keeps? L bs after (last? C k) (slice_index_or C k halt) (before K C k)

abbrev pub BlockPasses : Limits → List Block → Option Card → Card → List Kind → Type 0
BlockPasses L bs after K C = (k : ℕ) → k < length C → kept? L bs after K C k ≡ true

-- the k-th instruction is the first whose rule is broken
abbrev pub BlockBreaks : Limits → List Block → Option Card → Card → List Kind → ℕ → Type 0
BlockBreaks L bs after K C k =
    (k < length C) × ((j : ℕ) → j < k → kept? L bs after K C j ≡ true) × (kept? L bs after K C k ≡ false)

-- what the check of a block answers: every rule is kept, or the first that is broken
abbrev pub BlockJudged : Limits → List Block → Option Card → Card → List Kind → Result (Unit {0}) ℕ → Type 0
BlockJudged L bs after K C (Ok u) = BlockPasses L bs after K C
BlockJudged L bs after K C (Err k) = BlockBreaks L bs after K C k
