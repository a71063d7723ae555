-- Inner: how the scanner's functions tell their callers what they found at the front of a text. No public contract cites it.
use Rattle.std.specs.Prelude.{◌≡◌, ℕ, suc, Bool, true, false, List, [], ◌∷◌, take}
use Rattle.marks.specs.declared.word.Kind.{Kind}
use Rattle.marks.specs.Spelling.{kind_of, goes_on}

-- the length of the longest run of this kind at the front
abbrev pub counted : Bool → ℕ → ℕ
counted true n = suc n
counted false n = 0

abbrev pub run : Kind → List ℕ → ℕ
run k [] = 0
run k (b ∷ s) = counted (goes_on k b) (run k s)

-- the length of the longest part at the front that can be one mark
abbrev pub part : List ℕ → ℕ
part [] = 0
part (b ∷ s) = suc (run (kind_of b) s)

abbrev pub front : List ℕ → List ℕ
front s = take (part s) s

abbrev pub AllGo : Kind → List ℕ → Type 0
AllGo k [] = Unit {0}
AllGo k (b ∷ s) = (goes_on k b ≡ true) × AllGo k s

-- bytes that can be one mark: one byte, or a run
abbrev pub Whole : List ℕ → Type 0
Whole [] = ⊥
Whole (b ∷ s) = AllGo (kind_of b) s
