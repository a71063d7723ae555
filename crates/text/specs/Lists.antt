-- Lists of numbers as text.
use Rattle.std.specs.Prelude.{◌≡◌, ℕ, ◌<◌, ◌≤◌, List, [], ◌∷◌, ◌++◌, map, length, Some, None, Ok, Err, vec_items, Option, Result, Vec}
use Rattle.std.specs.declared.alloc.Global.{Global}
use Rattle.text.specs.declared.list.ListFault.{ListFault}
use Rattle.text.specs.declared.list.ListFault.TheVariants.{NoNumber, Memory}
use Rattle.text.specs.Bytes.{words}
use Rattle.text.specs.Numbers.{word}

-- what each word of a text is
abbrev pub numbers : List ℕ → List (Option ℕ)
numbers text = map word (words text)

-- the words begin with those that are these numbers; all are, unless there are as many numbers as were asked for
abbrev pub Listed : List ℕ → ℕ → List ℕ → Type 0
Listed text most ns = (length ns ≤ most) × ((rest : List (Option ℕ)) × (numbers text ≡ map Some ns ++ rest) × (length ns < most → rest ≡ []))

-- the word with this number is none, and those before it are
abbrev pub Strange : List ℕ → ℕ → ℕ → Type 0
Strange text most k = (k < most) × ((ns : List ℕ) × (rest : List (Option ℕ)) × (length ns ≡ k) × (numbers text ≡ map Some ns ++ None ∷ rest))

abbrev pub Failed : List ℕ → ℕ → ListFault → Type 0
Failed text most (NoNumber k) = Strange text most k
Failed text most Memory = Unit {0}

abbrev pub Read : List ℕ → ℕ → Result (Vec ℕ Global) ListFault → Type 0
Read text most (Ok v) = Listed text most (vec_items v)
Read text most (Err e) = Failed text most e
