-- Lists of pairs of an address and a word, the oldest first.
use Rattle.std.specs.Prelude.{ℕ, Bool, true, false, cond, List, [], ◌∷◌, Some, None, Option, ◌==◌}
use Rattle.std.specs.Option.{option_or}
use Rattle.memory.specs.Cells.{replaced}
use Rattle.machine.specs.declared.queue.Pair.{Pair}

-- the oldest pair
abbrev pub first : List Pair → Pair
first [] = record { address = 0; word = 0 }
first (p ∷ q) = p

-- the others
abbrev pub rest : List Pair → List Pair
rest [] = []
rest (p ∷ q) = q

-- whether there is one
abbrev pub some? : List Pair → Bool
some? [] = false
some? (p ∷ q) = true

-- the word of the newest pair that has the address
abbrev pub newest : List Pair → ℕ → Option ℕ
newest [] a = None
newest (p ∷ q) a = option_or (newest q a) (cond (a == p.address) (Some p.word) None)

-- the words with the pairs laid over them, in their order
abbrev pub overlay : List Pair → (ℕ → ℕ) → ℕ → ℕ
overlay [] words = words
overlay (p ∷ q) words = overlay q (replaced words p.address p.word)
