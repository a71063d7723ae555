-- The module that words are, and what the check says of them.
use Rattle.std.specs.Prelude.{◌≡◌, ℕ, ◌+◌, ◌-◌, ◌*◌, ◌/◌, ◌%◌, true, cond, ◌&&◌, List, map, length, take, ◌==◌, nat_le, nat_lt, Some, None}
use Rattle.std.proofs.Common.{mod-lt, lit<}
use Rattle.std.specs.List.{range_with_len}
use Rattle.std.proofs.lemmas.List.FromFn.{length-map-range_with_len}
use Rattle.isa.specs.Words.{kind_of}
use Rattle.isa.specs.Layout.{word, kind_at, start_at, card_byte, code_fits, block_fits, every}
use Rattle.rules.specs.Limits.{Limits}
use Rattle.rules.specs.Notes.{Kind, green, blue}
use Rattle.rules.specs.Cards.{Variable, Slot, Block, Card}
use Rattle.rules.specs.Module.{Module, Keeps}

-- the k-th instruction of code words, two words each
abbrev pub kind_in : List ℕ → ℕ → Kind
kind_in ws k = kind_of (word ws (2 * k)) (word ws (2 * k + 1))

-- the instructions that code words are
abbrev pub kinds_of : List ℕ → List Kind
kinds_of ws = map (kind_in ws) (range_with_len 0 (length ws / 2))

-- the instructions of a block's words: no block has more than a module may have
abbrev pub block_code : Limits → List ℕ → List Kind
block_code L ws = kinds_of (take (2 * L.instructions) ws)

abbrev pub variable : ℕ → Variable
variable n = record { number = n % 32; low = mod-lt n (lit< tt) }

-- a byte of a card: 0 is free, 1 to 32 is green variable 0 to 31, 129 to 160 is blue variable 0 to 31
abbrev pub slot_of : ℕ → Slot
slot_of x =
    cond (x == 0) None
    (cond (nat_le x 32) (Some (green, variable (x - 1)))
    (cond (nat_le 129 x && nat_le x 160) (Some (blue, variable (x - 129))) None))

-- the card of block b, n being the count of instructions
abbrev pub card_of : List ℕ → ℕ → ℕ → Card
card_of ws n b = map (λ r. slot_of (card_byte ws n b r)) (range_with_len 0 32)

abbrev pub block_of : List ℕ → ℕ → ℕ → Block
block_of ws n b = record { start = start_at ws n b; card = card_of ws n b; full = length-map-range_with_len (λ r. slot_of (card_byte ws n b r)) 0 32 }

-- where block b starts, and for b behind the last block the count of instructions
abbrev pub edge : List ℕ → ℕ → ℕ
edge ws b = cond (nat_lt b (word ws 1)) (start_at ws (word ws 0) b) (word ws 0)

-- the module that words are
abbrev pub module_of : List ℕ → Module
module_of ws = record {
  code = map (kind_at ws) (range_with_len 0 (word ws 0));
  blocks = map (block_of ws (word ws 0)) (range_with_len 0 (word ws 1));
}

-- the words are laid out as a module, and at each of its places the rule is kept
abbrev pub Passes : Limits → List ℕ → Type 0
Passes L ws = (code_fits ws ≡ true) × (every (word ws 1) (block_fits ws (word ws 0)) ≡ true) × Keeps L (module_of ws)
