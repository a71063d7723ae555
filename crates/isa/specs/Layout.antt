-- The words of a module: the count n of instructions, the count m of blocks, two words an instruction, nine words a block.
use Rattle.std.specs.Prelude.{◌≡◌, ℕ, zero, suc, ◌+◌, ◌-◌, ◌*◌, ◌/◌, ◌%◌, ◌^◌, ◌<◌, Bool, true, false, cond, ◌&&◌, ◌||◌, List, length, ◌==◌, nat_le, nat_lt, Some, None, Option, slice_index}
use Rattle.isa.specs.declared.kinds.Colour.TheVariants.{Green, Blue}
use Rattle.isa.specs.declared.kinds.Kind.{Kind}
use Rattle.isa.specs.declared.kinds.Colour.{Colour}
use Rattle.isa.specs.declared.card.Variable.{Variable}
use Rattle.isa.specs.Words.{kind_of, well_formed}

-- the word at a place; 0 past the end
abbrev pub word : List ℕ → ℕ → ℕ
word ws i = slice_index ws i

-- the instruction with number p
abbrev pub kind_at : List ℕ → ℕ → Kind
kind_at ws p = kind_of (word ws (2 + 2 * p)) (word ws (2 + 2 * p + 1))

abbrev pub well_formed_at : List ℕ → ℕ → Bool
well_formed_at ws p = well_formed (word ws (2 + 2 * p)) (word ws (2 + 2 * p + 1))

-- the start of block b, n being the count of instructions
abbrev pub start_at : List ℕ → ℕ → ℕ → ℕ
start_at ws n b = word ws (2 + 2 * n + 9 * b)

-- byte k of a word, the first one highest
abbrev pub byte : ℕ → ℕ → ℕ
byte w k = cond (k == 0) (w / 2 ^ 24) (cond (k == 1) (w / 2 ^ 16 % 2 ^ 8) (cond (k == 2) (w / 2 ^ 8 % 2 ^ 8) (w % 2 ^ 8)))

-- what the card of block b says of register r, as a byte
abbrev pub card_byte : List ℕ → ℕ → ℕ → ℕ → ℕ
card_byte ws n b r = byte (word ws (3 + 2 * n + 9 * b + r / 4)) (r % 4)

-- a card's entry: the colour and the variable of a register, or nothing
abbrev pub Slot : Type 0
Slot = Option (Colour × Variable)

-- the byte of a card's entry
abbrev pub slot_byte : Slot → ℕ
slot_byte None = 0
slot_byte (Some (Green, v)) = v.number + 1
slot_byte (Some (Blue, v)) = v.number + 129

-- a byte that a card may have
abbrev pub slotted : ℕ → Bool
slotted x = nat_le x 32 || (nat_le 129 x && nat_le x 160)

-- the counts are within their limits, and the length is the one that they give
abbrev pub measured : List ℕ → Bool
measured ws =
    (nat_lt 0 (word ws 0) && nat_le (word ws 0) 1024) && ((nat_lt 0 (word ws 1) && nat_le (word ws 1) 64) && length ws == 2 + 2 * word ws 0 + 9 * word ws 1)

-- f holds of every number below n
unfoldable pub every : ℕ → (ℕ → Bool) → Bool
every zero f = true
every (suc n) f = every n f && f n

-- the start of block b is 0 for the first one, above the one before for the others, and below n
abbrev pub start_fits : List ℕ → ℕ → ℕ → Bool
start_fits ws n b = cond (b == 0) (start_at ws n b == 0) (nat_lt (start_at ws n (b - 1)) (start_at ws n b)) && nat_lt (start_at ws n b) n

-- the entry of block b's card for register r: block 0's card is all free
abbrev pub slot_fits : List ℕ → ℕ → ℕ → ℕ → Bool
slot_fits ws n b r = cond (b == 0) (card_byte ws n b r == 0) (slotted (card_byte ws n b r))

abbrev pub card_fits : List ℕ → ℕ → ℕ → Bool
card_fits ws n b = every 32 (slot_fits ws n b)

abbrev pub block_fits : List ℕ → ℕ → ℕ → Bool
block_fits ws n b = start_fits ws n b && card_fits ws n b

-- counts, length, operations and fields are right
abbrev pub code_fits : List ℕ → Bool
code_fits ws = measured ws && every (word ws 0) (well_formed_at ws)

-- the words are laid out as a module
pub record LaidOut (ws : List ℕ) : Type 0 where
  pub code : code_fits ws ≡ true
  pub blocks : every (word ws 1) (block_fits ws (word ws 0)) ≡ true

-- block b is the first one with a bad start or a bad card
pub record BadBlock (ws : List ℕ) (b : ℕ) : Type 0 where
  pub code : code_fits ws ≡ true
  pub there : b < word ws 1
  pub before : every b (block_fits ws (word ws 0)) ≡ true
  pub bad : block_fits ws (word ws 0) b ≡ false
