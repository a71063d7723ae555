-- The words of a module, place by place, and what the check says of those of a plan's code.
use Rattle.std.specs.Prelude.{◌≡◌, ℕ, ◌+◌, ◌*◌, ◌<◌, ◌≤◌, List, length, slice_index_or, refl, None}
use Rattle.isa.specs.Words.{first_word, second_word}
use Rattle.isa.specs.Layout.{word, start_at, card_byte, slot_byte}
use Rattle.rules.specs.Limits.{Limits}
use Rattle.rules.specs.Cards.{Block}
use Rattle.rules.specs.Module.{Module, size, instr}
use Rattle.rules.specs.Words.{module_of, Passes}
use Rattle.language.specs.Plans.{Plan}
use Rattle.language.specs.Limits.{Within, in_force}
use Rattle.translation.specs.Cards.{card}
use Rattle.translation.specs.Compile.{compiled}

-- the b-th block; past the last one, a free card at 0
abbrev pub no_block : Block
no_block = record { start = 0; card = card 0; full = refl }

abbrev pub block_in : Module → ℕ → Block
block_in m b = slice_index_or m.blocks b no_block

-- the words are those of the module: two counts, two words an instruction, and for each block its start and the bytes of its card
pub record Written (ws : List ℕ) (m : Module) : Type 0 where
  pub instructions : word ws 0 ≡ size m
  pub blocks : word ws 1 ≡ length m.blocks
  pub long : length ws ≡ 2 + 2 * size m + 9 * length m.blocks
  pub first : (p : ℕ) → p < size m → word ws (2 + 2 * p) ≡ first_word (instr m p)
  pub second : (p : ℕ) → p < size m → word ws (2 + 2 * p + 1) ≡ second_word (instr m p)
  pub starts : (b : ℕ) → b < length m.blocks → start_at ws (size m) b ≡ (block_in m b).start
  pub cards : (b r : ℕ) → b < length m.blocks → r < 32 → card_byte ws (size m) b r ≡ slot_byte (slice_index_or (block_in m b).card r None)

-- the words of a plan's code are read as that code, and pass the check
abbrev pub WordsPass : Type 0
WordsPass = (P : Plan) → Within in_force P → (ws : List ℕ) → Written ws (compiled P) →
    (module_of ws ≡ compiled P) × ((L : Limits) → 1 ≤ L.queue → Passes L ws)
