-- One block of a module, as its layout has it.
use Rattle.std.specs.Prelude.{◌≡◌, ℕ, ◌+◌, ◌<◌, ◌≤◌, List, length, Some, None, Option, slice_index_or}
use Rattle.rules.specs.Limits.{Limits}
use Rattle.rules.specs.Notes.{Kind, halt}
use Rattle.rules.specs.Cards.{Card, entry, inside, start}
use Rattle.rules.specs.Module.{Module, size, instr, kept_at}
use Rattle.rules.specs.Block.{kept?}

-- what stands behind a block that ends before e: the module's end, or the next block
abbrev pub Behind : Module → ℕ → Option Card → Type 0
Behind m e None = size m ≤ e
Behind m e (Some K) = (e < size m) × (entry m.blocks e ≡ start K)

-- the block with the card K and the instructions C starts at s, and `after` is the next block's card
pub record Part (m : Module) (s : ℕ) (K : Card) (C : List Kind) (after : Option Card) : Type 0 where
  pub here : entry m.blocks s ≡ start K
  pub within : (k : ℕ) → k + 1 < length C → entry m.blocks (s + (k + 1)) ≡ inside
  pub code : (k : ℕ) → k < length C → instr m (s + k) ≡ slice_index_or C k halt
  pub fits : s + length C ≤ size m
  pub behind : Behind m (s + length C) after

-- the rules of a block are the module's rules at its places
abbrev pub PartStands : Type 0
PartStands = (L : Limits) (m : Module) (s : ℕ) (K : Card) (C : List Kind) (after : Option Card) → Part m s K C after
    → (k : ℕ) → k < length C → kept_at L m (s + k) ≡ kept? L m.blocks after K C k
