-- The rules of a module.
use Rattle.std.specs.Prelude.{◌≡◌, ℕ, zero, suc, ◌+◌, ◌<◌, Bool, true, false, ◌&&◌, ◌||◌, List, [], length, nat_le, nat_lt, slice_index_or}
use Rattle.rules.specs.Limits.{Limits}
use Rattle.rules.specs.Notes.{Kind, halt, Static, none?, clear?, next}
use Rattle.rules.specs.Cards.{Block, Entry, inside, start, entry, starts?, met?, fresh}
use Rattle.rules.specs.Rules.{own?, leaves?}

pub record Module : Type 0 where
  pub code : List Kind
  pub blocks : List Block

abbrev pub size : Module → ℕ
size m = length m.code

abbrev pub instr : Module → ℕ → Kind
instr m p = slice_index_or m.code p halt

-- the next place is in the block, or starts one whose card is met, with nothing pending and no destination
abbrev pub passable? : Entry → Static → Bool
passable? inside S = true
passable? (start K) S = none? S.pending && (clear? S.dest && met? K S.notes)

-- there is a next place, and it can be entered
abbrev pub falls? : Module → ℕ → Static → Bool
falls? m p S = nat_lt (p + 1) (size m) && passable? (entry m.blocks (p + 1)) S

-- p is the last place in its block
abbrev pub last? : Module → ℕ → Bool
last? m p = nat_le (size m) (p + 1) || starts? (entry m.blocks (p + 1))

-- the rule of the instruction at p, S being what is known before it
abbrev pub rule? : Limits → Module → ℕ → Kind → Static → Bool
rule? L m p i S = own? L m.blocks (last? m p) i S && (leaves? i || falls? m p (next i S))

abbrev pub enter : Entry → Static → Static
enter inside S = S
enter (start K) S = fresh K

-- what is known before the instruction at a place
abbrev pub static : Module → ℕ → Static
static m zero = enter (entry m.blocks 0) (fresh [])
static m (suc p) = enter (entry m.blocks (suc p)) (next (instr m p) (static m p))

-- the rule at a place is kept
abbrev pub kept_at : Limits → Module → ℕ → Bool
kept_at L m p = rule? L m p (instr m p) (static m p)

-- every rule is kept
abbrev pub Keeps : Limits → Module → Type 0
Keeps L m = (p : ℕ) → p < size m → kept_at L m p ≡ true

-- the first place whose rule is broken
pub record BreaksAt (L : Limits) (m : Module) (p : ℕ) : Type 0 where
  pub place : p < size m
  pub before : (q : ℕ) → q < p → kept_at L m q ≡ true
  pub broken : kept_at L m p ≡ false
