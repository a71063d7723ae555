-- A card is met register by register: the first expression of each variable is kept.
use Rattle.std.specs.Prelude.{ℕ, suc, ◌≤◌, Bool, true, ◌&&◌, List, Some, None, Option, slice_index_or}
use Rattle.blocks.specs.Trees.{Id, at}
use Rattle.rules.specs.Expressions.{Expr, same?}
use Rattle.rules.specs.Cards.{Slot}
use Rattle.rules.specs.Notes.{Note, expr_of, has?, upd}

-- the expression of each variable that came up
abbrev pub Seen : Type 0
Seen = ℕ → Option Expr

abbrev pub same_as? : Option Expr → Expr → Bool
same_as? None e = true
same_as? (Some f) e = same? e f

abbrev pub meet_one? : Seen → Slot → Note → Bool
meet_one? σ None n = true
meet_one? σ (Some (c, v)) n = has? c n && same_as? (σ v.number) (expr_of n)

abbrev pub first_only : Option Expr → Seen → ℕ → Expr → Seen
first_only None σ v e = upd σ v (Some e)
first_only (Some f) σ v e = σ

abbrev pub seen_next : Seen → Slot → Note → Seen
seen_next σ None n = σ
seen_next σ (Some (c, v)) n = first_only (σ v.number) σ v.number (expr_of n)

abbrev pub opt_in : List Expr → Option Id → Option Expr
opt_in E None = None
opt_in E (Some x) = Some (at E x)

abbrev pub seen_in : List Expr → List (Option Id) → Seen
seen_in E first v = opt_in E (slice_index_or first v None)

abbrev pub reach_opt : Option Id → ℕ
reach_opt None = 0
reach_opt (Some x) = suc x.index

abbrev pub FirstBelow : ℕ → List (Option Id) → Type 0
FirstBelow n first = (v : ℕ) → reach_opt (slice_index_or first v None) ≤ n
