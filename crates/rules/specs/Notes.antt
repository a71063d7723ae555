-- What the check knows before an instruction, and what it knows behind it.
pub use Rattle.isa.specs.declared.kinds.Colour.{Colour}
pub use Rattle.isa.specs.declared.kinds.Colour.TheVariants.{Green as green, Blue as blue}
pub use Rattle.isa.specs.declared.kinds.Register.{Register}
pub use Rattle.isa.specs.declared.kinds.Kind.{Kind}
pub use Rattle.isa.specs.declared.kinds.Kind.TheVariants.{Move as mov, Copy as cpy, Arith as arith, Load as ld, Store as st, Jump as jmp, Branch as bz, Halt as halt}
use Rattle.std.specs.Prelude.{ℕ, ◌+◌, Bool, true, false, cond, List, [], ◌∷◌, ◌++◌, ◌==◌}
use Rattle.rules.specs.Expressions.{Arithmetic, Expr, num, load, num_of, or_zero, mk}

-- f with v at a
abbrev pub upd : {A : Type 0} → (ℕ → A) → ℕ → A → ℕ → A
upd f a v r = cond (r == a) v (f r)

-- what is known of a register: nothing, or that it has the value of an expression, as the copy of one colour computes it
pub data Note : Type 0 where
  nothing : Note
  note : Colour → Expr → Note

abbrev pub Notes : Type 0
Notes = ℕ → Note

-- the stores, address and word, that green has made and blue has not, the oldest first
abbrev pub Pending : Type 0
Pending = List (Expr × Expr)

-- the jump that green has announced and blue has not made: none, to t, or to t if e is 0
pub data Dest : Type 0 where
  clear : Dest
  jump : ℕ → Dest
  branch : Expr → ℕ → Dest

-- k_g and k_b (kG and kB in docs/check.md) are the numbers of stores that green and blue have made since the block's start
pub record Static : Type 0 where
  pub notes : Notes
  pub pending : Pending
  pub k_g : ℕ
  pub k_b : ℕ
  pub dest : Dest

-- the note of a register
abbrev pub note_of : Static → Register → Note
note_of S r = S.notes r.number

abbrev pub expr_of : Note → Expr
expr_of nothing = num 0
expr_of (note c e) = e

-- the number that a register is noted to be
abbrev pub target_of : Note → ℕ
target_of n = or_zero (num_of (expr_of n))

abbrev pub set_note : Static → Register → Note → Static
set_note S a n = record { notes = upd S.notes a.number n; pending = S.pending; k_g = S.k_g; k_b = S.k_b; dest = S.dest }

abbrev pub set_dest : Static → Dest → Static
set_dest S x = record { notes = S.notes; pending = S.pending; k_g = S.k_g; k_b = S.k_b; dest = x }

-- one pending pair more
abbrev pub pushed : Static → Expr → Expr → Static
pushed S e f = record { notes = S.notes; pending = S.pending ++ ((e, f) ∷ []); k_g = S.k_g + 1; k_b = S.k_b; dest = S.dest }

abbrev pub others : Pending → Pending
others [] = []
others (p ∷ q) = q

-- the oldest pending pair goes
abbrev pub popped : Static → Static
popped S = record { notes = S.notes; pending = others S.pending; k_g = S.k_g; k_b = S.k_b + 1; dest = S.dest }

-- the stores that a colour's load comes after
abbrev pub stores : Static → Colour → ℕ
stores S green = S.k_g
stores S blue = S.k_b

abbrev pub combine : Arithmetic → Note → Note → Note
combine o nothing n = nothing
combine o (note c e) n = note c (mk o e (expr_of n))

-- what is known behind an instruction whose rule is kept
abbrev pub next : Kind → Static → Static
next (mov c a n) S = set_note S a (note c (num n))
next (cpy a b) S = set_note S a (note_of S b)
next (arith o a b c) S = set_note S a (combine o (note_of S b) (note_of S c))
next (ld c a b) S = set_note S a (note c (load (stores S c) (expr_of (note_of S b))))
next (st green a b) S = pushed S (expr_of (note_of S a)) (expr_of (note_of S b))
next (st blue a b) S = popped S
next (jmp green a) S = set_dest S (jump (target_of (note_of S a)))
next (jmp blue a) S = set_dest S clear
next (bz green a b) S = set_dest S (branch (expr_of (note_of S a)) (target_of (note_of S b)))
next (bz blue a b) S = set_dest S clear
next halt S = S

abbrev pub colour? : Colour → Colour → Bool
colour? green green = true
colour? green blue = false
colour? blue green = false
colour? blue blue = true

abbrev pub noted? : Note → Bool
noted? nothing = false
noted? (note c e) = true

-- a note of colour c
abbrev pub has? : Colour → Note → Bool
has? c nothing = false
has? c (note d e) = colour? c d

-- two notes of one colour
abbrev pub alike? : Note → Note → Bool
alike? nothing n = false
alike? (note c e) n = has? c n

abbrev pub none? : Pending → Bool
none? [] = true
none? (p ∷ q) = false

abbrev pub clear? : Dest → Bool
clear? clear = true
clear? (jump t) = false
clear? (branch e t) = false
