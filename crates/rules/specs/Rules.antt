-- What each instruction needs: the rules of the check.
use Rattle.std.specs.Prelude.{ℕ, Bool, true, false, not, ◌&&◌, List, [], ◌∷◌, length, ◌==◌, nat_lt}
use Rattle.rules.specs.Limits.{Limits}
use Rattle.rules.specs.Expressions.{Expr, num_of, number?, same?}
use Rattle.rules.specs.Notes.{Colour, green, blue, Kind, mov, cpy, arith, ld, st, jmp, bz, halt, Note, Pending, Dest, clear, jump, branch, Static, note_of, expr_of, target_of, noted?, has?, alike?, none?, clear?}
use Rattle.rules.specs.Cards.{Block, entry, starts?, enters?}

-- the oldest pending pair is (e, f)
abbrev pub oldest? : Pending → Expr → Expr → Bool
oldest? [] e f = false
oldest? (p ∷ q) e f = same? e p.0 && same? f p.1

-- the destination is "jump t"
abbrev pub jump? : Dest → ℕ → Bool
jump? clear t = false
jump? (jump x) t = x == t
jump? (branch e x) t = false

-- the destination is "if e, t"
abbrev pub branch? : Dest → Expr → ℕ → Bool
branch? clear e t = false
branch? (jump x) e t = false
branch? (branch f x) e t = same? f e && x == t

-- a number of colour c
abbrev pub numeral? : Colour → Note → Bool
numeral? c n = has? c n && number? (num_of (expr_of n))

-- a green number that is a block's start, not 0
abbrev pub target? : List Block → Note → Bool
target? bs n = numeral? green n && (not (target_of n == 0) && starts? (entry bs (target_of n)))

-- nothing is pending and the card of the block at t is met
abbrev pub arrives? : List Block → ℕ → Static → Bool
arrives? bs t S = none? S.pending && enters? (entry bs t) S.notes

-- what the instruction itself needs, S being what is known before it; `last`: it is in its block's last place
abbrev pub needs : Limits → List Block → Bool → Kind → Static → List Bool
needs L bs last (mov c a n) S = []
needs L bs last (cpy a b) S = noted? (note_of S b) ∷ []
needs L bs last (arith o a b c) S = alike? (note_of S b) (note_of S c) ∷ []
needs L bs last (ld c a b) S = has? c (note_of S b) ∷ []
needs L bs last (st green a b) S = has? green (note_of S a) ∷ has? green (note_of S b) ∷ nat_lt (length S.pending) L.queue ∷ []
needs L bs last (st blue a b) S =
    has? blue (note_of S a) ∷ has? blue (note_of S b) ∷ oldest? S.pending (expr_of (note_of S a)) (expr_of (note_of S b)) ∷ []
needs L bs last (jmp green a) S = clear? S.dest ∷ target? bs (note_of S a) ∷ []
needs L bs last (jmp blue a) S =
    numeral? blue (note_of S a) ∷ jump? S.dest (target_of (note_of S a)) ∷ arrives? bs (target_of (note_of S a)) S ∷ last ∷ []
needs L bs last (bz green a b) S = has? green (note_of S a) ∷ target? bs (note_of S b) ∷ clear? S.dest ∷ []
needs L bs last (bz blue a b) S =
    has? blue (note_of S a) ∷ numeral? blue (note_of S b) ∷ branch? S.dest (expr_of (note_of S a)) (target_of (note_of S b))
    ∷ arrives? bs (target_of (note_of S b)) S ∷ []
needs L bs last halt S = none? S.pending ∷ clear? S.dest ∷ last ∷ []

abbrev pub all? : List Bool → Bool
all? [] = true
all? (b ∷ l) = b && all? l

abbrev pub own? : Limits → List Block → Bool → Kind → Static → Bool
own? L bs last i S = all? (needs L bs last i S)

-- the instruction leaves its block, so that nothing behind it is needed
abbrev pub leaves? : Kind → Bool
leaves? (mov c a n) = false
leaves? (cpy a b) = false
leaves? (arith o a b c) = false
leaves? (ld c a b) = false
leaves? (st c a b) = false
leaves? (jmp green a) = false
leaves? (jmp blue a) = true
leaves? (bz c a b) = false
leaves? halt = true
