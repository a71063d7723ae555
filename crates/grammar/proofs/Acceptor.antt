-- A deterministic acceptor of plans: what may come next, and the tree of what was read.
use mathlib.Core.List.{List, [], ◌∷◌}
use Prim.Native.Nat.{ℕ}
use Rattle.isa.specs.declared.kinds.Arithmetic.{Arithmetic}
use Rattle.isa.specs.declared.kinds.Arithmetic.TheVariants.{Add, Sub, Mul, Lt}
use Rattle.grammar.specs.declared.mark.Bracket.{Bracket}
use Rattle.grammar.specs.declared.mark.Bracket.TheVariants.{Round, Square}
use Rattle.grammar.specs.declared.mark.Mark.{Mark}
use Rattle.grammar.specs.declared.mark.Mark.TheVariants.{Let, Put, Repeat, End, LineEnd, Number, Variable, Operator, Open, Close, Comma, Equals}
use Rattle.grammar.specs.declared.variable.Variable.{Variable as Letter}
use Rattle.language.specs.Plans.{Tree, number, variable, cell, node, Plan, done, assign, store, again}

abbrev pub same : Tree → Tree
same t = t

abbrev pub plain : Plan → Plan
plain p = p

-- where a line stands: what was read of the plan around it, and of each open REPEAT its count
pub data Base : Type 0 where
  top : (Plan → Plan) → Base
  body : (Plan → Plan) → Tree → Base → Base

-- the sum before a <
pub data Left : Type 0 where
  nothing : Left
  below : Tree → Left

-- where an expression stands
pub data Hole : Type 0 where
  of_let : ℕ → Base → Hole
  of_address : Base → Hole
  of_value : Tree → Base → Hole
  of_count : Base → Hole
  inside : Bracket → Left → (Tree → Tree) → (Tree → Tree) → Hole → Hole

-- `want`: a factor must come; the functions make a sum of a term, and a term of a factor
-- `have`: a term so far; `full`: an expression to which nothing can be joined
pub data State : Type 0 where
  line : Base → State
  naming : Base → State
  named : Letter → Base → State
  over : Base → State
  want : Left → (Tree → Tree) → (Tree → Tree) → Hole → State
  have : Left → (Tree → Tree) → Tree → Hole → State
  full : Tree → Hole → State

pub data Move : Type 0 where
  stuck : Move
  to : State → Move

-- one statement more
abbrev pub add : (Plan → Plan) → Base → Base
add g (top f) = top (λ p. f (g p))
add g (body f e K) = body (λ p. f (g p)) e K

abbrev pub value : Left → Tree → Tree
value nothing t = t
value (below u) t = node Lt u t

abbrev pub bracketed : Bracket → Tree → Tree
bracketed Round t = t
bracketed Square t = cell t

abbrev pub begin : Hole → Move
begin k = to (want nothing same same k)

abbrev pub ending : Base → Move
ending (top f) = stuck
ending (body f e K) = to (over (add (again e (f done)) K))

abbrev pub lined : Tree → Hole → Move
lined t (of_let v K) = to (line (add (assign v t) K))
lined t (of_address K) = stuck
lined t (of_value a K) = to (line (add (store a t) K))
lined t (of_count K) = to (line (body plain t K))
lined t (inside b l S M k) = stuck

abbrev pub parted : Tree → Hole → Move
parted t (of_let v K) = stuck
parted t (of_address K) = begin (of_value t K)
parted t (of_value a K) = stuck
parted t (of_count K) = stuck
parted t (inside b l S M k) = stuck

abbrev pub closed : Bracket → Tree → Hole → Move
closed b t (of_let v K) = stuck
closed b t (of_address K) = stuck
closed b t (of_value a K) = stuck
closed b t (of_count K) = stuck
closed Round t (inside Round l S M k) = to (have l S (M t) k)
closed Round t (inside Square l S M k) = stuck
closed Square t (inside Round l S M k) = stuck
closed Square t (inside Square l S M k) = to (have l S (M (cell t)) k)

abbrev pub join : Arithmetic → Left → (Tree → Tree) → Tree → Hole → Move
join Add l S t k = to (want l (node Add (S t)) same k)
join Sub l S t k = to (want l (node Sub (S t)) same k)
join Mul l S t k = to (want l S (node Mul t) k)
join Lt nothing S t k = to (want (below (S t)) same same k)
join Lt (below u) S t k = stuck

abbrev pub at-line : Mark → Base → Move
at-line Let K = to (naming K)
at-line Put K = begin (of_address K)
at-line Repeat K = begin (of_count K)
at-line End K = ending K
at-line LineEnd K = to (line K)
at-line (Number n) K = stuck
at-line (Variable v) K = stuck
at-line (Operator o) K = stuck
at-line (Open b) K = stuck
at-line (Close b) K = stuck
at-line Comma K = stuck
at-line Equals K = stuck

abbrev pub at_naming : Mark → Base → Move
at_naming Let K = stuck
at_naming Put K = stuck
at_naming Repeat K = stuck
at_naming End K = stuck
at_naming LineEnd K = stuck
at_naming (Number n) K = stuck
at_naming (Variable v) K = to (named v K)
at_naming (Operator o) K = stuck
at_naming (Open b) K = stuck
at_naming (Close b) K = stuck
at_naming Comma K = stuck
at_naming Equals K = stuck

abbrev pub at_named : Mark → Letter → Base → Move
at_named Let x K = stuck
at_named Put x K = stuck
at_named Repeat x K = stuck
at_named End x K = stuck
at_named LineEnd x K = stuck
at_named (Number n) x K = stuck
at_named (Variable v) x K = stuck
at_named (Operator o) x K = stuck
at_named (Open b) x K = stuck
at_named (Close b) x K = stuck
at_named Comma x K = stuck
at_named Equals x K = begin (of_let x.number K)

abbrev pub at-over : Mark → Base → Move
at-over Let K = stuck
at-over Put K = stuck
at-over Repeat K = stuck
at-over End K = stuck
at-over LineEnd K = to (line K)
at-over (Number n) K = stuck
at-over (Variable v) K = stuck
at-over (Operator o) K = stuck
at-over (Open b) K = stuck
at-over (Close b) K = stuck
at-over Comma K = stuck
at-over Equals K = stuck

abbrev pub at_want : Mark → Left → (Tree → Tree) → (Tree → Tree) → Hole → Move
at_want Let l S M k = stuck
at_want Put l S M k = stuck
at_want Repeat l S M k = stuck
at_want End l S M k = stuck
at_want LineEnd l S M k = stuck
at_want (Number n) l S M k = to (have l S (M (number n)) k)
at_want (Variable v) l S M k = to (have l S (M (variable v.number)) k)
at_want (Operator o) l S M k = stuck
at_want (Open b) l S M k = begin (inside b l S M k)
at_want (Close b) l S M k = stuck
at_want Comma l S M k = stuck
at_want Equals l S M k = stuck

abbrev pub at_full : Mark → Tree → Hole → Move
at_full Let t k = stuck
at_full Put t k = stuck
at_full Repeat t k = stuck
at_full End t k = stuck
at_full LineEnd t k = lined t k
at_full (Number n) t k = stuck
at_full (Variable v) t k = stuck
at_full (Operator o) t k = stuck
at_full (Open b) t k = stuck
at_full (Close b) t k = closed b t k
at_full Comma t k = parted t k
at_full Equals t k = stuck

abbrev pub at_have : Mark → Left → (Tree → Tree) → Tree → Hole → Move
at_have Let l S t k = at_full Let (value l (S t)) k
at_have Put l S t k = at_full Put (value l (S t)) k
at_have Repeat l S t k = at_full Repeat (value l (S t)) k
at_have End l S t k = at_full End (value l (S t)) k
at_have LineEnd l S t k = at_full LineEnd (value l (S t)) k
at_have (Number n) l S t k = at_full (Number n) (value l (S t)) k
at_have (Variable v) l S t k = at_full (Variable v) (value l (S t)) k
at_have (Operator o) l S t k = join o l S t k
at_have (Open b) l S t k = at_full (Open b) (value l (S t)) k
at_have (Close b) l S t k = at_full (Close b) (value l (S t)) k
at_have Comma l S t k = at_full Comma (value l (S t)) k
at_have Equals l S t k = at_full Equals (value l (S t)) k

abbrev pub step : State → Mark → Move
step (line K) m = at-line m K
step (naming K) m = at_naming m K
step (named v K) m = at_named m v K
step (over K) m = at-over m K
step (want l S M k) m = at_want m l S M k
step (have l S t k) m = at_have m l S t k
step (full t k) m = at_full m t k

abbrev pub then : Move → (State → Move) → Move
then stuck f = stuck
then (to s) f = f s

-- the state after all of the marks, unless the acceptor is stuck before
abbrev pub run : List Mark → State → Move
run [] s = to s
run (m ∷ ms) s = then (step s m) (run ms)

abbrev pub start : State
start = line (top plain)
