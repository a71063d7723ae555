-- Inner: how the functions that read an expression tell their callers where the reader stands and what they did. No public contract cites it.
use Rattle.std.specs.Prelude.{◌≡◌, ℕ, ◌+◌, ◌≤◌, ◌<◌, T, cond, List, [], ◌∷◌, ◌++◌, length, drop, Some, None, Ok, Err, vec_items, vec_len, Option, Result, IsErrAnd}
use Rattle.isa.specs.declared.kinds.Arithmetic.{Arithmetic}
use Rattle.isa.specs.declared.kinds.Arithmetic.TheVariants.{Add, Sub, Mul, Lt}
use Rattle.language.specs.Limits.{nodes}
use Rattle.language.specs.Plans.{Tree}
use Rattle.grammar.specs.Begins.{leads, next_byte, begins}
use Rattle.grammar.specs.Verdict.{Depth, after, room, Judgement, fault}
use Rattle.grammar.proofs.Acceptor.{Left, nothing, Hole, State, want, have, full, same, stuck, to, step}
use Rattle.grammar.proofs.Judge.{judge}
use Rattle.marks.specs.declared.fault.MarkFault.{MarkFault}
use Rattle.plan.specs.declared.fault.ReadFault.{ReadFault}
use Rattle.plan.specs.declared.fault.ReadFault.TheVariants as fault-is
use Rattle.grammar.specs.declared.mark.Bracket.{Bracket}
use Rattle.grammar.specs.declared.mark.Bracket.TheVariants.{Round, Square}
use Rattle.grammar.specs.declared.mark.Mark.{Mark}
use Rattle.grammar.specs.declared.mark.Mark.TheVariants as mark
use Rattle.grammar.specs.declared.mark.Placed.{Placed}
use Rattle.plan.specs.declared.tree.NodeId.{NodeId}
use Rattle.plan.specs.declared.nesting.Nesting.{Nesting}
use Rattle.plan.specs.declared.reader.Reader.{Reader}
use Rattle.plan.specs.declared.repeats.OpenRepeat.{OpenRepeat}
use Rattle.plan.specs.declared.tables.Plan.{Plan}
use Rattle.marks.specs.Endings.{ending}
use Rattle.plan.specs.Faults.{number, place}
use Rattle.plan.specs.Plans.{spent}
use Rattle.plan.specs.Trees.{tree_at}

-- what is still to be read
abbrev pub rest : Reader → List Placed
rest r = drop r.at (vec_items r.marks.placed)

abbrev pub first : List Placed → Option Mark
first [] = None
first (p ∷ ps) = Some p.mark

abbrev pub tail : List Placed → List Placed
tail [] = []
tail (p ∷ ps) = ps

-- the byte of the next mark, or where the marks end
abbrev pub place_of : List Placed → Result ℕ MarkFault → Result ℕ MarkFault
place_of [] end = end
place_of (p ∷ ps) end = Ok p.place

-- the fault where the next mark cannot stand: that of a strange mark, or the grammar's
abbrev pub refusal : Result ℕ MarkFault → ReadFault
refusal (Ok n) = fault-is.Grammar n
refusal (Err e) = fault-is.Mark e

abbrev pub Refused : {T : Type 0} → List Placed → Result ℕ MarkFault → Result T ReadFault → Type 0
Refused ps end r = IsErrAnd r (λ e. e ≡ refusal (place_of ps end))

-- the fault where the next mark passes its limit
abbrev pub excess : Result ℕ MarkFault → ReadFault
excess (Ok n) = fault-is.Nesting n
excess (Err e) = fault-is.Mark e

abbrev pub Exceeded : {T : Type 0} → List Placed → Result ℕ MarkFault → Result T ReadFault → Type 0
Exceeded ps end r = IsErrAnd r (λ e. e ≡ excess (place_of ps end))

abbrev pub operator_of : Mark → Option Arithmetic
operator_of mark.Let = None
operator_of mark.Put = None
operator_of mark.Repeat = None
operator_of mark.End = None
operator_of mark.LineEnd = None
operator_of (mark.Number n) = None
operator_of (mark.Variable v) = None
operator_of (mark.Operator o) = Some o
operator_of (mark.Open b) = None
operator_of (mark.Close b) = None
operator_of mark.Comma = None
operator_of mark.Equals = None

abbrev pub operator : Option Mark → Option Arithmetic
operator None = None
operator (Some m) = operator_of m

-- an operator that joins terms
abbrev pub sign : Option Arithmetic → Option Arithmetic
sign None = None
sign (Some Add) = Some Add
sign (Some Sub) = Some Sub
sign (Some Mul) = None
sign (Some Lt) = None

-- there is a place for a node more than for the marks that are left
abbrev pub OneMore : Reader → Type 0
OneMore r = vec_len r.plan.nodes + length (rest r) < 8192

-- the tree of a node
abbrev pub tree_in : Reader → NodeId → Tree
tree_in r x = tree_at (vec_items r.plan.nodes) x

-- what every part keeps, whether it ends well or not
pub record Goes (a b : Reader) : Type 0 where
  pub forth : length (rest b) ≤ length (rest a)
  pub room : vec_len b.plan.nodes + length (rest b) ≤ vec_len a.plan.nodes + length (rest a)
  pub more : vec_len a.plan.nodes ≤ vec_len b.plan.nodes
  pub kept : (x : NodeId) → x.index < vec_len a.plan.nodes → tree_in b x ≡ tree_in a x
  pub marks : b.marks ≡ a.marks
  pub statements : b.plan.statements ≡ a.plan.statements
  pub own : b.plan.own ≡ a.plan.own

-- what every line keeps, whether it ends well or not
pub record Onward (a b : Reader) : Type 0 where
  pub forth : length (rest b) ≤ length (rest a)
  pub room : vec_len b.plan.nodes + length (rest b) ≤ vec_len a.plan.nodes + length (rest a)
  pub lines : vec_len b.plan.statements + length (rest b) ≤ vec_len a.plan.statements + length (rest a)
  pub longer : vec_len a.plan.statements ≤ vec_len b.plan.statements
  pub dearer : spent a.plan ≤ spent b.plan
  pub marks : b.marks ≡ a.marks

-- no mark that leads to an expression was passed between the two
abbrev pub Quiet : Reader → Reader → Type 0
Quiet a b = begins (rest b) ≡ begins (rest a)

-- the byte of the expression that a mark leads to, with the marks behind it
abbrev pub led : Mark → List Placed → List ℕ
led m ps = cond (leads m) (next_byte ps) []

-- a node that was read is an entry
abbrev pub Inside : Result NodeId ReadFault → Reader → Type 0
Inside (Ok x) b = x.index < vec_len b.plan.nodes
Inside (Err e) b = Unit {0}

-- a part that was read has an entry for each of its nodes
abbrev pub Counts : Reader → Reader → Result NodeId ReadFault → Type 0
Counts a b (Ok x) = vec_len b.plan.nodes ≡ vec_len a.plan.nodes + nodes (tree_in b x)
Counts a b (Err e) = Unit {0}

-- what reading a part of an expression does, whether it ends well or not: as many brackets are open behind it as before
pub record Part (a b : Reader) (m n : Nesting) (x : Result NodeId ReadFault) : Type 0 where
  pub depth : n.depth ≡ m.depth
  pub goes : Goes a b
  pub quiet : Quiet a b
  pub inside : Inside x b
  pub counts : Counts a b x

-- how many nodes a bracket is
abbrev pub wrapped : Bracket → ℕ
wrapped Round = 0
wrapped Square = 1

-- the same place, with n nodes more, at most one; the node x has the tree t
pub record Grew (n : ℕ) (a b : Reader) (t : Tree) (x : NodeId) : Type 0 where
  pub rest_is : rest b ≡ rest a
  pub marks_is : b.marks ≡ a.marks
  pub statements_is : b.plan.statements ≡ a.plan.statements
  pub own_is : b.plan.own ≡ a.plan.own
  pub one : n ≤ 1
  pub len : vec_len b.plan.nodes ≡ vec_len a.plan.nodes + n
  pub kept : (y : NodeId) → y.index < vec_len a.plan.nodes → tree_in b y ≡ tree_in a y
  pub inside_is : x.index < vec_len b.plan.nodes
  pub tree_is : tree_in b x ≡ t

-- so many brackets and so many REPEATs are open
abbrev pub deep : ℕ → ℕ → Depth
deep d p = record { brackets = d; repeats = p }

abbrev pub judgement : ReadFault → Judgement
judgement e = fault (number e) (place e)

-- the judgement of what is left, from the state s, with d brackets and p REPEATs open
unfoldable pub ask : Reader → ℕ → ℕ → State → Judgement
ask r d p s = judge (ending r.marks.end) (deep d p) (rest r) s

-- an answer leads to a judgement: that of what is left, or its fault
abbrev pub tell : {T : Type 0} → Result T ReadFault → (T → Judgement) → Judgement
tell (Ok x) f = f x
tell (Err e) f = judgement e

-- a factor is wanted, and then it is had; so for terms, sums and expressions
abbrev pub FactorSays : Reader → Reader → ℕ → Result NodeId ReadFault → Type 0
FactorSays a b d r = (p : ℕ) (l : Left) (S M : Tree → Tree) (k : Hole) → ask a d p (want l S M k) ≡ tell r (λ x. ask b d p (have l S (M (tree_in b x)) k))

abbrev pub TermSays : Reader → Reader → ℕ → Result NodeId ReadFault → Type 0
TermSays a b d r = (p : ℕ) (l : Left) (S : Tree → Tree) (k : Hole) → ask a d p (want l S same k) ≡ tell r (λ x. ask b d p (have l S (tree_in b x) k))

abbrev pub SumSays : Reader → Reader → ℕ → Result NodeId ReadFault → Type 0
SumSays a b d r = (p : ℕ) (l : Left) (k : Hole) → ask a d p (want l same same k) ≡ tell r (λ x. ask b d p (have l same (tree_in b x) k))

abbrev pub ExprSays : Reader → Reader → ℕ → Result NodeId ReadFault → Type 0
ExprSays a b d r = (p : ℕ) (k : Hole) → ask a d p (want nothing same same k) ≡ tell r (λ x. ask b d p (full (tree_in b x) k))

-- only the mark w may come, which no limit holds back, and it leads to z; a line does not end here
pub record Only (w : Mark) (s z : State) : Type 0 where
  pub takes : step s w ≡ to z
  pub free : (d : Depth) → T (room d w)
  pub inner : mark.LineEnd ≡ w → ⊥
  pub others : (m : Mark) → (m ≡ w → ⊥) → step s m ≡ stuck

-- it was passed, or another mark refused
abbrev pub Passes : {T : Type 0} → Reader → Reader → Mark → Result T ReadFault → Type 0
Passes a b w r = (d p d' p' : ℕ) (s z : State) → after (deep d p) w ≡ deep d' p' → Only w s z → ask a d p s ≡ tell r (λ _. ask b d' p' z)

-- .. and what it led to
abbrev pub Leads : {T : Type 0} → Reader → Reader → Mark → Result T ReadFault → Type 0
Leads a b w (Ok x) = begins (rest a) ≡ led w (rest b) ++ begins (rest b)
Leads a b w (Err e) = Quiet a b

abbrev pub StopsAt : (Arithmetic → Type 0) → Option Arithmetic → Type 0
StopsAt P None = Unit {0}
StopsAt P (Some o) = P o

abbrev pub not_star : Arithmetic → Type 0
not_star Add = Unit {0}
not_star Sub = Unit {0}
not_star Mul = ⊥
not_star Lt = Unit {0}

abbrev pub only_less : Arithmetic → Type 0
only_less Add = ⊥
only_less Sub = ⊥
only_less Mul = ⊥
only_less Lt = Unit {0}

-- after a part that was read, no operator that would belong to it comes next
abbrev pub Stops : (Arithmetic → Type 0) → Result NodeId ReadFault → Reader → Type 0
Stops P (Ok x) b = StopsAt P (operator (first (rest b)))
Stops P (Err e) b = Unit {0}

-- no factor begins with such a mark
abbrev pub NoFactor : Mark → Type 0
NoFactor mark.Let = Unit {0}
NoFactor mark.Put = Unit {0}
NoFactor mark.Repeat = Unit {0}
NoFactor mark.End = Unit {0}
NoFactor mark.LineEnd = Unit {0}
NoFactor (mark.Number n) = ⊥
NoFactor (mark.Variable v) = ⊥
NoFactor (mark.Operator o) = Unit {0}
NoFactor (mark.Open c) = ⊥
NoFactor (mark.Close c) = Unit {0}
NoFactor mark.Comma = Unit {0}
NoFactor mark.Equals = Unit {0}

abbrev pub NoFactorNext : Option Mark → Type 0
NoFactorNext None = Unit {0}
NoFactorNext (Some m) = NoFactor m

-- the open REPEATs are entries, and what was spent when they began is no more than what is now
abbrev pub Opened : Plan → List OpenRepeat → Type 0
Opened p [] = Unit {0}
Opened p (x ∷ xs) = (x.statement < vec_len p.statements) × (x.need ≤ spent p) × Opened p xs
