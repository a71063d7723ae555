-- Inner: how the functions that read lines tell their callers what they did, by the acceptor's judgement of the marks that are left. No public contract cites it.
use Rattle.std.specs.Prelude.{◌≡◌, ℕ, ◌+◌, ◌<◌, ◌≤◌, List, [], ◌∷◌, ◌++◌, length, Ok, Err, vec_items, vec_len, Result}
use Rattle.language.specs.Limits.{needs, nodes}
use Rattle.language.specs.Plans.{Plan}
use Rattle.stack.specs.declared.slots.Stack.{Stack}
use Rattle.stack.specs.Items.{items, room}
use Rattle.grammar.specs.Begins.{next_byte, begins}
use Rattle.grammar.specs.Verdict.{plan}
use Rattle.grammar.specs.declared.mark.Mark.{Mark}
use Rattle.grammar.specs.declared.mark.Mark.TheVariants as mark
use Rattle.grammar.specs.declared.variable.Variable.{Variable}
use Rattle.grammar.proofs.Acceptor.{Base, body, plain, Hole, of_count, State, line, naming, named, want, full, nothing, same, stuck, to, step, add, start}
use Rattle.plan.specs.declared.fault.ReadFault.{ReadFault}
use Rattle.plan.specs.declared.reader.Reader.{Reader}
use Rattle.plan.specs.declared.repeats.OpenRepeat.{OpenRepeat}
use Rattle.plan.specs.declared.tree.Expression.{Expression}
use Rattle.plan.specs.declared.tree.Statement.{Statement}
use Rattle.plan.specs.Listing.{Lists}
use Rattle.plan.specs.Plans.{spent}
use Rattle.plan.specs.Reading.{rest, tree_in, Opened, ask, tell, judgement}
use Rattle.plan.specs.Showing.{Shows, IsLine, doing, weigh}
use Rattle.plan.specs.Tables.{roots, places}

-- marks other than a line's end, than a variable; marks with which a line of no such kind begins
abbrev pub NotLineEnd : Mark → Type 0
NotLineEnd mark.Let = Unit {0}
NotLineEnd mark.Put = Unit {0}
NotLineEnd mark.Repeat = Unit {0}
NotLineEnd mark.End = Unit {0}
NotLineEnd mark.LineEnd = ⊥
NotLineEnd (mark.Number n) = Unit {0}
NotLineEnd (mark.Variable v) = Unit {0}
NotLineEnd (mark.Operator o) = Unit {0}
NotLineEnd (mark.Open c) = Unit {0}
NotLineEnd (mark.Close c) = Unit {0}
NotLineEnd mark.Comma = Unit {0}
NotLineEnd mark.Equals = Unit {0}

abbrev pub NotVariable : Mark → Type 0
NotVariable mark.Let = Unit {0}
NotVariable mark.Put = Unit {0}
NotVariable mark.Repeat = Unit {0}
NotVariable mark.End = Unit {0}
NotVariable mark.LineEnd = Unit {0}
NotVariable (mark.Number n) = Unit {0}
NotVariable (mark.Variable v) = ⊥
NotVariable (mark.Operator o) = Unit {0}
NotVariable (mark.Open c) = Unit {0}
NotVariable (mark.Close c) = Unit {0}
NotVariable mark.Comma = Unit {0}
NotVariable mark.Equals = Unit {0}

-- a line with such a mark at its front is a LET or a PUT, or none
abbrev pub Simple : Mark → Type 0
Simple mark.Let = Unit {0}
Simple mark.Put = Unit {0}
Simple mark.Repeat = ⊥
Simple mark.End = ⊥
Simple mark.LineEnd = ⊥
Simple (mark.Number n) = Unit {0}
Simple (mark.Variable v) = Unit {0}
Simple (mark.Operator o) = Unit {0}
Simple (mark.Open c) = Unit {0}
Simple (mark.Close c) = Unit {0}
Simple mark.Comma = Unit {0}
Simple mark.Equals = Unit {0}

abbrev pub NoLine : Mark → Type 0
NoLine mark.Let = ⊥
NoLine mark.Put = ⊥
NoLine mark.Repeat = ⊥
NoLine mark.End = ⊥
NoLine mark.LineEnd = ⊥
NoLine (mark.Number n) = Unit {0}
NoLine (mark.Variable v) = Unit {0}
NoLine (mark.Operator o) = Unit {0}
NoLine (mark.Open c) = Unit {0}
NoLine (mark.Close c) = Unit {0}
NoLine mark.Comma = Unit {0}
NoLine mark.Equals = Unit {0}

-- nothing but the line's end may come, and then a line begins
pub record Ends (s : State) (K : Base) : Type 0 where
  pub ends : step s mark.LineEnd ≡ to (line K)
  pub others : (m : Mark) → NotLineEnd m → step s m ≡ stuck

abbrev pub LineEnds : {T : Type 0} → Reader → Reader → Result T ReadFault → Type 0
LineEnds a b r = (d p : ℕ) (s : State) (K : Base) → Ends s K → ask a d p s ≡ tell r (λ _. ask b d p (line K))

abbrev pub Names : Reader → Reader → Result Variable ReadFault → Type 0
Names a b r = (d p : ℕ) (K : Base) → ask a d p (naming K) ≡ tell r (λ v. ask b d p (named v K))

-- an expression with its first byte
pub record Begun (a b : Reader) (e : Expression) : Type 0 where
  pub inside : e.root.index < vec_len b.plan.nodes
  pub counts : vec_len b.plan.nodes ≡ vec_len a.plan.nodes + nodes (tree_in b e.root)
  pub place_is : next_byte (rest a) ≡ e.place ∷ []

abbrev pub ExpressionSays : Reader → Reader → ℕ → Result Expression ReadFault → Type 0
ExpressionSays a b d r = (p : ℕ) (k : Hole) → ask a d p (want nothing same same k) ≡ tell r (λ e. ask b d p (full (tree_in b e.root) k))

-- a statement that was read, and what it makes of the plan behind it
pub record Laid (a b : Reader) (s : Statement) : Type 0 where
  pub is_line : IsLine s
  pub inside : roots s ≤ vec_len b.plan.nodes
  pub counts : vec_len b.plan.nodes ≡ vec_len a.plan.nodes + weigh (vec_items b.plan.nodes) s

-- its expressions begin where xs and the marks from a to b say
abbrev pub Placed : List ℕ → Reader → Reader → Statement → Type 0
Placed xs a b s = xs ++ begins (rest a) ≡ places (s ∷ []) ++ begins (rest b)

abbrev pub StatementSays : Reader → Reader → ℕ → (Base → State) → Result Statement ReadFault → Type 0
StatementSays a b d start r = (p : ℕ) (K : Base) → ask a d p (start K) ≡ tell r (λ s. ask b d p (line (add (doing (vec_items b.plan.nodes) s) K)))

abbrev pub CountSays : Reader → Reader → ℕ → Result Expression ReadFault → Type 0
CountSays a b d r = (p : ℕ) (K : Base) → ask a d p (want nothing same same (of_count K)) ≡ tell r (λ e. ask b d p (line (body plain (tree_in b e.root) K)))

-- what the reader's tables stand for, with these REPEATs open
abbrev pub ShowsIn : Reader → List OpenRepeat → Base → Type 0
ShowsIn r os K = Shows (vec_items r.plan.nodes) (vec_items r.plan.statements) (spent r.plan) os K

-- the bytes at which expressions begin: of the lines that were read, then of those that are left
abbrev pub starts : Reader → List ℕ
starts r = places (vec_items r.plan.statements) ++ begins (rest r)

-- the open REPEATs, of which four have room, are entries
pub record Ready (r : Reader) (s : Stack OpenRepeat) : Type 0 where
  pub opened : Opened r.plan (items s)
  pub slots : room s ≡ 4

-- a line leads to the next one, or to a fault
abbrev pub Told : {T : Type 0} → Reader → Reader → ℕ → List OpenRepeat → List OpenRepeat → Base → Result T ReadFault → Type 0
Told a b d os qs K (Ok u) = (L : Base) × ShowsIn b qs L × (ask a d (length os) (line K) ≡ ask b d (length qs) (line L))
Told a b d os qs K (Err e) = ask a d (length os) (line K) ≡ judgement e

abbrev pub LineTells : {T : Type 0} → Reader → Reader → ℕ → List OpenRepeat → List OpenRepeat → Result T ReadFault → Type 0
LineTells a b d os qs r = (K : Base) → ShowsIn a os K → Told a b d os qs K r

-- the lines of a text, from the first one on
pub record Finished (a b : Reader) : Type 0 where
  pub tree : Plan
  pub says : ask a 0 0 start ≡ plan tree
  pub lists : Lists (vec_items b.plan.nodes) (vec_items b.plan.statements) tree
  pub costs : needs tree ≡ spent b.plan
  pub places_are : places (vec_items b.plan.statements) ≡ starts a

abbrev pub LinesTell : {T : Type 0} → Reader → Reader → Result T ReadFault → Type 0
LinesTell a b (Ok u) = Finished a b
LinesTell a b (Err e) = ask a 0 0 start ≡ judgement e
