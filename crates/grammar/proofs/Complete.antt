-- What the grammar derives, the acceptor reads, and then it has the tree in hand.
use mathlib.Core.Path.{◌≡◌, refl, sym, ap, ◌∙◌}
use mathlib.Core.List.{List, [], ◌∷◌, ◌++◌}
use Rattle.isa.specs.declared.kinds.Arithmetic.{Arithmetic}
use Rattle.isa.specs.declared.kinds.Arithmetic.TheVariants.{Add, Sub, Mul, Lt}
use Rattle.grammar.specs.declared.mark.Bracket.TheVariants.{Round, Square}
use Rattle.grammar.specs.declared.mark.Mark.{Mark}
use Rattle.grammar.specs.declared.mark.Mark.TheVariants.{Let, Put, Repeat, End, LineEnd, Number, Variable, Operator, Open, Close, Comma, Equals}
use Rattle.language.specs.Plans.{Tree, node, Plan, done, assign, store, again}
use Rattle.grammar.specs.Grammar.{Level, expr_level, sum_level, term_level, factor_level, Derives, a_number, a_variable, in_parens, in_brackets, one_factor, times, one_term, plus, minus, one_sum, less, Lines, no_line, blank_line, let_line, put_line, repeat_lines, IsPlan}
use Rattle.grammar.proofs.Acceptor.{same, plain, Base, top, body, Left, nothing, below, Hole, of_let, of_address, of_value, of_count, inside, line, want, have, full, to, add, value, at_full, at_have, then, run, start}

-- P of the operator, if the mark is one
abbrev pub IfOp : (Arithmetic → Type 0) → Mark → Type 0
IfOp P Let = Unit {0}
IfOp P Put = Unit {0}
IfOp P Repeat = Unit {0}
IfOp P End = Unit {0}
IfOp P LineEnd = Unit {0}
IfOp P (Number n) = Unit {0}
IfOp P (Variable v) = Unit {0}
IfOp P (Operator o) = P o
IfOp P (Open b) = Unit {0}
IfOp P (Close b) = Unit {0}
IfOp P Comma = Unit {0}
IfOp P Equals = Unit {0}

abbrev pub not_star : Arithmetic → Type 0
not_star Add = Unit {0}
not_star Sub = Unit {0}
not_star Mul = ⊥
not_star Lt = Unit {0}

abbrev pub none : Arithmetic → Type 0
none o = ⊥

-- a mark follows, and is no such operator
abbrev pub Next : (Arithmetic → Type 0) → List Mark → Type 0
Next P [] = ⊥
Next P (m ∷ r) = IfOp P m

-- a sum to which no * is joined is one term in the acceptor's eyes
pub settle_step : (m : Mark) → IfOp not_star m → (l : Left) (S : Tree → Tree) (t : Tree) (k : Hole) → at_have m l S t k ≡ at_have m l same (S t) k
settle_step Let h l S t k = refl
settle_step Put h l S t k = refl
settle_step Repeat h l S t k = refl
settle_step End h l S t k = refl
settle_step LineEnd h l S t k = refl
settle_step (Number n) h l S t k = refl
settle_step (Variable v) h l S t k = refl
settle_step (Operator Add) h l S t k = refl
settle_step (Operator Sub) h l S t k = refl
settle_step (Operator Mul) h l S t k = absurd h
settle_step (Open b) h l S t k = refl
settle_step (Close b) h l S t k = refl
settle_step Comma h l S t k = refl
settle_step Equals h l S t k = refl
settle_step (Operator Lt) h nothing S t k = refl
settle_step (Operator Lt) h (below u) S t k = refl

-- an expression to which no operator is joined is complete
pub fill_step : (m : Mark) → IfOp none m → (l : Left) (S : Tree → Tree) (t : Tree) (k : Hole) → at_have m l S t k ≡ at_full m (value l (S t)) k
fill_step Let h l S t k = refl
fill_step Put h l S t k = refl
fill_step Repeat h l S t k = refl
fill_step End h l S t k = refl
fill_step LineEnd h l S t k = refl
fill_step (Number n) h l S t k = refl
fill_step (Variable v) h l S t k = refl
fill_step (Operator o) h l S t k = absurd h
fill_step (Open b) h l S t k = refl
fill_step (Close b) h l S t k = refl
fill_step Comma h l S t k = refl
fill_step Equals h l S t k = refl

settle : (r : List Mark) → Next not_star r → (l : Left) (S : Tree → Tree) (t : Tree) (k : Hole) → run r (have l S t k) ≡ run r (have l same (S t) k)
settle [] h l S t k = absurd h
settle (m ∷ r) h l S t k = ap (λ z. then z (run r)) (settle_step m h l S t k)

fill : (r : List Mark) → Next none r → (l : Left) (S : Tree → Tree) (t : Tree) (k : Hole) → run r (have l S t k) ≡ run r (full (value l (S t)) k)
fill [] h l S t k = absurd h
fill (m ∷ r) h l S t k = ap (λ z. then z (run r)) (fill_step m h l S t k)

weaken_op : (m : Mark) → IfOp none m → IfOp not_star m
weaken_op Let h = tt
weaken_op Put h = tt
weaken_op Repeat h = tt
weaken_op End h = tt
weaken_op LineEnd h = tt
weaken_op (Number n) h = tt
weaken_op (Variable v) h = tt
weaken_op (Operator o) h = absurd h
weaken_op (Open b) h = tt
weaken_op (Close b) h = tt
weaken_op Comma h = tt
weaken_op Equals h = tt

weaken : (r : List Mark) → Next none r → Next not_star r
weaken [] h = h
weaken (m ∷ r) h = weaken_op m h

-- what the acceptor does over a part of each level
abbrev pub Reads : Level → List Mark → List Mark → Tree → Type 0
Reads factor_level s r t = (l : Left) (S M : Tree → Tree) (k : Hole) → run s (want l S M k) ≡ run r (have l S (M t) k)
Reads term_level s r t = (l : Left) (S : Tree → Tree) (k : Hole) → run s (want l S same k) ≡ run r (have l S t k)
Reads sum_level s r t = Next not_star r → (l : Left) (k : Hole) → run s (want l same same k) ≡ run r (have l same t k)
Reads expr_level s r t = Next none r → (k : Hole) → run s (want nothing same same k) ≡ run r (full t k)

pub reads : {l : Level} {s r : List Mark} {t : Tree} → Derives l s r t → Reads l s r t
reads a_number = λ l S M k. refl
reads a_variable = λ l S M k. refl
reads (in_parens d) = λ l S M k. reads d tt (inside Round l S M k)
reads (in_brackets d) = λ l S M k. reads d tt (inside Square l S M k)
reads (one_factor d) = λ l S k. reads d l S same k
reads (times {t = t} d f) = λ l S k. reads d l S k ∙ reads f l S (node Mul t) k
reads (one_term d) = λ h l k. reads d l same k
reads (plus {r = r} {t = t} {u = u} d f) = λ h l k. reads d tt l k ∙ reads f l (node Add t) k ∙ settle r h l (node Add t) u k
reads (minus {r = r} {t = t} {u = u} d f) = λ h l k. reads d tt l k ∙ reads f l (node Sub t) k ∙ settle r h l (node Sub t) u k
reads (one_sum {r = r} {t = t} d) = λ h k. reads d (weaken r h) nothing k ∙ fill r h nothing same t k
reads (less {r = r} {t = t} {u = u} d f) = λ h k. reads d tt nothing k ∙ reads f (weaken r h) (below t) k ∙ fill r h (below t) same u k

-- one plan after another
abbrev pub both : Plan → Plan → Plan
both done q = q
both (assign v e p) q = assign v e (both p q)
both (store a e p) q = store a e (both p q)
both (again e b p) q = again e b (both p q)

pub both_done : (p : Plan) → both p done ≡ p
both_done done = refl
both_done (assign v e p) = ap (assign v e) (both_done p)
both_done (store a e p) = ap (store a e) (both_done p)
both_done (again e b p) = ap (again e b) (both_done p)

pub add_plain : (K : Base) → add plain K ≡ K
add_plain (top f) = refl
add_plain (body f e K) = refl

add-add : (g h : Plan → Plan) (K : Base) → add g (add h K) ≡ add (λ p. h (g p)) K
add-add g h (top f) = refl
add-add g h (body f e K) = refl

-- one statement, and then the lines after it
onward : (r : List Mark) (p : Plan) (g : Plan → Plan) (K : Base) → run r (line (add (both p) (add g K))) ≡ run r (line (add (λ q. g (both p q)) K))
onward r p g K = ap (λ z. run r (line z)) (add-add (both p) g K)

pub lines_read : {s r : List Mark} {p : Plan} → Lines s r p → (K : Base) → run s (line K) ≡ run r (line (add (both p) K))
lines_read (no_line {s = s}) K = ap (λ z. run s (line z)) (sym (add_plain K))
lines_read (blank_line d) K = lines_read d K
lines_read (let_line {v = v} {r = r} {e = e} {p = p} d h) K = reads d tt (of_let v.number K) ∙ lines_read h (add (assign v.number e) K) ∙ onward r p (assign v.number e) K
lines_read (put_line {r = r} {a = a} {e = e} {p = p} d f h) K = reads d tt (of_address K) ∙ reads f tt (of_value a K) ∙ lines_read h (add (store a e) K) ∙ onward r p (store a e) K
lines_read (repeat_lines {n = n} {r = r} {e = e} {b = b} {p = p} d f h) K =
    reads d tt (of_count K) ∙ lines_read f (body plain e K) ∙ ap (λ z. run n (line (add (again e z) K))) (both_done b) ∙ lines_read h (add (again e b) K) ∙ onward r p (again e b) K

pub plan_read : {ms : List Mark} {p : Plan} → IsPlan ms p → run (ms ++ (LineEnd ∷ [])) start ≡ to (line (top (both p)))
plan_read h = lines_read h.lines (top plain)
