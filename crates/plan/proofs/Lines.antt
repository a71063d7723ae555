-- The marks of a line, one by one.
use Rattle.std.proofs.Common.{◌≡◌, ℕ, suc, pred, ◌+◌, ◌<◌, ◌≤◌, List, [], ◌∷◌, length, IsErrAnd, Some, None, Ok, Err, Result as Res, sym, refl, ap, ◌∙◌, subst, arith, ltb→lt, lt→ltb}
use Rattle.std.specs.Result.{IsErr}
use Rattle.language.specs.Plans.{Tree, Plan, done, assign, store, again}
use Rattle.grammar.specs.declared.mark.Bracket.TheVariants.{Round, Square}
use Rattle.grammar.specs.declared.mark.Mark.{Mark}
use Rattle.grammar.specs.declared.mark.Mark.TheVariants.{Let, Put, Repeat, End, LineEnd, Number, Variable, Operator, Open, Close, Comma, Equals}
use Rattle.grammar.specs.declared.mark.Placed.{Placed}
use Rattle.grammar.specs.declared.variable.Variable.{Variable as Letter}
use Rattle.grammar.specs.Verdict.{Judgement, plan, fault, Ending, text_end, strange, Judged}
use Rattle.grammar.proofs.Acceptor.{Base, top, body, plain, over, of_address, of_value, of_count, of_let, State, line, naming, named, full, want, nothing, same, stuck, to, step, add, start}
use Rattle.grammar.proofs.Judge.{result, verdict, judge, judged-start}
use Rattle.marks.specs.declared.fault.MarkFault.{MarkFault}
use Rattle.marks.specs.declared.fault.MarkFault.TheVariants.{Strange}
use Rattle.plan.specs.declared.fault.ReadFault.{ReadFault}
use Rattle.plan.specs.declared.fault.ReadFault.TheVariants as fault-is
use Rattle.plan.specs.declared.reader.Reader.{Reader}
use Rattle.plan.specs.declared.repeats.OpenRepeat.{OpenRepeat}
use Rattle.marks.specs.Endings.{ending}
use Rattle.plan.specs.Reading.{rest, first, place_of, Only, deep, ask, tell, judgement, Refused, Exceeded}
use Rattle.plan.specs.Lining.{NotLineEnd, NotVariable, NoLine, Ends, Told}
use Rattle.plan.proofs.Steps.{Skip, pass, Refuses, refused, exceeded}

-- the text's end ends the line
none_list : (z : Ending) (d p : ℕ) (s : State) (K : Base) (l : List Placed) → None ≡ first l → step s LineEnd ≡ to (line K) → judge z (deep d p) l s ≡ judge z (deep d p) l (line K)
none_list (text_end n) d p s K [] h e = ap (λ v. verdict n (result v)) e
none_list (strange n) d p s K [] h e = refl
none_list z d p s K (m ∷ l) h e = absurd cc

pub ended : (a : Reader) (d p : ℕ) (s : State) (K : Base) → None ≡ first (rest a) → Ends s K → ask a d p s ≡ ask a d p (line K)
unfolding ask
ended a d p s K h e = none_list (ending a.marks.end) d p s K (rest a) h e.ends

-- a strange mark is met wherever the acceptor stands
strange_list : (z : Res ℕ MarkFault) (f : MarkFault) (d p : ℕ) (s : State) (l : List Placed) → Err f ≡ place_of l z → judge (ending z) (deep d p) l s ≡ judgement (fault-is.Mark f)
strange_list (Ok n) f d p s [] e = absurd cc
strange_list (Err (Strange n)) (Strange k) d p s [] e = let q : n ≡ k = cc in ap (fault 3) q
strange_list z f d p s (m ∷ l) e = absurd cc

pub strange_met : (a : Reader) (f : MarkFault) (d p : ℕ) (s : State) → Err f ≡ place_of (rest a) a.marks.end → ask a d p s ≡ judgement (fault-is.Mark f)
unfolding ask
strange_met a f d p s e = strange_list a.marks.end f d p s (rest a) e

pub line_passed : {a b : Reader} (d p : ℕ) (s : State) (K : Base) → Skip a b LineEnd → Ends s K → ask a d p s ≡ ask b d p (line K)
line_passed {a} {b} d p s K h e = pass a b d p d p s (line K) LineEnd h e.ends tt refl

pub let_ends : (v : ℕ) (t : Tree) (K : Base) → Ends (full t (of_let v K)) (add (assign v t) K)
let_ends v t K = record { ends = refl; others = others }
  where
    others : (m : Mark) → NotLineEnd m → step (full t (of_let v K)) m ≡ stuck
    others Let h = refl
    others Put h = refl
    others Repeat h = refl
    others End h = refl
    others LineEnd h = absurd h
    others (Number n) h = refl
    others (Variable v) h = refl
    others (Operator o) h = refl
    others (Open c) h = refl
    others Comma h = refl
    others Equals h = refl
    others (Close Round) h = refl
    others (Close Square) h = refl

pub value-ends : (a t : Tree) (K : Base) → Ends (full t (of_value a K)) (add (store a t) K)
value-ends a t K = record { ends = refl; others = others }
  where
    others : (m : Mark) → NotLineEnd m → step (full t (of_value a K)) m ≡ stuck
    others Let h = refl
    others Put h = refl
    others Repeat h = refl
    others End h = refl
    others LineEnd h = absurd h
    others (Number n) h = refl
    others (Variable v) h = refl
    others (Operator o) h = refl
    others (Open c) h = refl
    others Comma h = refl
    others Equals h = refl
    others (Close Round) h = refl
    others (Close Square) h = refl

pub count-ends : (t : Tree) (K : Base) → Ends (full t (of_count K)) (body plain t K)
count-ends t K = record { ends = refl; others = others }
  where
    others : (m : Mark) → NotLineEnd m → step (full t (of_count K)) m ≡ stuck
    others Let h = refl
    others Put h = refl
    others Repeat h = refl
    others End h = refl
    others LineEnd h = absurd h
    others (Number n) h = refl
    others (Variable v) h = refl
    others (Operator o) h = refl
    others (Open c) h = refl
    others Comma h = refl
    others Equals h = refl
    others (Close Round) h = refl
    others (Close Square) h = refl

pub over-ends : (K : Base) → Ends (over K) K
over-ends K = record { ends = refl; others = others }
  where
    others : (m : Mark) → NotLineEnd m → step (over K) m ≡ stuck
    others Let h = refl
    others Put h = refl
    others Repeat h = refl
    others End h = refl
    others LineEnd h = absurd h
    others (Number n) h = refl
    others (Variable v) h = refl
    others (Operator o) h = refl
    others (Open c) h = refl
    others Comma h = refl
    others Equals h = refl
    others (Close Round) h = refl
    others (Close Square) h = refl

-- the variable behind LET
no_name_mark : (K : Base) (m : Mark) → NotVariable m → step (naming K) m ≡ stuck
no_name_mark K Let h = refl
no_name_mark K Put h = refl
no_name_mark K Repeat h = refl
no_name_mark K End h = refl
no_name_mark K LineEnd h = refl
no_name_mark K (Number n) h = refl
no_name_mark K (Variable v) h = absurd h
no_name_mark K (Operator o) h = refl
no_name_mark K (Open c) h = refl
no_name_mark K (Close c) h = refl
no_name_mark K Comma h = refl
no_name_mark K Equals h = refl

pub no_name : (K : Base) (m : Mark) → NotVariable m → Refuses (naming K) (Some m)
no_name K m h = no_name_mark K m h

pub name_passed : {a b : Reader} (v : Letter) (d p : ℕ) (K : Base) → Skip a b (Variable v) → ask a d p (naming K) ≡ ask b d p (named v K)
name_passed {a} {b} v d p K h = pass a b d p d p (naming K) (named v K) _ h refl tt refl

-- the marks that must come behind it, and between the two expressions of a PUT
pub only_equals : (v : Letter) (K : Base) → Only Equals (named v K) (want nothing same same (of_let v.number K))
only_equals x K = record { takes = refl; free = λ d. tt; inner = λ e. cc; others = others }
  where
    others : (m : Mark) → (m ≡ Equals → ⊥) → step (named x K) m ≡ stuck
    others Let h = refl
    others Put h = refl
    others Repeat h = refl
    others End h = refl
    others LineEnd h = refl
    others (Number n) h = refl
    others (Variable v) h = refl
    others (Operator o) h = refl
    others (Open c) h = refl
    others (Close c) h = refl
    others Comma h = refl
    others Equals h = absurd (h refl)

pub only_comma : (t : Tree) (K : Base) → Only Comma (full t (of_address K)) (want nothing same same (of_value t K))
only_comma t K = record { takes = refl; free = λ d. tt; inner = λ e. cc; others = others }
  where
    others : (m : Mark) → (m ≡ Comma → ⊥) → step (full t (of_address K)) m ≡ stuck
    others Let h = refl
    others Put h = refl
    others Repeat h = refl
    others End h = refl
    others LineEnd h = refl
    others (Number n) h = refl
    others (Variable v) h = refl
    others (Operator o) h = refl
    others (Open c) h = refl
    others (Close Round) h = refl
    others (Close Square) h = refl
    others Comma h = absurd (h refl)
    others Equals h = refl

-- the first mark of a line
pub blank_passed : {a b : Reader} (d p : ℕ) (K : Base) → Skip a b LineEnd → ask a d p (line K) ≡ ask b d p (line K)
blank_passed {a} {b} d p K h = pass a b d p d p (line K) (line K) LineEnd h refl tt refl

pub let_passed : {a b : Reader} (d p : ℕ) (K : Base) → Skip a b Let → ask a d p (line K) ≡ ask b d p (naming K)
let_passed {a} {b} d p K h = pass a b d p d p (line K) (naming K) Let h refl tt refl

pub put_passed : {a b : Reader} (d p : ℕ) (K : Base) → Skip a b Put → ask a d p (line K) ≡ ask b d p (want nothing same same (of_address K))
put_passed {a} {b} d p K h = pass a b d p d p (line K) (want nothing same same (of_address K)) Put h refl tt refl

pub repeat_passed : {a b : Reader} (d p : ℕ) (K : Base) → p < 4 → Skip a b Repeat → ask a d p (line K) ≡ ask b d (p + 1) (want nothing same same (of_count K))
repeat_passed {a} {b} d p K l h = let q : suc p ≡ p + 1 = omega arith in pass a b d p d (p + 1) (line K) (want nothing same same (of_count K)) Repeat h refl (lt→ltb p 4 l) (ap (deep d) q)

pub repeat_deep : {A : Type 0} (a : Reader) (d p : ℕ) (K : Base) (x : Res A ReadFault) (g : A → Judgement) → Exceeded (rest a) a.marks.end x → Some Repeat ≡ first (rest a) → 4 ≤ p → ask a d p (line K) ≡ tell x g
repeat_deep a d p K x g q h l = exceeded a d p (line K) (want nothing same same (of_count K)) Repeat x g q h refl λ t. omega (arith, ltb→lt p 4 t)

pub end_passed : {a b : Reader} (d p : ℕ) (f : Plan → Plan) (t : Tree) (K : Base) → Skip a b End → ask a d (p + 1) (line (body f t K)) ≡ ask b d p (over (add (again t (f done)) K))
end_passed {a} {b} d p f t K k = let q : pred (p + 1) ≡ p = omega arith in pass a b d (p + 1) d p (line (body f t K)) (over (add (again t (f done)) K)) End k refl tt (ap (deep d) q)

pub end_refused : {A : Type 0} (a : Reader) (d p : ℕ) (f : Plan → Plan) (x : Res A ReadFault) (g : A → Judgement) → Refused (rest a) a.marks.end x → Some End ≡ first (rest a) → ask a d p (line (top f)) ≡ tell x g
end_refused a d p f x g q e = refused a d p (line (top f)) x g q (subst (Refuses (line (top f))) e refl)

no_line_mark : (K : Base) (m : Mark) → NoLine m → step (line K) m ≡ stuck
no_line_mark K Let h = absurd h
no_line_mark K Put h = absurd h
no_line_mark K Repeat h = absurd h
no_line_mark K End h = absurd h
no_line_mark K LineEnd h = absurd h
no_line_mark K (Number n) h = refl
no_line_mark K (Variable v) h = refl
no_line_mark K (Operator o) h = refl
no_line_mark K (Open c) h = refl
no_line_mark K (Close c) h = refl
no_line_mark K Comma h = refl
no_line_mark K Equals h = refl

pub no_line : {A : Type 0} (a : Reader) (d p : ℕ) (K : Base) (m : Mark) (x : Res A ReadFault) (g : A → Judgement) → Refused (rest a) a.marks.end x → Some m ≡ first (rest a) → NoLine m → ask a d p (line K) ≡ tell x g
no_line a d p K m x g q e h = refused a d p (line K) x g q (subst (Refuses (line K)) e (no_line_mark K m h))

-- at the text's end
all_list : (n d p : ℕ) (f : Plan → Plan) (l : List Placed) (z : Res ℕ MarkFault) → None ≡ first l → Ok n ≡ place_of l z → judge (ending z) (deep d p) l (line (top f)) ≡ plan (f done)
all_list n d p f (m ∷ l) z h e = absurd cc
all_list n d p f [] (Ok k) h e = refl
all_list n d p f [] (Err k) h e = absurd cc

pub all_read : (a : Reader) (n d p : ℕ) (f : Plan → Plan) → None ≡ first (rest a) → Ok n ≡ place_of (rest a) a.marks.end → ask a d p (line (top f)) ≡ plan (f done)
unfolding ask
all_read a n d p f h e = all_list n d p f (rest a) a.marks.end h e

open_list : (n d p : ℕ) (f : Plan → Plan) (t : Tree) (K : Base) (l : List Placed) (z : Res ℕ MarkFault) → None ≡ first l → Ok n ≡ place_of l z → judge (ending z) (deep d p) l (line (body f t K)) ≡ fault 4 n
open_list n d p f t K (m ∷ l) z h e = absurd cc
open_list n d p f t K [] (Ok k) h e = let q : k ≡ n = cc in ap (fault 4) q
open_list n d p f t K [] (Err k) h e = absurd cc

pub left_open : (a : Reader) (n d p : ℕ) (f : Plan → Plan) (t : Tree) (K : Base) → None ≡ first (rest a) → Ok n ≡ place_of (rest a) a.marks.end → ask a d p (line (body f t K)) ≡ fault 4 n
unfolding ask
left_open a n d p f t K h e = open_list n d p f t K (rest a) a.marks.end h e

-- the acceptor's judgement is the one that the rules allow
pub rules : (a : Reader) (j : Judgement) → ask a 0 0 start ≡ j → Judged (rest a) (ending a.marks.end) j
unfolding ask
rules a j e = subst (Judged (rest a) (ending a.marks.end)) e (judged-start (ending a.marks.end) (rest a))

-- a line's fault
pub told_err : {T : Type 0} (a b : Reader) (d : ℕ) (os qs : List OpenRepeat) (K : Base) (x : Res T ReadFault) (f : ReadFault) → IsErrAnd x (λ y. y ≡ f) → ask a d (length os) (line K) ≡ judgement f → Told a b d os qs K x
told_err a b d os qs K (Ok u) f h e = absurd h
told_err a b d os qs K (Err y) f h e = e ∙ ap judgement (sym h)

pub told_tell : {T : Type 0} (a b : Reader) (d : ℕ) (os qs : List OpenRepeat) (K : Base) (x : Res T ReadFault) → IsErr x → ((g : T → Judgement) → ask a d (length os) (line K) ≡ tell x g) → Told a b d os qs K x
told_tell a b d os qs K (Ok u) i h = absurd cc
told_tell a b d os qs K (Err y) i h = h (λ _. fault 0 0)
