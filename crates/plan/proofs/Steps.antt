-- One mark of the reader is one mark of the acceptor.
use Rattle.std.proofs.Common.{◌≡◌, ℕ, ◌+◌, Bool, true, false, T, List, [], ◌∷◌, ◌++◌, length, get_or, IsErrAnd, Some, None, Ok, Err, vec_items, vec_len, Option, Result as Res, sym, refl, ap, ◌∙◌, subst, arith}
use Rattle.std.specs.Result.{IsErr}
use Rattle.isa.specs.declared.kinds.Arithmetic.{Arithmetic}
use Rattle.isa.specs.declared.kinds.Arithmetic.TheVariants.{Add, Sub, Mul, Lt}
use Rattle.grammar.specs.declared.mark.Bracket.{Bracket}
use Rattle.grammar.specs.declared.mark.Bracket.TheVariants.{Round, Square}
use Rattle.grammar.specs.declared.mark.Mark.{Mark}
use Rattle.grammar.specs.declared.mark.Mark.TheVariants.{Let, Put, Repeat, End, LineEnd, Number, Variable, Operator, Open, Close, Comma, Equals}
use Rattle.language.specs.Plans.{Tree, number}
use Rattle.grammar.specs.declared.mark.Placed.{Placed}
use Rattle.grammar.specs.Verdict.{after, room, Judgement, fault, Ending, text_end, strange}
use Rattle.grammar.proofs.Acceptor.{Left, nothing, below, Hole, inside, State, want, have, full, Move, stuck, to, step, same, bracketed, value, at_have, at_full}
use Rattle.grammar.proofs.Complete.{IfOp, settle_step}
use Rattle.grammar.proofs.Judge.{Result, result, verdict, turn, judge}
use Rattle.plan.specs.declared.tree.Node.{Node}
use Rattle.plan.specs.declared.reader.Reader.{Reader}
use Rattle.marks.specs.declared.fault.MarkFault.{MarkFault}
use Rattle.marks.specs.declared.fault.MarkFault.TheVariants.{Strange}
use Rattle.plan.specs.declared.fault.ReadFault.{ReadFault}
use Rattle.plan.specs.declared.tree.NodeId.{NodeId}
use Rattle.marks.specs.Endings.{ending}
use Rattle.plan.specs.Trees.{tree_of, trees}
use Rattle.plan.specs.Reading.{rest, first, tail, place_of, refusal, Refused, excess, Exceeded, operator_of, operator, Goes, Grew, deep, judgement, ask, tell, Only, NoFactor, NoFactorNext, StopsAt, not_star}
use Rattle.plan.proofs.Growth.{kept_push, tree-push}

-- what a look at the front of the marks tells
pub front : (l : List Placed) (r : List Placed) (m : Mark) → Some m ≡ first l → r ≡ tail l → (p : Placed) × (l ≡ p ∷ r) × (p.mark ≡ m)
front [] r m e h = absurd cc
front (x ∷ xs) r m e h = (x, ap (λ l. x ∷ l) (sym h), cc)

-- b is a with the mark m passed over
pub record Skip (a b : Reader) (m : Mark) : Type 0 where
  pub seen : Some m ≡ first (rest a)
  pub rest_is : rest b ≡ tail (rest a)
  pub marks_is : b.marks ≡ a.marks
  pub plan_is : b.plan ≡ a.plan

-- what passing over a mark ensures, of a mark that came
pub skipped : {a b : Reader} {m : Mark} → Some m ≡ first (rest a) → rest b ≡ tail (rest a) → b.marks ≡ a.marks → b.plan ≡ a.plan → Skip a b m
skipped seen r m p = record { seen = seen; rest_is = r; marks_is = m; plan_is = p }

taken : (v : Move) (b : Bool) (i : ℕ) (f : State → Judgement) (z : State) → v ≡ to z → T b → turn v b i f ≡ f z
taken stuck b i f z e t = absurd cc
taken (to y) true i f z e t = let x : y ≡ z = cc in ap f x
taken (to y) false i f z e t = absurd t

pub pass : (a b : Reader) (d p d' p' : ℕ) (s z : State) (m : Mark) → Skip a b m → step s m ≡ to z → T (room (deep d p) m) → after (deep d p) m ≡ deep d' p' → ask a d p s ≡ ask b d' p' z
unfolding ask
pass a b d p d' p' s z m h e t q = one (front (rest a) (rest b) m h.seen h.rest_is)
  where
    E : Ending
    E = ending a.marks.end

    one : (x : Placed) × (rest a ≡ x ∷ rest b) × (x.mark ≡ m) → judge E (deep d p) (rest a) s ≡ judge (ending b.marks.end) (deep d' p') (rest b) z
    one (x, l, k) =
        let e' : step s x.mark ≡ to z = ap (step s) k ∙ e in
        let t' : T (room (deep d p) x.mark) = subst (λ n. T (room (deep d p) n)) (sym k) t in
        let q' : after (deep d p) x.mark ≡ deep d' p' = ap (after (deep d p)) k ∙ q in
        ap (λ r. judge E (deep d p) r s) l ∙ taken (step s x.mark) (room (deep d p) x.mark) x.place _ z e' t'
        ∙ ap (λ y. judge E y (rest b) z) q' ∙ ap (λ n. judge (ending n.end) (deep d' p') (rest b) z) (sym h.marks_is)

-- the acceptor is stuck at this mark, or at the text's end
abbrev pub Refuses : State → Option Mark → Type 0
Refuses s None = result (step s LineEnd) ≡ Result.no
Refuses s (Some m) = step s m ≡ stuck

refuse_list : (z : Res ℕ MarkFault) (d p : ℕ) (s : State) (l : List Placed) → Refuses s (first l) → judge (ending z) (deep d p) l s ≡ judgement (refusal (place_of l z))
refuse_list (Ok n) d p s [] h = ap (verdict n) h
refuse_list (Err (Strange n)) d p s [] h = refl
refuse_list z d p s (m ∷ l) h = ap (λ v. turn v (room (deep d p) m.mark) m.place (judge (ending z) (after (deep d p) m.mark) l)) h

pub refuse : (a : Reader) (d p : ℕ) (s : State) → Refuses s (first (rest a)) → ask a d p s ≡ judgement (refusal (place_of (rest a) a.marks.end))
unfolding ask
refuse a d p s h = refuse_list a.marks.end d p s (rest a) h

-- a fault is handed on whole
pub err_tell : {A : Type 0} (x : Res A ReadFault) (f : ReadFault) → IsErrAnd x (λ y. y ≡ f) → (g : A → Judgement) → judgement f ≡ tell x g
err_tell (Ok i) f h g = absurd h
err_tell (Err y) f h g = ap judgement (sym h)

-- an answer that is a fault has no value
pub by_err : {A : Type 0} (x : Res A ReadFault) (P : ReadFault → Type 0) → IsErrAnd x P → IsErr x
by_err (Ok i) P h = absurd h
by_err (Err y) P h = refl

pub refused : {A : Type 0} (a : Reader) (d p : ℕ) (s : State) (x : Res A ReadFault) (g : A → Judgement) → Refused (rest a) a.marks.end x → Refuses s (first (rest a)) → ask a d p s ≡ tell x g
refused a d p s (Ok i) g h r = absurd h
refused a d p s (Err e) g h r = refuse a d p s r ∙ ap judgement (sym h)

over : (v : Move) (b : Bool) (i : ℕ) (f : State → Judgement) (z : State) → v ≡ to z → (T b → ⊥) → turn v b i f ≡ fault 5 i
over stuck b i f z e t = absurd cc
over (to y) true i f z e t = absurd (t tt)
over (to y) false i f z e t = refl

deep_list : (z : Res ℕ MarkFault) (d p : ℕ) (s y : State) (m : Mark) (l : List Placed) → Some m ≡ first l → step s m ≡ to y → (T (room (deep d p) m) → ⊥) → judge (ending z) (deep d p) l s ≡ judgement (excess (place_of l z))
deep_list z d p s y m [] h e t = absurd cc
deep_list z d p s y m (x ∷ l) h e t =
    let k : x.mark ≡ m = cc in
    over (step s x.mark) (room (deep d p) x.mark) x.place _ y (ap (step s) k ∙ e) (λ u. t (subst (λ n. T (room (deep d p) n)) k u))

pub exceeded : {A : Type 0} (a : Reader) (d p : ℕ) (s y : State) (m : Mark) (x : Res A ReadFault) (g : A → Judgement) → Exceeded (rest a) a.marks.end x →
    Some m ≡ first (rest a) → step s m ≡ to y → (T (room (deep d p) m) → ⊥) → ask a d p s ≡ tell x g
unfolding ask
exceeded a d p s y m (Ok i) g h f e t = absurd h
exceeded a d p s y m (Err w) g h f e t = deep_list a.marks.end d p s y m (rest a) f e t ∙ ap judgement (sym h)

-- operators that come next
if_op : (P : Arithmetic → Type 0) (m : Mark) → StopsAt P (operator_of m) → IfOp P m
if_op P Let h = h
if_op P Put h = h
if_op P Repeat h = h
if_op P End h = h
if_op P LineEnd h = h
if_op P (Number n) h = h
if_op P (Variable v) h = h
if_op P (Operator o) h = h
if_op P (Open c) h = h
if_op P (Close c) h = h
if_op P Comma h = h
if_op P Equals h = h

settle_list : (z : Ending) (d p : ℕ) (l : Left) (S : Tree → Tree) (t : Tree) (k : Hole) (ms : List Placed) → StopsAt not_star (operator (first ms)) →
    judge z (deep d p) ms (have l S t k) ≡ judge z (deep d p) ms (have l same (S t) k)
settle_list (text_end n) d p l S t k [] h = refl
settle_list (strange n) d p l S t k [] h = refl
settle_list z d p l S t k (m ∷ ms) h = ap (λ v. turn v (room (deep d p) m.mark) m.place (judge z (after (deep d p) m.mark) ms)) (settle_step m.mark (if_op not_star m.mark h) l S t k)

-- a sum that no * follows is one term in the acceptor's eyes
pub settle : (a : Reader) (d p : ℕ) (l : Left) (S : Tree → Tree) (t : Tree) (k : Hole) → StopsAt not_star (operator (first (rest a))) → ask a d p (have l S t k) ≡ ask a d p (have l same (S t) k)
unfolding ask
settle a d p l S t k h = settle_list (ending a.marks.end) d p l S t k (rest a) h

-- which operators end an expression, given what stands before the last sum
abbrev pub ends : Left → Arithmetic → Type 0
ends nothing Add = ⊥
ends nothing Sub = ⊥
ends nothing Mul = ⊥
ends nothing Lt = ⊥
ends (below u) Add = ⊥
ends (below u) Sub = ⊥
ends (below u) Mul = ⊥
ends (below u) Lt = Unit {0}

fill_op : (o : Arithmetic) (l : Left) (S : Tree → Tree) (t : Tree) (k : Hole) → ends l o → at_have (Operator o) l S t k ≡ at_full (Operator o) (value l (S t)) k
fill_op Add nothing S t k h = absurd h
fill_op Sub nothing S t k h = absurd h
fill_op Mul nothing S t k h = absurd h
fill_op Lt nothing S t k h = absurd h
fill_op Add (below u) S t k h = absurd h
fill_op Sub (below u) S t k h = absurd h
fill_op Mul (below u) S t k h = absurd h
fill_op Lt (below u) S t k h = refl

fill_step : (m : Mark) (l : Left) (S : Tree → Tree) (t : Tree) (k : Hole) → StopsAt (ends l) (operator_of m) → at_have m l S t k ≡ at_full m (value l (S t)) k
fill_step Let l S t k h = refl
fill_step Put l S t k h = refl
fill_step Repeat l S t k h = refl
fill_step End l S t k h = refl
fill_step LineEnd l S t k h = refl
fill_step (Number n) l S t k h = refl
fill_step (Variable v) l S t k h = refl
fill_step (Operator o) l S t k h = fill_op o l S t k h
fill_step (Open c) l S t k h = refl
fill_step (Close c) l S t k h = refl
fill_step Comma l S t k h = refl
fill_step Equals l S t k h = refl

fill_list : (z : Ending) (d p : ℕ) (l : Left) (S : Tree → Tree) (t : Tree) (k : Hole) (ms : List Placed) → StopsAt (ends l) (operator (first ms)) →
    judge z (deep d p) ms (have l S t k) ≡ judge z (deep d p) ms (full (value l (S t)) k)
fill_list (text_end n) d p l S t k [] h = refl
fill_list (strange n) d p l S t k [] h = refl
fill_list z d p l S t k (m ∷ ms) h = ap (λ v. turn v (room (deep d p) m.mark) m.place (judge z (after (deep d p) m.mark) ms)) (fill_step m.mark l S t k h)

-- an expression that no operator follows is complete
pub fill : (a : Reader) (d p : ℕ) (l : Left) (S : Tree → Tree) (t : Tree) (k : Hole) → StopsAt (ends l) (operator (first (rest a))) → ask a d p (have l S t k) ≡ ask a d p (full (value l (S t)) k)
unfolding ask
fill a d p l S t k h = fill_list (ending a.marks.end) d p l S t k (rest a) h

-- where no factor begins
no_factor_mark : (l : Left) (S M : Tree → Tree) (k : Hole) (m : Mark) → NoFactor m → step (want l S M k) m ≡ stuck
no_factor_mark l S M k Let h = refl
no_factor_mark l S M k Put h = refl
no_factor_mark l S M k Repeat h = refl
no_factor_mark l S M k End h = refl
no_factor_mark l S M k LineEnd h = refl
no_factor_mark l S M k (Number n) h = absurd h
no_factor_mark l S M k (Variable v) h = absurd h
no_factor_mark l S M k (Operator o) h = refl
no_factor_mark l S M k (Open c) h = absurd h
no_factor_mark l S M k (Close c) h = refl
no_factor_mark l S M k Comma h = refl
no_factor_mark l S M k Equals h = refl

pub no_factor : (l : Left) (S M : Tree → Tree) (k : Hole) (o : Option Mark) → NoFactorNext o → Refuses (want l S M k) o
no_factor l S M k None h = refl
no_factor l S M k (Some m) h = no_factor_mark l S M k m h

-- another mark than the one that must come
pub other_next : (w : Mark) (s z : State) (o : Option Mark) → Only w s z → (o ≡ Some w → ⊥) → Refuses s o
other_next w s z None q h = ap result (q.others LineEnd q.inner)
other_next w s z (Some m) q h = q.others m (λ e. h (ap Some e))

pub only-passed : {a b : Reader} {w : Mark} → Skip a b w → (d p d' p' : ℕ) (s z : State) → after (deep d p) w ≡ deep d' p' → Only w s z → ask a d p s ≡ ask b d' p' z
only-passed {a} {b} {w} h d p d' p' s z e q = pass a b d p d' p' s z w h q.takes (q.free (deep d p)) e

-- .. behind the expression in a bracket
not-closed : (b : Bracket) (t : Tree) (l : Left) (S M : Tree → Tree) (k : Hole) (m : Mark) → (m ≡ Close b → ⊥) → step (full t (inside b l S M k)) m ≡ stuck
not-closed b t l S M k Let h = refl
not-closed b t l S M k Put h = refl
not-closed b t l S M k Repeat h = refl
not-closed b t l S M k End h = refl
not-closed b t l S M k LineEnd h = refl
not-closed b t l S M k (Number n) h = refl
not-closed b t l S M k (Variable v) h = refl
not-closed b t l S M k (Operator o) h = refl
not-closed b t l S M k (Open c) h = refl
not-closed b t l S M k Comma h = refl
not-closed b t l S M k Equals h = refl
not-closed Round t l S M k (Close Round) h = absurd (h refl)
not-closed Round t l S M k (Close Square) h = refl
not-closed Square t l S M k (Close Round) h = refl
not-closed Square t l S M k (Close Square) h = absurd (h refl)

closed-step : (b : Bracket) (t : Tree) (l : Left) (S M : Tree → Tree) (k : Hole) → step (full t (inside b l S M k)) (Close b) ≡ to (have l S (M (bracketed b t)) k)
closed-step Round t l S M k = refl
closed-step Square t l S M k = refl

pub only_close : (b : Bracket) (t : Tree) (l : Left) (S M : Tree → Tree) (k : Hole) → Only (Close b) (full t (inside b l S M k)) (have l S (M (bracketed b t)) k)
only_close b t l S M k = record { takes = closed-step b t l S M k; free = λ d. tt; inner = λ e. cc; others = not-closed b t l S M k }

-- an operator that comes next is the next mark
op_mark : (m : Mark) (o : Arithmetic) → Some o ≡ operator_of m → m ≡ Operator o
op_mark Let x h = absurd cc
op_mark Put x h = absurd cc
op_mark Repeat x h = absurd cc
op_mark End x h = absurd cc
op_mark LineEnd x h = absurd cc
op_mark (Number n) x h = absurd cc
op_mark (Variable v) x h = absurd cc
op_mark (Operator o) x h = let e : o ≡ x = cc in ap Operator e
op_mark (Open c) x h = absurd cc
op_mark (Close c) x h = absurd cc
op_mark Comma x h = absurd cc
op_mark Equals x h = absurd cc

pub op-next : (q : Option Mark) (o : Arithmetic) → Some o ≡ operator q → Some (Operator o) ≡ q
op-next None o h = absurd cc
op-next (Some m) o h = ap Some (sym (op_mark m o h))

-- what every part keeps
pub goes_refl : (a : Reader) → Goes a a
goes_refl a = record { forth = omega arith; room = omega arith; more = omega arith; kept = λ x h. refl; marks = refl; statements = refl; own = refl }

pub goes_then : {a b c : Reader} → Goes a b → Goes b c → Goes a c
goes_then g h = record {
  forth = omega (arith, g.forth, h.forth);
  room = omega (arith, g.room, h.room);
  more = omega (arith, g.more, h.more);
  kept = λ x l. h.kept x (omega (arith, g.more)) ∙ g.kept x l;
  marks = h.marks ∙ g.marks;
  statements = h.statements ∙ g.statements;
  own = h.own ∙ g.own;
}

pub shorter : {a b : Reader} {m : Mark} → Skip a b m → length (rest b) + 1 ≡ length (rest a)
shorter {a} {b} {m} h = let x = front (rest a) (rest b) m h.seen h.rest_is in omega (arith, ap length x.1)

pub goes_skip : {a b : Reader} {m : Mark} → Skip a b m → Goes a b
goes_skip {a} {b} h =
    let n : vec_len b.plan.nodes ≡ vec_len a.plan.nodes = ap (λ p. vec_len p.nodes) h.plan_is in
    record {
      forth = omega (arith, shorter h);
      room = omega (arith, shorter h);
      more = omega arith;
      kept = λ x l. ap (λ p. get_or (trees (vec_items p.nodes)) x.index (number 0)) h.plan_is;
      marks = h.marks_is;
      statements = ap (λ p. p.statements) h.plan_is;
      own = ap (λ p. p.own) h.plan_is;
    }

-- a mark was passed over, so there is a place for a node
pub goes_join : {n : ℕ} {a b c e : Reader} {m : Mark} {t : Tree} {x : NodeId} → Skip a b m → Goes b c → Grew n c e t x → Goes a e
goes_join {a = a} {b = b} {c = c} {e = e} h g w =
    let f = goes_then (goes_skip h) g in
    let k : vec_len b.plan.nodes ≡ vec_len a.plan.nodes = ap (λ p. vec_len p.nodes) h.plan_is in
    record {
      forth = omega (arith, f.forth, ap length w.rest_is);
      room = omega (arith, shorter h, g.room, w.len, w.one, ap length w.rest_is);
      more = omega (arith, f.more, w.len);
      kept = λ y l. w.kept y (omega (arith, f.more)) ∙ f.kept y l;
      marks = w.marks_is ∙ f.marks;
      statements = w.statements_is ∙ f.statements;
      own = w.own_is ∙ f.own;
    }

pub grew : (a b : Reader) (n : Node) (x : NodeId) → x.index ≡ vec_len a.plan.nodes → b.marks ≡ a.marks → rest b ≡ rest a → vec_items b.plan.nodes ≡ vec_items a.plan.nodes ++ (n ∷ []) →
    vec_len b.plan.nodes ≡ vec_len a.plan.nodes + 1 → b.plan.statements ≡ a.plan.statements → b.plan.own ≡ a.plan.own → vec_len a.plan.nodes ≡ length (vec_items a.plan.nodes) →
    Grew 1 a b (tree_of (trees (vec_items a.plan.nodes)) n) x
grew a b n x u e f g l q o k =
    let ns = vec_items a.plan.nodes in
    record {
      rest_is = f;
      marks_is = e;
      statements_is = q;
      own_is = o;
      one = omega arith;
      len = l;
      kept = λ y h. ap (λ ms. get_or (trees ms) y.index (number 0)) g ∙ kept_push ns n y.index (omega (arith, k));
      inside_is = omega (arith, u, l);
      tree_is = ap (λ ms. get_or (trees ms) x.index (number 0)) g ∙ tree-push ns n x.index (sym k ∙ sym u);
    }

-- the same judgement where nothing but the table of nodes has changed
pub ask_grew : {n : ℕ} {a b : Reader} {t : Tree} {x : NodeId} (d p : ℕ) (s : State) → Grew n a b t x → ask a d p s ≡ ask b d p s
unfolding ask
ask_grew {a = a} {b = b} d p s w = ap (λ l. judge (ending a.marks.end) (deep d p) l s) (sym w.rest_is) ∙ ap (λ m. judge (ending m.end) (deep d p) (rest b) s) (sym w.marks_is)
