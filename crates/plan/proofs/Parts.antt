-- What each reader says, put together from what its parts say. `a` stands before a mark, `b` behind it, `c` behind the part read then, `e` with the new node.
use Rattle.std.proofs.Common.{◌≡◌, ℕ, suc, ◌+◌, ◌<◌, ◌≤◌, Some, None, Ok, vec_len, Option, Result, sym, refl, ap, ◌∙◌, subst, add-one, arith, ltb→lt, lt→ltb}
use Rattle.isa.specs.declared.kinds.Arithmetic.{Arithmetic}
use Rattle.isa.specs.declared.kinds.Arithmetic.TheVariants.{Add, Sub, Mul, Lt}
use Rattle.grammar.specs.declared.mark.Bracket.{Bracket}
use Rattle.grammar.specs.declared.mark.Mark.TheVariants.{Number, Variable, Operator, Open}
use Rattle.language.specs.Plans.{Tree, number, variable, node}
use Rattle.grammar.specs.declared.variable.Variable.{Variable as Letter}
use Rattle.grammar.specs.Verdict.{Judgement}
use Rattle.grammar.proofs.Acceptor.{Left, nothing, below, Hole, inside, State, want, have, full, step, to, same, bracketed}
use Rattle.plan.specs.declared.reader.Reader.{Reader}
use Rattle.plan.specs.declared.tree.NodeId.{NodeId}
use Rattle.plan.specs.declared.fault.ReadFault.{ReadFault}
use Rattle.language.specs.Limits.{nodes}
use Rattle.plan.specs.Reading.{rest, first, tree_in, operator, sign, Goes, Grew, wrapped, Counts, ask, tell, StopsAt, not_star, only_less, Exceeded, FactorSays, TermSays, SumSays, ExprSays}
use Rattle.plan.proofs.Steps.{Skip, pass, exceeded, settle, fill, ends, ask_grew, goes_skip, goes_then}

-- after the new node
renamed : {n : ℕ} {c e : Reader} {t u : Tree} {i : NodeId} (d p : ℕ) (f : Tree → State) → Grew n c e t i → t ≡ u → ask c d p (f u) ≡ ask e d p (f (tree_in e i))
renamed {e = e} {u = u} d p f w q = ask_grew d p (f u) w ∙ ap (λ x. ask e d p (f x)) (sym (w.tree_is ∙ q))

pub number_read : {a b e : Reader} {n : ℕ} {i : NodeId} (d : ℕ) → Skip a b (Number n) → Grew 1 b e (number n) i → FactorSays a e d (Ok i)
number_read {a} {b} {n = n} d h w p l S M k = pass a b d p d p (want l S M k) (have l S (M (number n)) k) _ h refl tt refl ∙ renamed d p (λ t. have l S (M t) k) w refl

pub variable-read : {a b e : Reader} {v : Letter} {i : NodeId} (d : ℕ) → Skip a b (Variable v) → Grew 1 b e (variable v.number) i → FactorSays a e d (Ok i)
variable-read {a} {b} {v = v} d h w p l S M k = pass a b d p d p (want l S M k) (have l S (M (variable v.number)) k) _ h refl tt refl ∙ renamed d p (λ t. have l S (M t) k) w refl

pub limit_met : {A : Type 0} (a : Reader) (d : ℕ) (c : Bracket) (x : Result A ReadFault) (g : A → Judgement) → Exceeded (rest a) a.marks.end x → Some (Open c) ≡ first (rest a) → 16 ≤ d →
    (p : ℕ) (l : Left) (S M : Tree → Tree) (k : Hole) → ask a d p (want l S M k) ≡ tell x g
limit_met a d c x g q e h p l S M k = exceeded a d p (want l S M k) (want nothing same same (inside c l S M k)) (Open c) x g q e refl λ t. omega (arith, ltb→lt d 16 t)

-- behind an opening bracket
opened : {a b : Reader} {c : Bracket} (d : ℕ) → d < 16 → Skip a b (Open c) → (p : ℕ) (l : Left) (S M : Tree → Tree) (k : Hole) →
    ask a d p (want l S M k) ≡ ask b (d + 1) p (want nothing same same (inside c l S M k))
opened {a} {b} {c} d h s p l S M k =
    pass a b d p (suc d) p (want l S M k) (want nothing same same (inside c l S M k)) (Open c) s refl (lt→ltb d 16 h) refl
    ∙ ap (λ n. ask b n p (want nothing same same (inside c l S M k))) (sym (add-one d))

pub opened-fault : {a b : Reader} {o : Bracket} {j : Judgement} (d : ℕ) → d < 16 → Skip a b (Open o) → ((p : ℕ) (k : Hole) → ask b (d + 1) p (want nothing same same k) ≡ j) →
    (p : ℕ) (l : Left) (S M : Tree → Tree) (k : Hole) → ask a d p (want l S M k) ≡ j
opened-fault {o = o} d h s g p l S M k = opened d h s p l S M k ∙ g p (inside o l S M k)

-- behind the expression in a bracket
behind : {a b : Reader} {o : Bracket} (c : Reader) (i : NodeId) (d : ℕ) → d < 16 → Skip a b (Open o) → ExprSays b c (d + 1) (Ok i) → (p : ℕ) (l : Left) (S M : Tree → Tree) (k : Hole) →
    ask a d p (want l S M k) ≡ ask c (suc d) p (full (tree_in c i) (inside o l S M k))
behind {o = o} c i d h s g p l S M k = opened d h s p l S M k ∙ g p (inside o l S M k) ∙ ap (λ n. ask c n p (full (tree_in c i) (inside o l S M k))) (add-one d)

pub unclosed : {a b : Reader} {o : Bracket} {j : Judgement} (c : Reader) (i : NodeId) (d : ℕ) → d < 16 → Skip a b (Open o) → ExprSays b c (d + 1) (Ok i) →
    ((d p : ℕ) (l : Left) (S M : Tree → Tree) (t : Tree) (k : Hole) → ask c (suc d) p (full t (inside o l S M k)) ≡ j) → (p : ℕ) (l : Left) (S M : Tree → Tree) (k : Hole) → ask a d p (want l S M k) ≡ j
unclosed c i d h s g q p l S M k = behind c i d h s g p l S M k ∙ q d p l S M (tree_in c i) k

pub bracket_read : {a b c e f : Reader} {o : Bracket} {j : NodeId} (i : NodeId) (d : ℕ) → d < 16 → Skip a b (Open o) → ExprSays b c (d + 1) (Ok i) → i.index < vec_len c.plan.nodes → Goes c e →
    ((d p : ℕ) (l : Left) (S M : Tree → Tree) (t : Tree) (k : Hole) → ask c (suc d) p (full t (inside o l S M k)) ≡ ask e d p (have l S (M (bracketed o t)) k)) → Grew (wrapped o) e f (bracketed o (tree_in e i)) j → FactorSays a f d (Ok j)
bracket_read {c = c} {o = o} i d h s g n r q w p l S M k =
    behind c i d h s g p l S M k ∙ q d p l S M (tree_in c i) k ∙ renamed d p (λ t. have l S (M t) k) w (ap (bracketed o) (r.kept i n))

-- behind an operator, and behind the operand that follows it
module _ {a b : Reader} {m : Arithmetic} (left : NodeId) (h : Skip a b (Operator m)) (n : left.index < vec_len a.plan.nodes) where
  node_is : {c e : Reader} {i : NodeId} (right : NodeId) → Goes b c → Grew 1 c e (node m (tree_in c left) (tree_in c right)) i → node m (tree_in c left) (tree_in c right) ≡ node m (tree_in a left) (tree_in c right)
  node_is {c = c} right g w = ap (λ t. node m t (tree_in c right)) ((goes_then (goes_skip h) g).kept left n)

times-start : {a b : Reader} (left : NodeId) (d : ℕ) → Skip a b (Operator Mul) → (p : ℕ) (l : Left) (S : Tree → Tree) (k : Hole) →
    ask a d p (have l S (tree_in a left) k) ≡ ask b d p (want l S (node Mul (tree_in a left)) k)
times-start {a} {b} left d h p l S k = pass a b d p d p (have l S (tree_in a left) k) (want l S (node Mul (tree_in a left)) k) _ h refl tt refl

pub times-read : {a b c e : Reader} {i : NodeId} (left right : NodeId) (d : ℕ) → Skip a b (Operator Mul) → left.index < vec_len a.plan.nodes → Goes b c → FactorSays b c d (Ok right) →
    Grew 1 c e (node Mul (tree_in c left) (tree_in c right)) i → (p : ℕ) (l : Left) (S : Tree → Tree) (k : Hole) → ask a d p (have l S (tree_in a left) k) ≡ ask e d p (have l S (tree_in e i) k)
times-read {a} left right d h n g q w p l S k =
    times-start left d h p l S k ∙ q p l S (node Mul (tree_in a left)) k ∙ renamed d p (λ t. have l S t k) w (node_is left h n right g w)

pub times-fault : {a b : Reader} {j : Judgement} (left : NodeId) (d : ℕ) → Skip a b (Operator Mul) → ((p : ℕ) (l : Left) (S M : Tree → Tree) (k : Hole) → ask b d p (want l S M k) ≡ j) →
    (p : ℕ) (l : Left) (S : Tree → Tree) (k : Hole) → ask a d p (have l S (tree_in a left) k) ≡ j
times-fault {a} left d h q p l S k = times-start left d h p l S k ∙ q p l S (node Mul (tree_in a left)) k

-- + and - alike
pub data IsSign : Arithmetic → Type 0 where
  is_add : IsSign Add
  is_sub : IsSign Sub

pub signs : (q : Option Arithmetic) (o : Arithmetic) → Some o ≡ sign q → (Some o ≡ q) × IsSign o
signs None o e = absurd cc
signs (Some Add) o e = let k : Add ≡ o = cc in (ap Some (sym k), subst IsSign k is_add)
signs (Some Sub) o e = let k : Sub ≡ o = cc in (ap Some (sym k), subst IsSign k is_sub)
signs (Some Mul) o e = absurd cc
signs (Some Lt) o e = absurd cc

sign-step : {o : Arithmetic} → IsSign o → (l : Left) (t : Tree) (k : Hole) → step (have l same t k) (Operator o) ≡ to (want l (node o t) same k)
sign-step is_add l t k = refl
sign-step is_sub l t k = refl

sign-start : {a b : Reader} {o : Arithmetic} (left : NodeId) (d : ℕ) → IsSign o → Skip a b (Operator o) → (p : ℕ) (l : Left) (k : Hole) →
    ask a d p (have l same (tree_in a left) k) ≡ ask b d p (want l (node o (tree_in a left)) same k)
sign-start {a} {b} {o} left d z h p l k = pass a b d p d p (have l same (tree_in a left) k) (want l (node o (tree_in a left)) same k) _ h (sign-step z l (tree_in a left) k) tt refl

pub sign_read : {a b c e : Reader} {o : Arithmetic} {i : NodeId} (left right : NodeId) (d : ℕ) → IsSign o → Skip a b (Operator o) → left.index < vec_len a.plan.nodes → Goes b c → TermSays b c d (Ok right) →
    StopsAt not_star (operator (first (rest c))) → Grew 1 c e (node o (tree_in c left) (tree_in c right)) i → (p : ℕ) (l : Left) (k : Hole) →
    ask a d p (have l same (tree_in a left) k) ≡ ask e d p (have l same (tree_in e i) k)
sign_read {a} {c = c} {o = o} left right d z h n g q s w p l k =
    sign-start left d z h p l k ∙ q p l (node o (tree_in a left)) k ∙ settle c d p l (node o (tree_in a left)) (tree_in c right) k s ∙ renamed d p (λ t. have l same t k) w (node_is left h n right g w)

pub sign-fault : {a b : Reader} {o : Arithmetic} {j : Judgement} (left : NodeId) (d : ℕ) → IsSign o → Skip a b (Operator o) → ((p : ℕ) (l : Left) (S : Tree → Tree) (k : Hole) → ask b d p (want l S same k) ≡ j) →
    (p : ℕ) (l : Left) (k : Hole) → ask a d p (have l same (tree_in a left) k) ≡ j
sign-fault {a} {o = o} left d z h q p l k = sign-start left d z h p l k ∙ q p l (node o (tree_in a left)) k

less-start : {a b : Reader} (left : NodeId) (d : ℕ) → Skip a b (Operator Lt) → (p : ℕ) (k : Hole) → ask a d p (have nothing same (tree_in a left) k) ≡ ask b d p (want (below (tree_in a left)) same same k)
less-start {a} {b} left d h p k = pass a b d p d p (have nothing same (tree_in a left) k) (want (below (tree_in a left)) same same k) _ h refl tt refl

only_ends : (u : Tree) (o : Arithmetic) → only_less o → ends (below u) o
only_ends u Add h = h
only_ends u Sub h = h
only_ends u Mul h = h
only_ends u Lt h = h

stops-more : (P Q : Arithmetic → Type 0) → ((o : Arithmetic) → P o → Q o) → (x : Option Arithmetic) → StopsAt P x → StopsAt Q x
stops-more P Q f None h = tt
stops-more P Q f (Some o) h = f o h

pub less-read : {a b c e : Reader} {i : NodeId} (left right : NodeId) (d : ℕ) → Skip a b (Operator Lt) → left.index < vec_len a.plan.nodes → Goes b c → SumSays b c d (Ok right) →
    StopsAt only_less (operator (first (rest c))) → Grew 1 c e (node Lt (tree_in c left) (tree_in c right)) i → (p : ℕ) (k : Hole) →
    ask a d p (have nothing same (tree_in a left) k) ≡ ask e d p (full (tree_in e i) k)
less-read {a} {c = c} left right d h n g q s w p k =
    less-start left d h p k ∙ q p (below (tree_in a left)) k
    ∙ fill c d p (below (tree_in a left)) same (tree_in c right) k (stops-more only_less (ends (below (tree_in a left))) (only_ends (tree_in a left)) (operator (first (rest c))) s)
    ∙ renamed d p (λ t. full t k) w (node_is left h n right g w)

pub less-fault : {a b : Reader} {j : Judgement} (left : NodeId) (d : ℕ) → Skip a b (Operator Lt) → ((p : ℕ) (l : Left) (k : Hole) → ask b d p (want l same same k) ≡ j) → (p : ℕ) (k : Hole) → ask a d p (have nothing same (tree_in a left) k) ≡ j
less-fault {a} left d h q p k = less-start left d h p k ∙ q p (below (tree_in a left)) k

-- the entries of a part are its nodes
pub counts-node : {a b c e : Reader} {m : Arithmetic} {i : NodeId} (left right : NodeId) → Skip a b (Operator m) → left.index < vec_len a.plan.nodes → Goes b c → Counts b c (Ok right) →
    Grew 1 c e (node m (tree_in c left) (tree_in c right)) i → vec_len e.plan.nodes + nodes (tree_in a left) ≡ vec_len a.plan.nodes + nodes (tree_in e i)
counts-node left right h n g q w =
    omega (arith, ap (λ p. vec_len p.nodes) h.plan_is, q, w.len, ap nodes w.tree_is, ap nodes ((goes_then (goes_skip h) g).kept left n))
