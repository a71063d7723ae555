-- Plans in tables, while they are read.
use Rattle.std.proofs.Common.{◌≡◌, ℕ, ◌+◌, ◌-◌, ◌*◌, ◌<◌, ◌≤◌, List, [], ◌∷◌, ◌++◌, length, get_or, set, sym, refl, ap, ◌∙◌, subst, append_assoc, append-nil, arith}
use Rattle.std.proofs.lemmas.List.{same_from_push, length_push}
use Rattle.language.specs.Limits.{needs, nodes}
use Rattle.language.specs.Plans.{Tree, Plan, done, again}
use Rattle.grammar.proofs.Acceptor.{Base, top, body, plain, add}
use Rattle.plan.specs.declared.repeats.OpenRepeat.{OpenRepeat}
use Rattle.plan.specs.declared.tree.Expression.{Expression}
use Rattle.plan.specs.declared.tree.Node.{Node}
use Rattle.plan.specs.declared.tree.Statement.{Statement}
use Rattle.plan.specs.declared.tree.Statement.TheVariants.{Let, Put, Repeat, End}
use Rattle.plan.specs.Trees.{tree_at}
use Rattle.plan.specs.Listing.{Means, Lists, no_more, a_let, a_put, a_repeat}
use Rattle.plan.specs.Tables.{roots}
use Rattle.plan.specs.Showing.{Prefix, Shows, at_top, in_repeat, doing, weigh, IsLine, Extends, with_body}

pub extends_refl : (ns : List Node) → Extends ns ns
extends_refl ns = record { more = omega arith; kept = λ x h. refl }

pub extends_then : {ns ms ls : List Node} → Extends ns ms → Extends ms ls → Extends ns ls
extends_then e f = record { more = omega (arith, e.more, f.more); kept = λ x h. f.kept x (omega (arith, e.more)) ∙ e.kept x h }

means_more : {ns ms : List Node} {x : Expression} {t : Tree} → Extends ns ms → Means ns x t → Means ms x t
means_more {x = x} e m = record { inside = omega (arith, m.inside, e.more); is = e.kept x.root m.inside ∙ m.is }

prefix_more : {ns ms : List Node} {ss : List Statement} {f : Plan → Plan} {n : ℕ} → Extends ns ms → Prefix ns ss f n → Prefix ms ss f n
prefix_more e P = record { lists = λ ls g rest p h. P.lists ls (extends_then e g) rest p h; costs = P.costs }

pub shows_more : {ns ms : List Node} {ss : List Statement} {n : ℕ} {os : List OpenRepeat} {K : Base} → Extends ns ms → Shows ns ss n os K → Shows ms ss n os K
shows_more e (at_top P) = at_top (prefix_more e P)
shows_more e (in_repeat S M o q r P) = in_repeat (shows_more e S) (means_more e M) o q r (prefix_more e P)

pub prefix_none : (ns : List Node) → Prefix ns [] plain 0
prefix_none ns = record { lists = λ ms e rest p h. h; costs = λ p. omega arith }

pub prefix_then : {ns : List Node} {ss bs : List Statement} {f g : Plan → Plan} {n k : ℕ} → Prefix ns ss f n → Prefix ns bs g k → Prefix ns (ss ++ bs) (λ p. f (g p)) (n + k)
prefix_then {ss = ss} {bs = bs} {f = f} {g = g} P Q = record {
  lists = λ ms e rest p h. subst (λ l. Lists ms l (f (g p))) (sym (append_assoc ss bs rest)) (P.lists ms e (bs ++ rest) (g p) (Q.lists ms e rest p h));
  costs = λ p. omega (arith, P.costs (g p), Q.costs p);
}

-- some lines more
pub shows-add : {ns : List Node} {ss bs : List Statement} {g : Plan → Plan} {n k : ℕ} {os : List OpenRepeat} {K : Base} → Shows ns ss n os K → Prefix ns bs g k → Shows ns (ss ++ bs) (n + k) os (add g K)
shows-add (at_top P) Q = at_top (prefix_then P Q)
shows-add {ns = ns} {bs = cs} {g = g} {k = k} (in_repeat {ss = ss} {bs = bs} {m = m} {x = x} {t = t} {f = f} {os = os} {K = K} S M o q r P) Q =
    let a : ss ++ (Repeat x 0 ∷ (bs ++ cs)) ≡ (ss ++ (Repeat x 0 ∷ bs)) ++ cs = sym (append_assoc ss (Repeat x 0 ∷ bs) cs) in
    let b : o.need + (m + k) ≡ (o.need + m) + k = omega arith in
    let h : Shows ns (ss ++ (Repeat x 0 ∷ (bs ++ cs))) (o.need + (m + k)) (os ++ (o ∷ [])) (body (λ p. f (g p)) t K) = in_repeat S M o q r (prefix_then P Q) in
    subst (λ l. Shows ns l ((o.need + m) + k) (os ++ (o ∷ [])) (body (λ p. f (g p)) t K)) a (subst (λ j. Shows ns (ss ++ (Repeat x 0 ∷ (bs ++ cs))) j (os ++ (o ∷ [])) (body (λ p. f (g p)) t K)) b h)

-- a LET or a PUT
pub line_prefix : (ns : List Node) (s : Statement) → IsLine s → roots s ≤ length ns → Prefix ns (s ∷ []) (doing ns s) (2 * weigh ns s + 2)
line_prefix ns (Let v x) i r = record {
  lists = λ ms e rest p h. a_let (record { inside = omega (arith, r, e.more); is = e.kept x.root (omega (arith, r)) }) h;
  costs = λ p. omega arith;
}
line_prefix ns (Put a x) i r = record {
  lists = λ ms e rest p h. a_put (record { inside = omega (arith, r, e.more); is = e.kept a.root (omega (arith, r)) }) (record { inside = omega (arith, r, e.more); is = e.kept x.root (omega (arith, r)) }) h;
  costs = λ p. omega arith;
}
line_prefix ns (Repeat x n) i r = absurd i
line_prefix ns (End n) i r = absurd i

-- a REPEAT that begins
pub shows_open : {ns : List Node} {ss : List Statement} {n : ℕ} {os : List OpenRepeat} {K : Base} (x : Expression) (o : OpenRepeat) → Shows ns ss n os K → x.root.index < length ns →
    o.statement ≡ length ss → o.need ≡ n + (2 * nodes (tree_at ns x.root) + 14) → Shows ns (ss ++ (Repeat x 0 ∷ [])) o.need (os ++ (o ∷ [])) (body plain (tree_at ns x.root) K)
shows_open {ns} {ss} {n} {os} {K} x o S l q r =
    let b : o.need + 0 ≡ o.need = omega arith in
    subst (λ j. Shows ns (ss ++ (Repeat x 0 ∷ [])) j (os ++ (o ∷ [])) (body plain (tree_at ns x.root) K)) b (in_repeat S (record { inside = l; is = refl }) o q r (prefix_none ns))

-- the newest open REPEAT
pub record Newest (ns : List Node) (ss : List Statement) (n : ℕ) (os : List OpenRepeat) (o : OpenRepeat) (K : Base) : Type 0 where
  pub before : List Statement
  pub within : List Statement
  pub spent : ℕ
  pub inner : ℕ
  pub count : Expression
  pub tree : Tree
  pub lines : Plan → Plan
  pub outer : Base
  pub shows : Shows ns before spent os outer
  pub means : Means ns count tree
  pub place : o.statement ≡ length before
  pub need : o.need ≡ spent + (2 * nodes tree + 14)
  pub prefix : Prefix ns within lines inner
  pub statements_is : ss ≡ before ++ (Repeat count 0 ∷ within)
  pub total_is : n ≡ o.need + inner
  pub base_is : K ≡ body lines tree outer

not_empty : {X : Type 0} (xs : List X) (x : X) → [] ≡ xs ++ (x ∷ []) → ⊥
not_empty xs x e = let z : 0 ≡ length xs + 1 = ap length e ∙ length_push xs x in omega arith

pub newest : {ns : List Node} {ss : List Statement} {n : ℕ} {os : List OpenRepeat} {K : Base} → Shows ns ss n os K → (ps : List OpenRepeat) (o : OpenRepeat) → os ≡ ps ++ (o ∷ []) → Newest ns ss n ps o K
newest (at_top P) ps o e = absurd (not_empty ps o e)
newest {ns = ns} (in_repeat {ss = ss} {bs = bs} {n = n} {m = m} {x = x} {t = t} {f = f} {os = os} {K = K} S M c q r P) ps o e =
    let h = same_from_push os ps c o e in
    record {
      before = ss;
      within = bs;
      spent = n;
      inner = m;
      count = x;
      tree = t;
      lines = f;
      outer = K;
      shows = subst (λ l. Shows ns ss n l K) h.0 S;
      means = M;
      place = ap (λ z. z.statement) (sym h.1) ∙ q;
      need = ap (λ z. z.need) (sym h.1) ∙ r;
      prefix = P;
      statements_is = refl;
      total_is = ap (λ z. z.need + m) h.1;
      base_is = refl;
    }

-- the table with the body written into the REPEAT
body_at : (ss bs : List Statement) (x : Expression) (n : ℕ) → with_body (get_or (ss ++ (Repeat x 0 ∷ bs)) (length ss) (End 0)) n ≡ Repeat x n
body_at [] bs x n = refl
body_at (s ∷ ss) bs x n = body_at ss bs x n

set_at : (ss bs : List Statement) (y z : Statement) → set (ss ++ (y ∷ bs)) (length ss) z ≡ ss ++ (z ∷ bs)
set_at [] bs y z = refl
set_at (s ∷ ss) bs y z = ap (λ l. s ∷ l) (set_at ss bs y z)

block : (ns : List Node) (x : Expression) (t : Tree) (f : Plan → Plan) (bs : List Statement) (m : ℕ) → Means ns x t → Prefix ns bs f m → Prefix ns (Repeat x m ∷ (bs ++ (End m ∷ []))) (again t (f done)) (2 * nodes t + 14 + m)
block ns x t f bs m M P = record {
  lists = λ ms e rest p h.
      subst (λ l. Lists ms (Repeat x m ∷ l) (again t (f done) p)) (sym (append_assoc bs (End m ∷ []) rest))
      (a_repeat (means_more e M) (subst (λ l. Lists ms l (f done)) (append-nil bs) (P.lists ms e [] done no_more)) (omega (arith, P.costs done)) h);
  costs = λ p. omega (arith, P.costs done);
}

-- what END makes of it
pub closed : {ns : List Node} {ss : List Statement} {n : ℕ} {os : List OpenRepeat} {o : OpenRepeat} {K : Base} (w : Newest ns ss n os o K) →
    Shows ns (set ss o.statement (with_body (get_or ss o.statement (End 0)) (n - o.need)) ++ (End (n - o.need) ∷ [])) n os (add (again w.tree (w.lines done)) w.outer)
closed {ns} {ss} {n} {os} {o} {K} w =
    let m = w.inner in
    let e : n - o.need ≡ m = omega (arith, w.total_is) in
    let B = w.before in
    let W = w.within in
    let x = w.count in
    let S : Shows ns (B ++ (Repeat x m ∷ (W ++ (End m ∷ [])))) (w.spent + (2 * nodes w.tree + 14 + m)) os (add (again w.tree (w.lines done)) w.outer) =
    shows-add w.shows (block ns x w.tree w.lines W m w.means w.prefix) in
    let total : w.spent + (2 * nodes w.tree + 14 + m) ≡ n = omega (arith, w.total_is, w.need) in
    let written : set ss o.statement (with_body (get_or ss o.statement (End 0)) (n - o.need)) ≡ B ++ (Repeat x m ∷ W) =
    ap (λ l. set l o.statement (with_body (get_or l o.statement (End 0)) (n - o.need))) w.statements_is
    ∙ ap (λ i. set (B ++ (Repeat x 0 ∷ W)) i (with_body (get_or (B ++ (Repeat x 0 ∷ W)) i (End 0)) (n - o.need))) w.place
    ∙ ap (set (B ++ (Repeat x 0 ∷ W)) (length B)) (body_at B W x (n - o.need))
    ∙ ap (λ j. set (B ++ (Repeat x 0 ∷ W)) (length B) (Repeat x j)) e
    ∙ set_at B W (Repeat x 0) (Repeat x m) in
    let list : B ++ (Repeat x m ∷ (W ++ (End m ∷ []))) ≡ set ss o.statement (with_body (get_or ss o.statement (End 0)) (n - o.need)) ++ (End (n - o.need) ∷ []) =
    sym (append_assoc B (Repeat x m ∷ W) (End m ∷ [])) ∙ ap (λ l. l ++ (End m ∷ [])) (sym written) ∙ ap (λ j. set ss o.statement (with_body (get_or ss o.statement (End 0)) (n - o.need)) ++ (End j ∷ [])) (sym e) in
    let T : Base = add (again w.tree (w.lines done)) w.outer in
    subst (λ l. Shows ns l n os T) list (subst (λ j. Shows ns (B ++ (Repeat x m ∷ (W ++ (End m ∷ [])))) j os T) total S)

-- no REPEAT is open
pub record Whole (ns : List Node) (ss : List Statement) (n : ℕ) (K : Base) : Type 0 where
  pub plan : Plan → Plan
  pub lists : Lists ns ss (plan done)
  pub needs_is : needs (plan done) ≡ n
  pub base_is : K ≡ top plan

pub whole : {ns : List Node} {ss : List Statement} {n : ℕ} {os : List OpenRepeat} {K : Base} → Shows ns ss n os K → os ≡ [] → Whole ns ss n K
whole {ns} {ss} (at_top {f = f} P) e = record {
  plan = f;
  lists = subst (λ l. Lists ns l (f done)) (append-nil ss) (P.lists ns (extends_refl ns) [] done no_more);
  needs_is = omega (arith, P.costs done);
  base_is = refl;
}
whole (in_repeat {os = os} S M o q r P) e = absurd (not_empty os o (sym e))
