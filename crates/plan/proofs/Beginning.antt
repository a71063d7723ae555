-- Where expressions begin, mark by mark.
use Rattle.std.proofs.Common.{◌≡◌, ℕ, zero, suc, ◌<◌, false, cond, List, [], ◌∷◌, ◌++◌, length, get_or, set, IfOk, None, Ok, Err, vec_items, Result, sym, refl, ap, ◌∙◌, append_assoc, append-nil, arith}
use Rattle.language.specs.Limits.{nodes}
use Rattle.language.specs.Plans.{Tree, number, variable, cell, node}
use Rattle.grammar.specs.Begins.{leads, next_byte, begins}
use Rattle.grammar.specs.declared.mark.Mark.{Mark}
use Rattle.grammar.specs.declared.mark.Mark.TheVariants as mark
use Rattle.grammar.specs.declared.mark.Placed.{Placed as At}
use Rattle.marks.specs.declared.fault.MarkFault.{MarkFault}
use Rattle.plan.specs.declared.fault.ReadFault.{ReadFault}
use Rattle.plan.specs.declared.reader.Reader.{Reader}
use Rattle.plan.specs.declared.tree.Expression.{Expression}
use Rattle.plan.specs.declared.tree.NodeId.{NodeId}
use Rattle.plan.specs.declared.tree.Statement.{Statement}
use Rattle.plan.specs.declared.tree.Statement.TheVariants.{Let, Put, Repeat, End}
use Rattle.plan.specs.Lining.{Placed, starts}
use Rattle.plan.specs.Reading.{rest, first, place_of, tree_in, led, Goes, Quiet, Counts, Grew}
use Rattle.plan.specs.Showing.{with_body}
use Rattle.plan.specs.Tables.{places}
use Rattle.plan.proofs.Steps.{Skip, front}

-- a mark was passed: the expression that it leads to, if it leads to one, comes first
pub skip_leads : {a b : Reader} {m : Mark} → Skip a b m → begins (rest a) ≡ led m (rest b) ++ begins (rest b)
skip_leads {a} {b} {m} h =
    let x = front (rest a) (rest b) m h.seen h.rest_is in
    ap begins x.1 ∙ ap (λ n. led n (rest b) ++ begins (rest b)) x.2

-- a mark was passed that leads to none
pub quiet_skip : {a b : Reader} {m : Mark} → Skip a b m → leads m ≡ false → Quiet a b
quiet_skip {a} {b} {m} h q = sym (skip_leads h ∙ ap (λ c. cond c (next_byte (rest b)) [] ++ begins (rest b)) q)

-- .. then a part was read, and a node made of it
pub quiet_join : {n : ℕ} {a b c e : Reader} {m : Mark} {t : Tree} {x : NodeId} → Skip a b m → leads m ≡ false → Quiet b c → Grew n c e t x → Quiet a e
quiet_join h l q w = ap begins w.rest_is ∙ q ∙ quiet_skip h l

-- an expression that was read has a first mark
some-nodes : (t : Tree) → 0 < nodes t
some-nodes (number n) = omega arith
some-nodes (variable v) = omega arith
some-nodes (cell e) = omega arith
some-nodes (node o e f) = omega arith

first_byte : (ps : List At) (z : Result ℕ MarkFault) (n : ℕ) → Ok n ≡ place_of ps z → 0 < length ps → next_byte ps ≡ n ∷ []
first_byte [] z n e h = absurd (omega (arith, h))
first_byte (p ∷ ps) z n e h = let q : p.place ≡ n = cc in ap (λ i. i ∷ []) q

pub place_is : {a b : Reader} (x : NodeId) (n : ℕ) → Goes a b → Counts a b (Ok x) → Ok n ≡ place_of (rest a) a.marks.end → next_byte (rest a) ≡ n ∷ []
place_is {a} {b} x n g c e = first_byte (rest a) a.marks.end n e (omega (arith, g.room, c, some-nodes (tree_in b x)))

-- the expressions of statements
places-append : (ss ts : List Statement) → places (ss ++ ts) ≡ places ss ++ places ts
places-append [] ts = refl
places-append (Let v e ∷ ss) ts = ap (λ l. e.place ∷ l) (places-append ss ts)
places-append (Put a e ∷ ss) ts = ap (λ l. a.place ∷ e.place ∷ l) (places-append ss ts)
places-append (Repeat e n ∷ ss) ts = ap (λ l. e.place ∷ l) (places-append ss ts)
places-append (End n ∷ ss) ts = places-append ss ts

places_cons : (s : Statement) (ss ts : List Statement) → places ss ≡ places ts → places (s ∷ ss) ≡ places (s ∷ ts)
places_cons (Let v e) ss ts q = ap (λ l. e.place ∷ l) q
places_cons (Put a e) ss ts q = ap (λ l. a.place ∷ e.place ∷ l) q
places_cons (Repeat e n) ss ts q = ap (λ l. e.place ∷ l) q
places_cons (End n) ss ts q = q

places_body : (s : Statement) (ss : List Statement) (n : ℕ) → places (with_body s n ∷ ss) ≡ places (s ∷ ss)
places_body (Let v e) ss n = refl
places_body (Put a e) ss n = refl
places_body (Repeat e m) ss n = refl
places_body (End m) ss n = refl

places-set : (ss : List Statement) (i n : ℕ) → places (set ss i (with_body (get_or ss i (End 0)) n)) ≡ places ss
places-set [] i n = refl
places-set (s ∷ ss) zero n = places_body s ss n
places-set (s ∷ ss) (suc i) n = places_cons s (set ss i (with_body (get_or ss i (End 0)) n)) ss (places-set ss i n)

-- a statement more
push-starts : (ss : List Statement) (s : Statement) (xs ys : List ℕ) → xs ≡ places (s ∷ []) ++ ys → places (ss ++ (s ∷ [])) ++ ys ≡ places ss ++ xs
push-starts ss s xs ys e = ap (λ l. l ++ ys) (places-append ss (s ∷ [])) ∙ append_assoc (places ss) (places (s ∷ [])) ys ∙ ap (λ l. places ss ++ l) (sym e)

pub laid_starts : (a b z : Reader) (s : Statement) → b.plan.statements ≡ a.plan.statements → vec_items z.plan.statements ≡ vec_items b.plan.statements ++ (s ∷ []) → rest z ≡ rest b →
    begins (rest a) ≡ places (s ∷ []) ++ begins (rest b) → starts z ≡ starts a
laid_starts a b z s k i r e =
    ap (λ l. places (vec_items z.plan.statements) ++ begins l) r ∙ ap (λ l. places l ++ begins (rest b)) i ∙ push-starts (vec_items b.plan.statements) s (begins (rest a)) (begins (rest b)) e
    ∙ ap (λ v. places (vec_items v) ++ begins (rest a)) k

pub ended-starts : (a b z : Reader) (i n : ℕ) → b.plan ≡ a.plan → vec_items z.plan.statements ≡ set (vec_items b.plan.statements) i (with_body (get_or (vec_items b.plan.statements) i (End 0)) n) ++ (End n ∷ []) → rest z ≡ rest b →
    Quiet a b → starts z ≡ starts a
ended-starts a b z i n k e r q =
    let ss = vec_items b.plan.statements in
    let ts = set ss i (with_body (get_or ss i (End 0)) n) in
    ap (λ l. places (vec_items z.plan.statements) ++ begins l) r ∙ ap (λ l. places l ++ begins (rest b)) e ∙ push-starts ts (End n) (begins (rest b)) (begins (rest b)) refl ∙ ap (λ l. l ++ begins (rest b)) (places-set ss i n)
    ∙ ap (λ p. places (vec_items p.statements) ++ begins (rest b)) k ∙ ap (λ l. places (vec_items a.plan.statements) ++ l) q

-- a PUT, before its first mark
pub behind-put : {a b : Reader} (c : Reader) → Skip a b mark.Put → (x : Result Statement ReadFault) → IfOk x (λ s. Placed (next_byte (rest b)) b c s) → IfOk x (λ s. Placed [] a c s)
behind-put c k (Ok s) h = skip_leads k ∙ h
behind-put c k (Err e) h = tt

-- a REPEAT: a stands before it, b behind its first mark, c behind its line, z with its entry
pub repeat_starts : (a b c z : Reader) (x : Expression) → Skip a b mark.Repeat → c.plan.statements ≡ b.plan.statements → vec_items z.plan.statements ≡ vec_items c.plan.statements ++ (Repeat x 0 ∷ []) → rest z ≡ rest c →
    next_byte (rest b) ≡ x.place ∷ [] → Quiet b c → starts z ≡ starts a
repeat_starts a b c z x k g i r n q =
    laid_starts a c z (Repeat x 0) (g ∙ ap (λ p. p.statements) k.plan_is) i r (skip_leads k ∙ ap (λ l. l ++ begins (rest b)) n ∙ ap (λ l. x.place ∷ l) (sym q))

-- behind the last mark
no_begins : (ps : List At) → None ≡ first ps → begins ps ≡ []
no_begins [] e = refl
no_begins (p ∷ ps) e = absurd cc

pub all_placed : (a : Reader) → None ≡ first (rest a) → places (vec_items a.plan.statements) ≡ starts a
all_placed a e = sym (ap (λ l. places (vec_items a.plan.statements) ++ l) (no_begins (rest a) e) ∙ append-nil (places (vec_items a.plan.statements)))
