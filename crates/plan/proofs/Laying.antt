-- Lines laid into the tables.
use Rattle.std.proofs.Common.{◌≡◌, ℕ, ◌+◌, ◌-◌, ◌*◌, ◌<◌, ◌≤◌, List, [], ◌∷◌, ◌++◌, length, get_or, set, Some, Ok, Err, vec_items, vec_len, Result as Res, sym, refl, ap, ◌∙◌, subst, arith}
use Rattle.std.proofs.lemmas.List.{length_push}
use Rattle.language.specs.Limits.{nodes}
use Rattle.language.specs.Plans.{done, again}
use Rattle.stack.specs.declared.slots.Stack.{Stack}
use Rattle.stack.specs.Items.{items, room, Pushed}
use Rattle.grammar.specs.declared.mark.Mark.TheVariants as mark
use Rattle.grammar.specs.Verdict.{Judgement}
use Rattle.grammar.proofs.Acceptor.{Base, body, plain, add, State, line, over}
use Rattle.grammar.proofs.Judge.{judge}
use Rattle.plan.specs.declared.fault.ReadFault.{ReadFault}
use Rattle.plan.specs.declared.reader.Reader.{Reader}
use Rattle.plan.specs.declared.repeats.OpenRepeat.{OpenRepeat}
use Rattle.plan.specs.declared.tree.Expression.{Expression}
use Rattle.plan.specs.declared.tree.Statement.{Statement}
use Rattle.plan.specs.declared.tree.Statement.TheVariants.{Let, Put, Repeat, End}
use Rattle.marks.specs.Endings.{ending}
use Rattle.plan.specs.Plans.{spent}
use Rattle.plan.specs.Reading.{rest, first, tree_in, deep, ask, tell, Refused, Goes}
use Rattle.plan.specs.Tables.{own, roots}
use Rattle.plan.specs.Showing.{Shows, IsLine, doing, weigh, Extends, with_body}
use Rattle.plan.specs.Lining.{Begun, Laid, CountSays, LineEnds, Ends, ShowsIn, Told}
use Rattle.plan.proofs.Steps.{Skip}
use Rattle.plan.proofs.Lines.{repeat_passed, end_passed, end_refused, over-ends}
use Rattle.plan.proofs.Listed.{shows_more, shows-add, line_prefix, shows_open, newest, closed, whole}

-- the judgement does not look at the tables
pub ask-same : (a b : Reader) (d p : ℕ) (s : State) → b.marks ≡ a.marks → rest b ≡ rest a → ask a d p s ≡ ask b d p s
unfolding ask
ask-same a b d p s e f = ap (λ l. judge (ending a.marks.end) (deep d p) l s) (sym f) ∙ ap (λ m. judge (ending m.end) (deep d p) (rest b) s) (sym e)

pub extends : {a b : Reader} → Goes a b → Extends (vec_items a.plan.nodes) (vec_items b.plan.nodes)
extends {a} {b} g = record {
  more = omega (arith, g.more, a.plan.nodes.ok.0, b.plan.nodes.ok.0);
  kept = λ x h. g.kept x (omega (arith, h, a.plan.nodes.ok.0));
}

pub pushed_ok : {U : Type 0} (s t : Stack OpenRepeat) (x : OpenRepeat) (r : Res U OpenRepeat) → Pushed s t x r → length (items s) < 4 → room s ≡ 4 → items t ≡ items s ++ (x ∷ [])
pushed_ok s t x (Ok u) e l q = e
pushed_ok s t x (Err y) e l q = absurd (omega (arith, e.2, l, q))

-- a LET or a PUT was laid: a stands before it, b behind it, z with its entry
module _ (a b z : Reader) (s : Statement) (g : Goes a b) (h : Laid a b s) (nodes-is : z.plan.nodes ≡ b.plan.nodes)
    (statements_is : vec_items z.plan.statements ≡ vec_items b.plan.statements ++ (s ∷ [])) (own_is : z.plan.own ≡ b.plan.own + own s) where
  line_own : (s : Statement) → IsLine s → own s ≡ 2
  line_own (Let v x) i = refl
  line_own (Put y x) i = refl
  line_own (Repeat x n) i = absurd i
  line_own (End n) i = absurd i

  pub laid_shows : {os : List OpenRepeat} {K : Base} → ShowsIn a os K → ShowsIn z os (add (doing (vec_items b.plan.nodes) s) K)
  laid_shows {os} {K} S =
      let ns = vec_items b.plan.nodes in
      let L : Base = add (doing ns s) K in
      let r : roots s ≤ length ns = omega (arith, h.inside, b.plan.nodes.ok.0) in
      let T : Shows ns (vec_items a.plan.statements ++ (s ∷ [])) (spent a.plan + (2 * weigh ns s + 2)) os L = shows-add (shows_more (extends g) S) (line_prefix ns s h.is_line r) in
      let lists : vec_items a.plan.statements ++ (s ∷ []) ≡ vec_items z.plan.statements = ap (λ v. vec_items v ++ (s ∷ [])) (sym g.statements) ∙ sym statements_is in
      let n : vec_len z.plan.nodes ≡ vec_len b.plan.nodes = ap vec_len nodes-is in
      let cost : spent a.plan + (2 * weigh ns s + 2) ≡ spent z.plan = omega (arith, n, h.counts, own_is, g.own, line_own s h.is_line) in
      subst (λ v. Shows (vec_items v) (vec_items z.plan.statements) (spent z.plan) os L) (sym nodes-is)
      (subst (λ j. Shows ns (vec_items z.plan.statements) j os L) cost (subst (λ l. Shows ns l (spent a.plan + (2 * weigh ns s + 2)) os L) lists T))

-- a REPEAT was opened: a stands before it, b behind its first mark, c behind its line, z with its entry
module _ (a b c z : Reader) (x : Expression) (o : OpenRepeat) (k : Skip a b mark.Repeat) (g : Goes b c) (h : Begun b c x) (nodes-is : z.plan.nodes ≡ c.plan.nodes)
    (statements_is : vec_items z.plan.statements ≡ vec_items c.plan.statements ++ (Repeat x 0 ∷ [])) (own_is : z.plan.own ≡ c.plan.own + 14)
    (entry : o.statement ≡ vec_len c.plan.statements) (need : o.need ≡ spent z.plan) where
  pub opened_shows : {os : List OpenRepeat} {K : Base} → ShowsIn a os K → ShowsIn z (os ++ (o ∷ [])) (body plain (tree_in c x.root) K)
  opened_shows {os} {K} S =
      let ns = vec_items c.plan.nodes in
      let t = tree_in c x.root in
      let B : ShowsIn b os K = subst (λ p. Shows (vec_items p.nodes) (vec_items p.statements) (spent p) os K) (sym k.plan_is) S in
      let C : Shows ns (vec_items c.plan.statements) (spent b.plan) os K = subst (λ v. Shows ns (vec_items v) (spent b.plan) os K) (sym g.statements) (shows_more (extends g) B) in
      let l : x.root.index < length ns = omega (arith, h.inside, c.plan.nodes.ok.0) in
      let q : o.statement ≡ length (vec_items c.plan.statements) = entry ∙ c.plan.statements.ok.0 in
      let n : vec_len z.plan.nodes ≡ vec_len c.plan.nodes = ap vec_len nodes-is in
      let r : o.need ≡ spent b.plan + (2 * nodes t + 14) = omega (arith, need, n, h.counts, own_is, g.own) in
      let T : Shows ns (vec_items c.plan.statements ++ (Repeat x 0 ∷ [])) o.need (os ++ (o ∷ [])) (body plain t K) = shows_open x o C l q r in
      subst (λ v. Shows (vec_items v) (vec_items z.plan.statements) (spent z.plan) (os ++ (o ∷ [])) (body plain t K)) (sym nodes-is)
      (subst (λ j. Shows ns (vec_items z.plan.statements) j (os ++ (o ∷ [])) (body plain t K)) need (subst (λ y. Shows ns y o.need (os ++ (o ∷ [])) (body plain t K)) (sym statements_is) T))

  pub opened_told : {T : Type 0} (u : T) (d : ℕ) (os qs : List OpenRepeat) → length os < 4 → qs ≡ os ++ (o ∷ []) → CountSays b c d (Ok x) → z.marks ≡ c.marks → rest z ≡ rest c → (K : Base) → ShowsIn a os K → Told a z d os qs K (Ok u)
  opened_told u d os qs l e says m r K S =
      let t = tree_in c x.root in
      let n : length os + 1 ≡ length qs = sym (ap length e ∙ length_push os o) in (
        body plain t K,
        subst (λ y. ShowsIn z y (body plain t K)) (sym e) (opened_shows S),
        repeat_passed d (length os) K l k ∙ says (length os + 1) K ∙ ask-same c z d (length os + 1) _ m r ∙ ap (λ y. ask z d y (line (body plain t K))) n,
      )

-- an END: a stands before it, b behind its first mark, c behind its line, z with its entry
module _ (a b c z : Reader) (o : OpenRepeat) (k : Skip a b mark.End) (same : c.plan ≡ b.plan) (nodes-is : z.plan.nodes ≡ c.plan.nodes)
    (statements_is : vec_items z.plan.statements ≡ set (vec_items c.plan.statements) o.statement (with_body (get_or (vec_items c.plan.statements) o.statement (End 0)) (spent c.plan - o.need)) ++ (End (spent c.plan - o.need) ∷ []))
    (own_is : z.plan.own ≡ c.plan.own) where
  plan_is : c.plan ≡ a.plan
  plan_is = same ∙ k.plan_is

  pub ended_told : {T : Type 0} (u : T) (d : ℕ) (os qs : List OpenRepeat) → os ≡ qs ++ (o ∷ []) → LineEnds b c (Ok u) → z.marks ≡ c.marks → rest z ≡ rest c → (K : Base) → ShowsIn a os K → Told a z d os qs K (Ok u)
  ended_told u d os qs e says m r K S =
      let C : ShowsIn c os K = subst (λ p. Shows (vec_items p.nodes) (vec_items p.statements) (spent p) os K) (sym plan_is) S in
      let v = newest C qs o e in
      let L : Base = add (again v.tree (v.lines done)) v.outer in
      let n : length os ≡ length qs + 1 = ap length e ∙ length_push qs o in
      let j : vec_len z.plan.nodes ≡ vec_len c.plan.nodes = ap vec_len nodes-is in
      let cost : spent c.plan ≡ spent z.plan = omega (arith, j, own_is) in
      let T₀ = closed v in
      let T₁ = subst (λ l. Shows (vec_items c.plan.nodes) l (spent c.plan) qs L) (sym statements_is) T₀ in
      let T₂ = subst (λ i. Shows (vec_items c.plan.nodes) (vec_items z.plan.statements) i qs L) cost T₁ in (
        L,
        subst (λ y. Shows (vec_items y) (vec_items z.plan.statements) (spent z.plan) qs L) (sym nodes-is) T₂,
        ap (λ i. ask a d i (line K)) n ∙ ap (λ B. ask a d (length qs + 1) (line B)) v.base_is ∙ end_passed d (length qs) v.lines v.tree v.outer k ∙ says d (length qs) (over L) L (over-ends L) ∙ ask-same c z d (length qs) (line L) m r,
      )

-- END without an open REPEAT
pub end_none : {T : Type 0} (a : Reader) (d : ℕ) (os : List OpenRepeat) (x : Res T ReadFault) (g : T → Judgement) → Refused (rest a) a.marks.end x → Some mark.End ≡ first (rest a) → os ≡ [] → (K : Base) → ShowsIn a os K → ask a d (length os) (line K) ≡ tell x g
end_none a d os x g h seen e K S = let w = whole S e in ap (λ B. ask a d (length os) (line B)) w.base_is ∙ end_refused a d (length os) w.plan x g h seen

-- END with something behind it
pub end-fault : (a b : Reader) (o : OpenRepeat) → Skip a b mark.End → {j : Judgement} (d : ℕ) (os qs : List OpenRepeat) → os ≡ qs ++ (o ∷ []) → ((p : ℕ) (s : State) (L : Base) → Ends s L → ask b d p s ≡ j) → (K : Base) → ShowsIn a os K → ask a d (length os) (line K) ≡ j
end-fault a b o k d os qs e says K S =
    let v = newest S qs o e in
    let L : Base = add (again v.tree (v.lines done)) v.outer in
    let n : length os ≡ length qs + 1 = ap length e ∙ length_push qs o in
    ap (λ i. ask a d i (line K)) n ∙ ap (λ B. ask a d (length qs + 1) (line B)) v.base_is ∙ end_passed d (length qs) v.lines v.tree v.outer k ∙ says (length qs) (over L) L (over-ends L)
