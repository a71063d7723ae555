-- The verdict on a text, from what the reader, the widths and the counts say.
use Rattle.std.proofs.Common.{◌≡◌, ℕ, ◌<◌, ◌≤◌, true, false, ◌||◌, ltb, ◌⊎◌, List, map, length, take, Some, None, vec_items, sym, refl, ◌∙◌, subst, inl, inr, arith}
use Rattle.std.proofs.lemmas.List.{take_all}
use Rattle.std.proofs.lemmas.Bool.{ltb-true, ltb-false, or_cases, or_parts}
use Rattle.language.specs.Limits.{widest, need, repeats}
use Rattle.grammar.specs.declared.mark.Mark.{Mark}
use Rattle.grammar.specs.declared.mark.Mark.TheVariants.{Let, Put, Repeat, End, LineEnd, Number, Variable, Operator, Open, Close, Comma, Equals}
use Rattle.grammar.specs.declared.mark.Placed.{Placed}
use Rattle.grammar.specs.Begins.{begins}
use Rattle.grammar.specs.Verdict.{marks, Ending}
use Rattle.grammar.proofs.Limiting.{Word, Words, limited}
use Rattle.plan.specs.declared.fault.ReadFault.{ReadFault}
use Rattle.plan.specs.declared.fault.ReadFault.TheVariants as fault
use Rattle.plan.specs.declared.fault.Layer.TheVariants.{Builder}
use Rattle.plan.specs.declared.tables.Plan.{Plan as Tables}
use Rattle.plan.specs.Faults as read
use Rattle.plan.specs.Plans.{needed}
use Rattle.plan.specs.Reads.{Accepted, Faulty}
use Rattle.marks.specs.Spelling.{Spells, Scanned, at_end, at_blank, at_mark, at_strange}
use Rattle.plan.specs.Tables.{all_parts}
use Rattle.compiler.specs.Compiling.{Ready}
use Rattle.compiler.specs.Deciding.{finder, FirstWide, refused, too_wide, too_large, compiles, Decided, unread, read as decided-by}
use Rattle.compiler.specs.Emitting.{tree_of}
use Rattle.compiler.specs.Widths.{Measured, first_wide, widest_of}
use Rattle.compiler.proofs.Weighing.{AllNarrow, widest-low, all_inside, expressions_are, wide_is, none_wide, widest_is}

-- the numbers of a text are words
spelled : (m : Mark) (s : List ℕ) → Spells s m → Word m
spelled Let s h = tt
spelled Put s h = tt
spelled Repeat s h = tt
spelled End s h = tt
spelled LineEnd s h = tt
spelled (Number n) s h = omega (arith, h.small)
spelled (Variable v) s h = tt
spelled (Operator o) s h = tt
spelled (Open b) s h = tt
spelled (Close b) s h = tt
spelled Comma s h = tt
spelled Equals s h = tt

scanned-words : {text : List ℕ} {n : ℕ} {ps : List Placed} {z : Ending} → Scanned text n ps z → Words (marks ps)
scanned-words at_end = tt
scanned-words (at_blank h) = scanned-words h
scanned-words (at_mark s rest m sp a h) = (spelled m s sp, scanned-words h)
scanned-words (at_strange b h) = tt

same-layer : (e : ReadFault) → finder (read.number e) ≡ read.layer e
same-layer (fault.Mark m) = refl
same-layer (fault.Grammar at) = refl
same-layer (fault.Nesting at) = refl

pub unread-is : (text : List ℕ) (room : ℕ) (e : ReadFault) → ltb 8192 (length text) ≡ false → ltb room 2626 ≡ false → Faulty (take 8192 text) e → Decided text room (refused (read.number e) (read.place e) (read.layer e))
unread-is text room e short roomy f =
    let s = ltb-false 8192 (length text) short in
    let F = subst (λ t. Faulty t e) (take_all 8192 text s) f in
    subst (λ l. Decided text room (refused (read.number e) (read.place e) l)) (same-layer e)
    (unread s (ltb-false room 2626 roomy) (record { marks = F.marks; end = F.end; scanned = F.scanned; judged = F.judged }))

-- what is known once the widths are measured
pub record Seen (text : List ℕ) (room : ℕ) (t : Tables) (ws : List ℕ) : Type 0 where
  pub short : length text ≤ 8192
  pub roomy : 2626 ≤ room
  pub accepts : Accepted (take 8192 text) t
  pub long : length ws ≡ length (vec_items t.nodes)
  pub known : Measured (vec_items t.nodes) ws

-- over the tables and the widths as they were handed out
pub seen : {text : List ℕ} {room : ℕ} {t p : Tables} {ws us : List ℕ} → ltb 8192 (length text) ≡ false → ltb room 2626 ≡ false → Accepted (take 8192 text) t →
    p ≡ t → us ≡ ws → length us ≡ length (vec_items p.nodes) → Measured (vec_items p.nodes) ws → Seen text room p us
seen {text = text} {room = room} {p = p} s r a e g l m = record {
  short = ltb-false 8192 (length text) s;
  roomy = ltb-false room 2626 r;
  accepts = subst (Accepted (take 8192 text)) (sym e) a;
  long = l;
  known = subst (Measured (vec_items p.nodes)) (sym g) m;
}

module _ (text : List ℕ) (room : ℕ) (t : Tables) (ws : List ℕ) (S : Seen text room t ws) where
  A : Accepted text t
  A = subst (λ l. Accepted l t) (take_all 8192 text S.short) S.accepts

  pub wide_verdict : (at : ℕ) → first_wide ws (all_parts (vec_items t.statements)) ≡ Some at → Decided text room (refused 5 at Builder)
  wide_verdict at e =
      let ns = vec_items t.nodes in
      let L = A.holds.lists in
      let w = wide_is ns ws S.long S.known (all_parts (vec_items t.statements)) at (all_inside ns L) e in
      decided-by S.short S.roomy A.scanned A.judged
      (too_wide (subst (λ es. FirstWide 5 es (begins A.marks) at) (expressions_are ns L)
      (subst (λ bs. FirstWide 5 (map (tree_of ns) (all_parts (vec_items t.statements))) bs at) A.places_are w)))

  narrow : first_wide ws (all_parts (vec_items t.statements)) ≡ None → widest A.tree ≤ 5
  narrow e =
      let ns = vec_items t.nodes in
      let L = A.holds.lists in
      widest-low 5 A.tree (subst (AllNarrow 5) (expressions_are ns L) (none_wide ns ws S.long S.known (all_parts (vec_items t.statements)) (all_inside ns L) e))

  pub large_verdict : first_wide ws (all_parts (vec_items t.statements)) ≡ None → (ltb 1024 (needed t) || ltb 31 t.repeats) ≡ true → Decided text room (refused 6 0 Builder)
  large_verdict e b = decided-by S.short S.roomy A.scanned A.judged (too_large (narrow e) (over (or_cases (ltb 1024 (needed t)) (ltb 31 t.repeats) b)))
    where
      over : (ltb 1024 (needed t) ≡ true) ⊎ (ltb 31 t.repeats ≡ true) → (1024 < need A.tree) ⊎ (31 < repeats A.tree)
      over (inl h) = inl (omega (arith, ltb-true 1024 (needed t) h, A.holds.need_is))
      over (inr h) = inr (omega (arith, ltb-true 31 t.repeats h, A.holds.repeats_is))

  pub fine_verdict : first_wide ws (all_parts (vec_items t.statements)) ≡ None → (ltb 1024 (needed t) || ltb 31 t.repeats) ≡ false → (w : ℕ) → w ≡ widest_of ws (all_parts (vec_items t.statements)) → Ready text room t w
  fine_verdict e b w f =
      let ns = vec_items t.nodes in
      let L = A.holds.lists in
      let l = limited A.judged (scanned-words A.scanned) in
      let n : need A.tree ≤ 1024 = omega (arith, ltb-false 1024 (needed t) (or_parts (ltb 1024 (needed t)) (ltb 31 t.repeats) b).0, A.holds.need_is) in
      let r : repeats A.tree ≤ 31 = omega (arith, ltb-false 31 t.repeats (or_parts (ltb 1024 (needed t)) (ltb 31 t.repeats) b).1, A.holds.repeats_is) in
      record {
        plan = A.tree;
        taken = record { decided = decided-by S.short S.roomy A.scanned A.judged (compiles (narrow e) n r); holds = A.holds; widest_is = f ∙ widest_is ns ws S.long S.known L };
        roomy = S.roomy;
        within = record { proper = l.proper; narrow = narrow e; small = n; few = r; shallow = l.shallow };
      }
