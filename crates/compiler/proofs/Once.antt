-- A text and an output have one verdict.
use Rattle.std.proofs.Common.{◌≡◌, ℕ, ◌<◌, ◌≤◌, ◌⊎◌, List, sym, refl, ap, ◌∙◌, subst, inl, inr, arith}
use Rattle.language.specs.Limits.{need, repeats, in_force}
use Rattle.language.specs.Plans.{Tree, Plan}
use Rattle.grammar.specs.Begins.{begins}
use Rattle.grammar.specs.Verdict.{Judgement, plan, fault}
use Rattle.marks.specs.Texts.{TextJudged, MarksAreUnique, JudgedOnce, TreeIsUnique}
use Rattle.plan.specs.declared.fault.Layer.TheVariants.{Builder}
use Rattle.compiler.specs.Deciding.{Verdict, refused, finder, FirstWide, here, later, Weighed, too_wide, too_large, compiles, Decided, long_text, short_output, unread, read, DecidedOnce}
use Rattle.compiler.proofs.Weighing.{low-widest, not_narrow}

same-wide : {most a b : ℕ} {es : List Tree} {bs : List ℕ} → FirstWide most es bs a → FirstWide most es bs b → a ≡ b
same-wide (here w) (here x) = refl
same-wide (here w) (later x g) = absurd (omega arith)
same-wide (later w f) (here x) = absurd (omega arith)
same-wide (later w f) (later x g) = same-wide f g

-- too large is not small
not-small : (P : Plan) → (in_force.need < need P) ⊎ (in_force.repeats < repeats P) → need P ≤ in_force.need → repeats P ≤ in_force.repeats → ⊥
not-small P (inl h) n r = omega arith
not-small P (inr h) n r = omega arith

weighed_once : (P : Plan) {bs : List ℕ} {u v : Verdict} → Weighed P bs u → Weighed P bs v → u ≡ v
weighed_once P (too_wide f) (too_wide g) = ap (λ at. refused 5 at Builder) (same-wide f g)
weighed_once P (too_wide f) (too_large w o) = absurd (not_narrow f (low-widest 5 P w))
weighed_once P (too_wide f) (compiles w n r) = absurd (not_narrow f (low-widest 5 P w))
weighed_once P (too_large w o) (too_wide g) = absurd (not_narrow g (low-widest 5 P w))
weighed_once P (too_large w o) (too_large x q) = refl
weighed_once P (too_large w o) (compiles x n r) = absurd (not-small P o n r)
weighed_once P (compiles w n r) (too_wide g) = absurd (not_narrow g (low-widest 5 P w))
weighed_once P (compiles w n r) (too_large x q) = absurd (not-small P q n r)
weighed_once P (compiles w n r) (compiles x m s) = refl

module _ (marks-once : MarksAreUnique) (judged_once : JudgedOnce) (tree-once : TreeIsUnique) where
  same_judgement : (text : List ℕ) (j k : Judgement) → TextJudged text j → TextJudged text k → j ≡ k
  same_judgement text j k t q = let d = judged_once text q.marks q.end q.scanned in d.2 j t ∙ sym (d.2 k q)

  once : (text : List ℕ) (room : ℕ) {u v : Verdict} → Decided text room u → Decided text room v → u ≡ v
  once text room (long_text a) (long_text b) = refl
  once text room (long_text a) (short_output b c) = absurd (omega arith)
  once text room (long_text a) (unread b c t) = absurd (omega arith)
  once text room (long_text a) (read b c s j w) = absurd (omega arith)
  once text room (short_output a c) (long_text b) = absurd (omega arith)
  once text room (short_output a c) (short_output b d) = refl
  once text room (short_output a c) (unread b d t) = absurd (omega arith)
  once text room (short_output a c) (read b d s j w) = absurd (omega arith)
  once text room (unread a c t) (long_text b) = absurd (omega arith)
  once text room (unread a c t) (short_output b d) = absurd (omega arith)
  once text room (unread {n = n} {at = i} a c t) (unread {n = m} {at = k} b d q) =
      let e : fault n i ≡ fault m k = same_judgement text (fault n i) (fault m k) t q in
      let x : n ≡ m = cc in
      let y : i ≡ k = cc in
      ap (λ z. refused z i (finder z)) x ∙ ap (λ z. refused m z (finder m)) y
  once text room (unread {n = n} {at = i} a c t) (read {ms = ms} {z = z} {P = Q} b d s j w) =
      let e : fault n i ≡ plan Q = same_judgement text (fault n i) (plan Q) t (record { marks = ms; end = z; scanned = s; judged = j }) in
      let x : ◌≡◌ {A = ℕ} 0 1 = cc in
      absurd (omega arith)
  once text room (read a c s j w) (long_text b) = absurd (omega arith)
  once text room (read a c s j w) (short_output b d) = absurd (omega arith)
  once text room (read {ms = ms} {z = z} {P = P} a c s j w) (unread {n = n} {at = i} b d t) =
      let e : fault n i ≡ plan P = same_judgement text (fault n i) (plan P) t (record { marks = ms; end = z; scanned = s; judged = j }) in
      let x : ◌≡◌ {A = ℕ} 0 1 = cc in
      absurd (omega arith)
  once text room (read {ms = ms} {z = y} {P = P} {v = u} a c s j w) (read {ms = ls} {z = z} {P = Q} b d r k x) =
      let m = (marks-once text 0 ms ls y z s r).0 in
      let p = tree-once text P Q (record { marks = ms; end = y; scanned = s; judged = j }) (record { marks = ls; end = z; scanned = r; judged = k }) in
      weighed_once Q (subst (λ p. Weighed p (begins ls) u) p (subst (λ l. Weighed P (begins l) u) m w)) x

  pub decided_once : DecidedOnce
  decided_once text room u v d e = once text room d e
