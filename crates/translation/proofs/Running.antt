-- The code of a plan does what the plan means.
use Rattle.std.proofs.Common.{◌≡◌, ℕ, zero, suc, ◌+◌, ◌<◌, ◌≤◌, Bool, true, false, cond, eqb, ◌≢◌, List, map, sym, refl, ap, ◌∙◌, subst, ap₂, arith}
use Rattle.std.proofs.lemmas.List.{map-append}
use Rattle.isa.specs.Words.{alu}
use Rattle.rules.specs.Notes.{upd}
use Rattle.rules.specs.Expressions.{Sub}
use Rattle.rules.specs.Module.{Module, size}
use Rattle.machine.specs.declared.queue.Pair.{Pair}
use Rattle.machine.specs.declared.ends.End.TheVariants.{NoSuchCell}
use Rattle.language.specs.Plans.{Tree, number, variable, cell, node, Plan, done, assign, store as put, again}
use Rattle.language.specs.Meaning.{Book, Result, fine, stuck, value, value_in, assigned, written, and_then, times, meaning}
use Rattle.language.specs.Limits.{Proper, ProperPlan, depth}
use Rattle.translation.specs.Code.{copy, set, store, Entry, inside, start, twice}
use Rattle.translation.specs.Compile.{over, head_of, past, exit_of}
use Rattle.translation.specs.Steps.{onward, turns, taken}
use Rattle.translation.specs.Runs.{pair_of}
use Rattle.rules.proofs.Updates.{upd_same, upd_other}
use Rattle.translation.proofs.Values.{Word}
use Rattle.translation.proofs.Placing.{Line}
use Rattle.translation.proofs.Standing.{PlacedE, PlacedP, Loop, left}
use Rattle.translation.proofs.Doubled.{Reach, Ends, run_set, run_store, run_stuck, run_jump, run_taken, run_passed}

less_one : (k : ℕ) → Word (suc k) → alu Sub (suc k) 1 ≡ k
less_one k h = omega arith

-- the variables are in their twins
abbrev pub Agree : (ℕ → ℕ) → (ℕ → ℕ) → Type 0
Agree R v = (i : ℕ) → i < 6 → R i ≡ v i

-- the counters below c are as they were
abbrev pub Frame : ℕ → (ℕ → ℕ) → (ℕ → ℕ) → Type 0
Frame c R' R = (i : ℕ) → 6 ≤ i → i < c → R' i ≡ R i

-- the stores of a book as pairs
abbrev pub pairs : Book → List Pair
pairs s = map pair_of s.made

module _ (w : ℕ → Bool) (m : Module) (c₀ : ℕ → ℕ) (short : Word (size m)) where
  -- twin t holds v, and those below it what they held
  record Valued (n p t v : ℕ) (R cs : ℕ → ℕ) (l : List Pair) : Type 0 where
    now : ℕ → ℕ
    reach : Reach w m c₀ n now p cs l
    here : now t ≡ v
    frame : (i : ℕ) → i < t → now i ≡ R i

  set_valued : {n p t : ℕ} {R R' cs : ℕ → ℕ} {l : List Pair} (v u : ℕ) → Reach w m c₀ n (upd R' t u) p cs l → u ≡ v → ((i : ℕ) → i < t → R' i ≡ R i) → Valued n p t v R cs l
  set_valued {t = t} {R' = R'} v u r e h = record { now = upd R' t u; reach = r; here = upd_same R' t u ∙ e; frame = λ i k. upd_other R' t u i (omega arith) ∙ h i k }

  run_expr : (e : Tree) (t n p : ℕ) (x : Entry) (R v cs : ℕ → ℕ) (l : List Pair) → Proper e → 6 ≤ t → PlacedE m t x e p → Reach w m c₀ n R p cs l → Agree R v →
      Valued (over e n) (over e p) t (value e v cs) R cs l
  run_expr (number k) t n p x R v cs l ok le L r A = set_valued k k (run_set w m c₀ r L ok) refl λ i h. refl
  run_expr (variable y) t n p x R v cs l ok le L r A = set_valued (v y) (R y) (run_set w m c₀ r L tt) (A y ok) λ i h. refl
  run_expr (cell e) t n p x R v cs l ok le L r A =
      let a = run_expr e t n p x R v cs l ok le L.0 r A in
      set_valued _ _ (run_set w m c₀ a.reach L.1 tt) (ap cs a.here) a.frame
  run_expr (node o e f) t n p x R v cs l ok le L r A =
      let a = run_expr e t n p x R v cs l ok.0 le L.0 r A in
      let b = run_expr f (suc t) (over e n) (over e p) inside a.now v cs l ok.1 (omega arith) L.1 a.reach (λ i h. a.frame i (omega arith) ∙ A i h) in
      set_valued _ _ (run_set w m c₀ b.reach L.2 tt) (ap₂ (alu o) (b.frame t (omega arith) ∙ a.here) b.here) λ i h. b.frame i (omega arith) ∙ a.frame i h

  -- the plan went on to line p, or was stuck
  abbrev pub Done : Result → ℕ → ℕ → ℕ → (ℕ → ℕ) → Type 0
  Done (fine s) n p c R = (R' : ℕ → ℕ) × (Reach w m c₀ n R' p s.cells (pairs s)) × (Agree R' s.vars) × Frame c R' R
  Done (stuck s) n p c R = Ends w m c₀ (twice n) NoSuchCell s.cells (pairs s)

  done_from : (d : Result) (n p c : ℕ) (R' R : ℕ → ℕ) → Frame c R' R → Done d n p c R' → Done d n p c R
  done_from (fine s) n p c R' R F D = (D.0, D.1, D.2, λ i h k. D.3 i h k ∙ F i h k)
  done_from (stuck s) n p c R' R F D = D

  abbrev pub Does : ℕ → Plan → ℕ → Type 0
  Does c P p = (s : Book) (n : ℕ) (R : ℕ → ℕ) → Reach w m c₀ n R p s.cells (pairs s) → Agree R s.vars → Done (meaning w P s) (taken w P s n) (past P p) c R

  run_assign : (c v : ℕ) (e : Tree) (P : Plan) (p : ℕ) (x : Entry) → c ≤ 10 → v < 6 → Proper e → PlacedE m 10 x e p → Line m (over e p) inside (set v (copy 10)) →
      Does c P (suc (over e p)) → Does c (assign v e P) p
  run_assign c v e P p x le lv ok L K rest s n R r A =
      let a = run_expr e 10 n p x R s.vars s.cells (pairs s) ok (omega arith) L r A in
      done_from _ _ _ c (upd a.now v (a.now 10)) R (λ i h k. upd_other a.now v (a.now 10) i (omega arith) ∙ a.frame i (omega arith))
      (rest (assigned s v (value_in e s)) (suc (over e n)) (upd a.now v (a.now 10)) (run_set w m c₀ a.reach K tt)
      (λ i h j. cond (eqb i v) (a.here j) ((a.frame i (omega arith) ∙ A i h) j)))

  run_put : (c : ℕ) (a b : Tree) (P : Plan) (p : ℕ) (x : Entry) → c ≤ 10 → Proper a → Proper b → PlacedE m 10 x a p → PlacedE m 11 inside b (over a p) →
      Line m (over b (over a p)) inside (store 10 11) → Does c P (suc (over b (over a p))) → Does c (put a b P) p
  run_put c a b P p x le oka okb La Lb K rest s n R r A =
      let d = run_expr a 10 n p x R s.vars s.cells (pairs s) oka (omega arith) La r A in
      let e = run_expr b 11 (over a n) (over a p) inside d.now s.vars s.cells (pairs s) okb (omega arith) Lb d.reach (λ i h. d.frame i (omega arith) ∙ A i h) in
      one d e (w (value_in a s)) refl
    where
      one : (d : Valued (over a n) (over a p) 10 (value_in a s) R s.cells (pairs s)) → Valued (over b (over a n)) (over b (over a p)) 11 (value_in b s) d.now s.cells (pairs s) →
          (y : Bool) → w (value_in a s) ≡ y →
          Done (cond y (meaning w P (written s (value_in a s) (value_in b s))) (stuck s))
          (cond y (taken w P (written s (value_in a s) (value_in b s)) (suc (over b (over a n)))) (suc (over b (over a n)))) (past P (suc (over b (over a p)))) c R
      one d e true h =
          let z = run_store w m c₀ e.reach (value_in a s) (value_in b s) (e.frame 10 (omega arith) ∙ d.here) e.here h K in
          done_from _ _ _ c e.now R (λ i h k. e.frame i (omega arith) ∙ d.frame i (omega arith))
          (rest (written s (value_in a s) (value_in b s)) (suc (over b (over a n))) e.now
          (subst (λ l. Reach w m c₀ (suc (over b (over a n))) e.now (suc (over b (over a p))) (upd s.cells (value_in a s) (value_in b s)) l) (sym (map-append pair_of s.made _)) z)
          (λ i k. e.frame i (omega arith) ∙ d.frame i (omega arith) ∙ A i k))
      one d e false h = run_stuck w m c₀ e.reach (value_in a s) (value_in b s) (e.frame 10 (omega arith) ∙ d.here) e.here h K

  -- from the head of a REPEAT, at line q + 1, whose counter c holds k
  abbrev Turns : ℕ → Plan → ℕ → ℕ → Type 0
  Turns c B q k = (s : Book) (n : ℕ) (R : ℕ → ℕ) → Reach w m c₀ n R (suc q) s.cells (pairs s) → Agree R s.vars → R c ≡ k →
      Done (times (λ t. meaning w B t) k s) (turns (λ t. meaning w B t) (λ t j. taken w B t j) k s n) (suc (suc (suc (suc (past B (suc (suc (suc q)))))))) c R

  module _ (c : ℕ) (B : Plan) (q : ℕ) (x : Entry) (low : 6 ≤ c) (high : c < 10) (L : Loop m c (suc q) (past B (suc (suc (suc q)))) x) (body : Does (suc c) B (suc (suc (suc q)))) where
    -- the end of a turn
    turned : (k : ℕ) → Turns c B q k → (d : Result) (j : ℕ) (R : ℕ → ℕ) → R c ≡ suc k → Done d j (past B (suc (suc (suc q)))) (suc c) R →
        Done (and_then d (λ t. times (λ t. meaning w B t) k t)) (onward d (λ t j. turns (λ t. meaning w B t) (λ t j. taken w B t j) k t (suc (suc (suc (suc j))))) j)
        (suc (suc (suc (suc (past B (suc (suc (suc q)))))))) c R
    turned k more (stuck s) j R e D = D
    turned k more (fine s) j R e D =
        let R₂ = D.0 in
        let e₂ : R₂ c ≡ suc k = D.3 c low (omega arith) ∙ e in
        let R₃ = upd R₂ 10 1 in
        let R₄ = upd R₃ c (alu Sub (R₃ c) (R₃ 10)) in
        let R₅ = upd R₄ 10 (twice (suc q)) in
        let r₃ = run_set w m c₀ D.1 L.one (omega arith) in
        let r₄ = run_set w m c₀ r₃ L.down tt in
        let r₅ = run_set w m c₀ r₄ L.back (omega (arith, L.head.room)) in
        let r₆ = run_jump w m c₀ r₅ q (upd_same R₄ 10 (twice (suc q))) L.leap in
        let other : (i : ℕ) → i < 10 → i ≢ c → R₅ i ≡ R₂ i = λ i h z. upd_other R₄ 10 (twice (suc q)) i (omega arith) ∙ upd_other R₃ c (alu Sub (R₃ c) (R₃ 10)) i z ∙ upd_other R₂ 10 1 i (omega arith) in
        let e₅ : R₅ c ≡ k = upd_other R₄ 10 (twice (suc q)) c (omega arith) ∙ upd_same R₃ c (alu Sub (R₃ c) (R₃ 10))
        ∙ ap₂ (alu Sub) (upd_other R₂ 10 1 c (omega arith) ∙ e₂) (upd_same R₂ 10 1) ∙ less_one k (subst Word e₂ (D.1.regs c)) in
        done_from _ _ _ c R₅ R (λ i h z. other i (omega arith) (omega arith) ∙ D.3 i h (omega arith))
        (more s (suc (suc (suc (suc j)))) R₅ r₆ (λ i h. other i (omega arith) (omega arith) ∙ D.2 i h) e₅)

    -- the first line of the head
    headed : (n : ℕ) (R cs : ℕ → ℕ) (l : List Pair) → Reach w m c₀ n R (suc q) cs l →
        Reach w m c₀ (suc n) (upd R 10 (twice (suc (suc (suc (suc (past B (suc (suc (suc q)))))))))) (suc (suc q)) cs l
    headed n R cs l r = run_set w m c₀ r L.head (omega (arith, L.leap.room))

    run_turns : (k : ℕ) → Turns c B q k
    run_turns zero s n R r A e =
        let z = twice (suc (suc (suc (suc (past B (suc (suc (suc q)))))))) in
        let r₁ = headed n R s.cells (pairs s) r in
        let r₂ = run_taken w m c₀ r₁ (suc (suc (suc (past B (suc (suc (suc q))))))) (upd_other R 10 z c (omega arith) ∙ e) (upd_same R 10 z) L.test in
        (upd R 10 z, r₂, λ i h. upd_other R 10 z i (omega arith) ∙ A i h, λ i h k. upd_other R 10 z i (omega arith))
    run_turns (suc k) s n R r A e =
        let z = twice (suc (suc (suc (suc (past B (suc (suc (suc q)))))))) in
        let r₁ = headed n R s.cells (pairs s) r in
        let e₁ : upd R 10 z c ≡ suc k = upd_other R 10 z c (omega arith) ∙ e in
        let r₂ = run_passed w m c₀ r₁ e₁ L.test in
        done_from _ _ _ c (upd R 10 z) R (λ i h k. upd_other R 10 z i (omega arith))
        (turned k (run_turns k) (meaning w B s) (taken w B s (suc (suc n))) (upd R 10 z) e₁
        (body s (suc (suc n)) (upd R 10 z) r₂ λ i h. upd_other R 10 z i (omega arith) ∙ A i h))

  run_again : (c : ℕ) (e : Tree) (B P : Plan) (p : ℕ) (x : Entry) → 6 ≤ c → c < 10 → Proper e → PlacedE m 10 x e p → Line m (over e p) inside (set c (copy 10)) →
      Loop m c (head_of e p) (past B (suc (suc (head_of e p)))) (left inside (suc c) B) → Does (suc c) B (suc (suc (head_of e p))) → Does c P (exit_of e B p) → Does c (again e B P) p
  run_again c e B P p x low high ok L K loop body rest s n R r A =
      let a = run_expr e 10 n p x R s.vars s.cells (pairs s) ok (omega arith) L r A in
      let R₁ = upd a.now c (a.now 10) in
      let F : Frame c R₁ R = λ i h k. upd_other a.now c (a.now 10) i (omega arith) ∙ a.frame i (omega arith) in
      done_from _ _ _ c R₁ R F (one (times (λ t. meaning w B t) (value_in e s) s) _ R₁
      (run_turns c B (over e p) (left inside (suc c) B) low high loop body (value_in e s) s (suc (over e n)) R₁ (run_set w m c₀ a.reach K tt)
      (λ i h. upd_other a.now c (a.now 10) i (omega arith) ∙ a.frame i (omega arith) ∙ A i h) (upd_same a.now c (a.now 10) ∙ a.here)))
    where
      one : (d : Result) (j : ℕ) (R : ℕ → ℕ) → Done d j (exit_of e B p) c R → Done (and_then d (λ t. meaning w P t)) (onward d (λ t j. taken w P t j) j) (past P (exit_of e B p)) c R
      one (fine s) j R D = done_from _ _ _ c D.0 R D.3 (rest s j D.0 D.1 D.2)
      one (stuck s) j R D = D

  -- c is the next counter
  pub run_plan : (P : Plan) (c p : ℕ) (x : Entry) → 6 ≤ c → c + depth P ≤ 10 → ProperPlan P → PlacedP m c x P p → Does c P p
  run_plan done c p x low deep ok L = λ s n R r A. (R, r, A, λ i h k. refl)
  run_plan (assign v t P) c p x low deep ok L = run_assign c v t P p x (omega arith) ok.0 ok.1 L.0 L.1 (run_plan P c (suc (over t p)) inside low deep ok.2 L.2)
  run_plan (put a b P) c p x low deep ok L =
      run_put c a b P p x (omega arith) ok.0 ok.1 L.0 L.1 L.2 (run_plan P c (suc (over b (over a p))) inside low deep ok.2 L.3)
  run_plan (again t B P) c p x low deep ok L =
      run_again c t B P p x low (omega arith) ok.0 L.0 L.1 L.2
      (run_plan B (suc c) (suc (suc (head_of t p))) inside (omega arith) (omega arith) ok.1 L.3)
      (run_plan P c (exit_of t B p) (start c) low (omega arith) ok.2 L.4)
