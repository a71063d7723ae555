-- The code of a list of statements is the code of the plan that they are.
use Rattle.std.proofs.Common.{◌≡◌, ℕ, suc, ◌+◌, ◌-◌, ◌*◌, ◌≤◌, List, [], ◌∷◌, ◌++◌, sym, refl, ap, ◌∙◌, subst, append_assoc, append-nil, add-one, arith}
use mathlib.Core.Path.{fun_ext}
use Rattle.isa.specs.declared.kinds.Arithmetic.TheVariants.{Sub}
use Rattle.language.specs.Limits.{nodes, width, widest, depth, Within, in_force}
use Rattle.language.specs.Plans.{Plan}
use Rattle.plan.specs.declared.tree.Node.{Node}
use Rattle.plan.specs.declared.tree.Statement.{Statement}
use Rattle.plan.specs.declared.tree.Statement.TheVariants.{End}
use Rattle.plan.specs.Listing.{Lists, no_more, a_let, a_put, a_repeat}
use Rattle.translation.specs.Code as over
use Rattle.translation.specs.Compile.{expr, code, past, head_of, exit_of, whole}
use Rattle.translation.specs.Compile as compile
use Rattle.translation.proofs.Twins.{twice-is}
use Rattle.translation.proofs.Standing.{over-is, past_is}
use Rattle.compiler.specs.Emitting.{Coming, zeros, tree_of, stated, lasts, Sound, next_counter}

module _ (ns : List Node) where
  -- the code of statements at line p, with a halt behind it; c is the next counter
  abbrev pub flat : List Statement → ℕ → ℕ → Coming
  flat [] c p = over.stop
  flat (s ∷ ss) c p = stated ns c p s (flat ss (next_counter c s) (p + lasts ns s))

  -- what that code rests on
  abbrev pub AllSound : List Statement → ℕ → ℕ → Type 0
  AllSound [] c p = Unit {0}
  AllSound (s ∷ ss) c p = (Sound ns c p s) × (p + lasts ns s ≤ 511) × AllSound ss (next_counter c s) (p + lasts ns s)

  -- the head of a REPEAT and its END
  abbrev heading : ℕ → ℕ → ℕ → over.Code → over.Code
  heading c d a k = over.line over.inside (over.set c (over.copy 10)) (over.line (over.start d) (over.set 10 (over.num a)) (over.line over.inside (over.branch c 10) k))

  abbrev ending : ℕ → ℕ → over.Code → Coming
  ending c a k x =
      over.line x (over.set 10 (over.num 1)) (over.line over.inside (over.set c (over.calc Sub c 10)) (over.line over.inside (over.set 10 (over.num a)) (over.line over.inside (over.jump 10) k)))

  pub flat_is : {ss : List Statement} {P : Plan} → Lists ns ss P → (rest : List Statement) (c p : ℕ) (x : over.Entry) → flat (ss ++ rest) c p x ≡ code x c p P (flat rest c (past P p))
  flat_is no_more rest c p x = refl
  flat_is (a_let {v = v} {x = e} {t = t} {ss = ss} {p = P} M L) rest c p x =
      let w : over.Code → over.Code = over.line over.inside (over.set v.number (over.copy 10)) in
      let n : p + (nodes t + 1) ≡ suc (compile.over t p) = omega (arith, over-is t p) in
      ap (λ u. expr x 10 u (w (flat (ss ++ rest) c (p + (nodes u + 1)) over.inside))) M.is
      ∙ ap (λ q. expr x 10 t (w (flat (ss ++ rest) c q over.inside))) n
      ∙ ap (λ k. expr x 10 t (w k)) (flat_is L rest c (suc (compile.over t p)) over.inside)
  flat_is (a_put {a = a} {x = e} {t = t} {u = u} {ss = ss} {p = P} M N L) rest c p x =
      let w : over.Code → over.Code = over.line over.inside (over.store 10 11) in
      let n : p + (nodes t + (nodes u + 1)) ≡ suc (compile.over u (compile.over t p)) = omega (arith, over-is t p, over-is u (compile.over t p)) in
      ap (λ y. expr x 10 y (expr over.inside 11 (tree_of ns e) (w (flat (ss ++ rest) c (p + (nodes y + (nodes (tree_of ns e) + 1))) over.inside)))) M.is
      ∙ ap (λ y. expr x 10 t (expr over.inside 11 y (w (flat (ss ++ rest) c (p + (nodes t + (nodes y + 1))) over.inside)))) N.is
      ∙ ap (λ q. expr x 10 t (expr over.inside 11 u (w (flat (ss ++ rest) c q over.inside)))) n
      ∙ ap (λ k. expr x 10 t (expr over.inside 11 u (w k))) (flat_is L rest c (suc (compile.over u (compile.over t p))) over.inside)
  flat_is (a_repeat {x = e} {t = t} {n = n} {bs = bs} {ss = ss} {b = B} {p = P} M D h L) rest c p x =
      let q : ℕ = suc (suc (head_of t p)) in
      let w = past B q in
      let a : ℕ = over.twice (exit_of t B p) in
      let T = (bs ++ (End n ∷ ss)) ++ rest in
      let S = ss ++ rest in
      let a_is : 2 * (p + nodes t + 1) + n + 12 ≡ a = omega (arith, twice-is (exit_of t B p), past_is B q, over-is t p) in
      let q-is : p + (nodes t + 3) ≡ q = omega (arith, over-is t p) in
      let c_is : suc c - 1 ≡ c = omega arith in
      let back_is : 2 * w - (n + 4) ≡ over.twice (head_of t p) = omega (arith, twice-is (head_of t p), past_is B q, over-is t p) in
      let exit-is : w + 4 ≡ exit_of t B p = omega arith in
      ap (λ u. expr x 10 u (heading c (c + 1) (2 * (p + nodes u + 1) + n + 12) (flat T (c + 1) (p + (nodes u + 3)) over.inside))) M.is
      ∙ ap (λ z. expr x 10 t (heading c (c + 1) z (flat T (c + 1) (p + (nodes t + 3)) over.inside))) a_is
      ∙ ap (λ z. expr x 10 t (heading c (c + 1) a (flat T (c + 1) z over.inside))) q-is
      ∙ ap (λ d. expr x 10 t (heading c d a (flat T d q over.inside))) (add-one c)
      ∙ ap (λ z. expr x 10 t (heading c (suc c) a (flat z (suc c) q over.inside))) (append_assoc bs (End n ∷ ss) rest)
      ∙ ap (λ k. expr x 10 t (heading c (suc c) a k)) (flat_is D (End n ∷ S) (suc c) q over.inside)
      ∙ ap (λ K. expr x 10 t (heading c (suc c) a (code over.inside (suc c) q B K)))
      (fun_ext (λ z. ap (λ d. ending d (2 * w - (n + 4)) (flat S d (w + 4) (over.start d)) z) c_is
      ∙ ap (λ y. ending c y (flat S c (w + 4) (over.start c)) z) back_is
      ∙ ap (λ y. ending c (over.twice (head_of t p)) (flat S c y (over.start c)) z) exit-is
      ∙ ap (λ k. ending c (over.twice (head_of t p)) k z) (flat_is L rest c (exit_of t B p) (over.start c))))

  pub all_sound : {ss : List Statement} {P : Plan} → Lists ns ss P → (rest : List Statement) (c p : ℕ) → 6 ≤ c → c + depth P ≤ 10 → widest P ≤ 5 → past P p ≤ 511 → AllSound rest c (past P p) → AllSound (ss ++ rest) c p
  all_sound no_more rest c p low deep wide room R = R
  all_sound (a_let {x = e} {t = t} {ss = ss} {p = P} M L) rest c p low deep wide room R =
      let n : suc (compile.over t p) ≡ p + (nodes (tree_of ns e) + 1) = omega (arith, over-is t p, ap nodes M.is) in (
        record { inside = M.inside; narrow = omega (arith, ap width M.is) },
        omega (arith, past_is P (suc (compile.over t p))),
        subst (AllSound (ss ++ rest) c) n (all_sound L rest c (suc (compile.over t p)) low deep (omega arith) room R),
      )
  all_sound (a_put {a = a} {x = e} {t = t} {u = u} {ss = ss} {p = P} M N L) rest c p low deep wide room R =
      let q : ℕ = suc (compile.over u (compile.over t p)) in
      let n : q ≡ p + (nodes (tree_of ns a) + (nodes (tree_of ns e) + 1)) = omega (arith, over-is t p, over-is u (compile.over t p), ap nodes M.is, ap nodes N.is) in (
        (record { inside = M.inside; narrow = omega (arith, ap width M.is) }, record { inside = N.inside; narrow = omega (arith, ap width N.is) }),
        omega (arith, past_is P q),
        subst (AllSound (ss ++ rest) c) n (all_sound L rest c q low deep (omega arith) room R),
      )
  all_sound (a_repeat {x = e} {t = t} {n = n} {bs = bs} {ss = ss} {b = B} {p = P} M D h L) rest c p low deep wide room R =
      let q : ℕ = suc (suc (head_of t p)) in
      let w = past B q in
      let S = ss ++ rest in
      let many = past_is B q in
      let more = past_is P (exit_of t B p) in
      let lines = over-is t p in
      let same = ap nodes M.is in
      let c_is : c ≡ suc c - 1 = omega arith in
      let exit-is : exit_of t B p ≡ w + 4 = omega arith in
      let q-is : q ≡ p + (nodes (tree_of ns e) + 3) = omega arith in
      let d-is : suc c ≡ c + 1 = omega arith in
      let V = all_sound L rest c (exit_of t B p) low (omega arith) (omega arith) room R in
      let V' : AllSound S (suc c - 1) (w + 4) = subst (λ d. AllSound S d (w + 4)) c_is (subst (AllSound S c) exit-is V) in
      let W : AllSound (bs ++ (End n ∷ S)) (suc c) q = all_sound D (End n ∷ S) (suc c) q (omega arith) (omega arith) (omega arith) (omega arith) ((omega arith, omega arith, omega arith), omega arith, V') in
      let T : AllSound ((bs ++ (End n ∷ ss)) ++ rest) (suc c) q = subst (λ l. AllSound l (suc c) q) (sym (append_assoc bs (End n ∷ ss) rest)) W in (
        (record { inside = M.inside; narrow = omega (arith, ap width M.is) }, omega arith, omega arith),
        omega arith,
        subst (λ d. AllSound ((bs ++ (End n ∷ ss)) ++ rest) d (p + (nodes (tree_of ns e) + 3))) d-is (subst (AllSound ((bs ++ (End n ∷ ss)) ++ rest) (suc c)) q-is T),
      )

  -- a whole plan
  pub all_of : {ss : List Statement} {P : Plan} → Lists ns ss P → Within in_force P → AllSound ss 6 6
  all_of {ss} {P} L W =
      subst (λ l. AllSound l 6 6) (append-nil ss)
      (all_sound L [] 6 6 (omega arith) (omega (arith, W.shallow)) W.narrow (omega (arith, past_is P 6, W.small)) tt)

  pub flat_whole : {ss : List Statement} {P : Plan} → Lists ns ss P → zeros 6 (flat ss 6 6) (over.start 0) ≡ whole P
  flat_whole {ss} {P} L = ap (λ k. zeros 6 (λ x. k) (over.start 0)) (ap (λ l. flat l 6 6 over.inside) (sym (append-nil ss)) ∙ flat_is L [] 6 6 over.inside)
