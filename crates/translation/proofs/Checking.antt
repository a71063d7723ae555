-- The code of a plan keeps the rules of the check.
use Rattle.std.proofs.Common.{◌≡◌, ℕ, suc, ◌+◌, ◌<◌, ◌≤◌, true, ◌≢◌, refl, ap, ◌∙◌, arith}
use native.Mathlib.Decide.{ℕ_discrete, dec_lt}
use Rattle.rules.specs.Expressions.{Expr, Sub, num as lit}
use Rattle.rules.specs.Notes.{upd}
use Rattle.rules.specs.Cards as rules
use Rattle.rules.specs.Module.{Module, size, passable?, enter}
use Rattle.language.specs.Plans.{Tree, number, variable, cell, node, Plan, done, assign, store as put, again}
use Rattle.language.specs.Limits.{width, widest, depth, Proper, ProperPlan}
use Rattle.translation.specs.Cards.{card}
use Rattle.translation.specs.Code.{Source, num, copy, calc, fetch, set, Entry, inside, start, twice}
use Rattle.translation.specs.Compile.{over, head_of, past, exit_of}
use Rattle.rules.proofs.Updates.{upd_same, upd_other}
use Rattle.translation.proofs.Values.{Word, WordIn}
use Rattle.translation.proofs.Placing.{entry_of, before, Line}
use Rattle.translation.proofs.Standing.{PlacedE, PlacedP, Loop, left, plan_open}
use Rattle.translation.proofs.Knowing.{Known, known, known?, both}
use Rattle.translation.proofs.Meeting.{live, live_known, fresh-is, met}
use Rattle.translation.proofs.Noting.{sense, Reads, Here, Arrived, check_set, check_store, check_branch, check_jump}

-- the variables and counters below c, and the values below t
abbrev pub Live : ℕ → ℕ → ℕ → Type 0
Live c t i = (i < t) × (c ≤ i → 10 ≤ i)

abbrev pub AllKnown : ℕ → ℕ → (ℕ → Known) → Type 0
AllKnown c t N = (i : ℕ) → Live c t i → known? (N i) ≡ true

-- what may stand before a line: a block's card is that of the variables and counters, and no value is kept over its start
abbrev pub Fine : ℕ → ℕ → Entry → Type 0
Fine c t inside = Unit {0}
Fine c t (start n) = (n ≡ c) × (t ≡ 10)

upd-known : (N : ℕ → Known) (a : ℕ) (e : Expr) (i : ℕ) → (i ≢ a → known? (N i) ≡ true) → known? (upd N a (known e) i) ≡ true
upd-known N a e i h = one (ℕ_discrete i a)
  where
    one : Dec (i ≡ a) → known? (upd N a (known e) i) ≡ true
    one (yes z) = ap known? (ap (upd N a (known e)) z ∙ upd_same N a (known e))
    one (no z) = ap known? (upd_other N a (known e) i z) ∙ h z

live_low : (c i : ℕ) → Live c 10 i → i < c
live_low c i h = one (dec_lt i c)
  where
    one : Dec (i < c) → i < c
    one (yes k) = k
    one (no k) = absurd (omega (arith, h.0, h.1 (omega arith)))

reads_known : (c t : ℕ) (N : ℕ → Known) → AllKnown c t N → (s : Source) → Reads (Live c t) s → Reads (λ b. known? (N b) ≡ true) s
reads_known c t N h (num n) r = tt
reads_known c t N h (copy b) r = h b r
reads_known c t N h (calc o b d) r = (h b r.0, h d r.1)
reads_known c t N h (fetch b) r = h b r

reads_below : (c t : ℕ) → t ≤ 16 → (s : Source) → Reads (Live c t) s → Reads (λ b. b < 16) s
reads_below c t l (num n) r = tt
reads_below c t l (copy b) r = omega (arith, r.0)
reads_below c t l (calc o b d) r = (omega (arith, r.0.0), omega (arith, r.1.0))
reads_below c t l (fetch b) r = omega (arith, r.0)

wide : (e : Tree) → 1 ≤ width e
wide (number n) = omega arith
wide (variable v) = omega arith
wide (cell e) = wide e
wide (node o e f) = omega (arith, wide e)

pub fine_left : (P : Plan) (c : ℕ) (x : Entry) → Fine c 10 x → Fine c 10 (left x c P)
fine_left done c x h = h
fine_left (assign v e P) c x h = fine_left P c inside tt
fine_left (put a b P) c x h = fine_left P c inside tt
fine_left (again e B P) c x h = fine_left P c (start c) (refl, refl)

module _ (m : Module) (short : Word (size m)) where
  -- before line p the twins that are live are known, and the rules are kept so far
  abbrev pub At : ℕ → ℕ → ℕ → Type 0
  At p c t = (N : ℕ → Known) × (k : ℕ) × (Here m p N k) × AllKnown c t N

  -- the same before what stands there
  abbrev pub To : ℕ → ℕ → ℕ → Type 0
  To p c t = (N : ℕ → Known) × (k : ℕ) × (Arrived m p N k) × AllKnown c t N

  settled_inside : (p : ℕ) (N : ℕ → Known) (k : ℕ) → before m (twice p) ≡ rules.inside → Arrived m p N k → Here m p N k
  settled_inside p N k e A =
      let h = A (ap (λ y. passable? y (both N k)) e) in
      (h.0, h.1 ∙ ap (λ y. enter y (both N k)) e)

  -- past what stands before a line
  pub settled : (p c t : ℕ) (x : Entry) → before m (twice p) ≡ entry_of x → Fine c t x → c ≤ 10 → To p c t → At p c t
  settled p c t inside e f l A = (A.0, A.1, settled_inside p A.0 A.1 e A.2, A.3)
  settled p c t (start n) e f l A =
      let d : before m (twice p) ≡ rules.start (card c) = e ∙ ap (λ n. rules.start (card n)) f.0 in
      let h = A.2 (ap (λ y. passable? y (both A.0 A.1)) d ∙ met c A.0 (omega arith) λ j z. A.3 j (omega (arith, f.1), λ q. absurd (omega arith))) in
      (live c, 0, (h.0, h.1 ∙ ap (λ y. enter y (both A.0 A.1)) d ∙ fresh-is c (omega arith)), λ i z. live_known c i (live_low c i (omega (arith, z.0, f.1), z.1)))

  -- a twin is set: what is known after it was known before, but for that twin
  pub set_to : (p c t c' t' a : ℕ) (s : Source) (x : Entry) → Line m p x (set a s) → Reads (Live c t) s → t ≤ 16 → a < 16 → WordIn s → ((i : ℕ) → Live c' t' i → i ≢ a → Live c t i) → At p c t → To (suc p) c' t'
  set_to p c t c' t' a s x L r l la ws f A = (
    upd A.0 a (known (sense s A.0 A.1)),
    A.1,
    check_set m p A.0 A.1 A.2 a s L (reads_known c t A.0 A.3 s r) la (reads_below c t l s r) ws,
    λ i z. upd-known A.0 a (sense s A.0 A.1) i λ n. A.3 i (f i z n),
  )

  check_expr : (e : Tree) (c t p : ℕ) (x : Entry) → 6 ≤ c → c ≤ 10 → 10 ≤ t → t + width e ≤ 16 → Proper e → PlacedE m t x e p → Fine c t x → To p c t → To (over e p) c (suc t)
  check_expr (number n) c t p x h₁ h₂ h₃ h₄ ok L f A =
      set_to p c t c (suc t) t (num n) x L tt (omega arith) (omega arith) ok (λ i z n. (omega (arith, z.0), z.1)) (settled p c t x L.before_is f h₂ A)
  check_expr (variable v) c t p x h₁ h₂ h₃ h₄ ok L f A =
      set_to p c t c (suc t) t (copy v) x L (omega arith, λ z. omega arith) (omega arith) (omega arith) tt (λ i z n. (omega (arith, z.0), z.1)) (settled p c t x L.before_is f h₂ A)
  check_expr (cell e) c t p x h₁ h₂ h₃ h₄ ok L f A =
      let a = check_expr e c t p x h₁ h₂ h₃ h₄ ok L.0 f A in
      set_to (over e p) c (suc t) c (suc t) t (fetch t) inside L.1 (omega arith, λ z. h₃) (omega (arith, wide e)) (omega (arith, wide e)) tt (λ i z n. z) (settled (over e p) c (suc t) inside L.1.before_is tt h₂ a)
  check_expr (node o e g) c t p x h₁ h₂ h₃ h₄ ok L f A =
      let a = check_expr e c t p x h₁ h₂ h₃ (omega arith) ok.0 L.0 f A in
      let b = check_expr g c (suc t) (over e p) inside h₁ h₂ (omega arith) (omega arith) ok.1 L.1 tt a in
      set_to (over g (over e p)) c (suc (suc t)) c (suc t) t (calc o t (suc t)) inside L.2 ((omega arith, λ z. h₃), (omega arith, λ z. omega arith)) (omega (arith, wide g)) (omega arith) tt
      (λ i z n. (omega (arith, z.0), z.1)) (settled (over g (over e p)) c (suc (suc t)) inside L.2.before_is tt h₂ b)

  -- the test at the head, h being the line before it
  check_head : (c h b : ℕ) (y : Entry) → 6 ≤ c → c < 10 → Loop m c (suc h) b y → before m (twice (suc (suc (suc (suc b))))) ≡ rules.start (card c) → To (suc h) (suc c) 10 → To (suc (suc (suc h))) (suc c) 10
  check_head c h b y low high L en A =
      let a = settled (suc h) (suc c) 10 (start (suc c)) L.head.before_is (refl, refl) (omega arith) A in
      let d = twice (suc (suc (suc (suc b)))) in
      let N = upd a.0 10 (known (lit d)) in
      let K : AllKnown (suc c) 10 N = λ i z. upd-known a.0 10 (lit d) i λ n. a.3 i z in
      let r = check_set m (suc h) a.0 a.1 a.2 10 (num d) L.head tt (omega arith) tt (omega (arith, L.leap.room)) in
      let H = settled_inside (suc (suc h)) N a.1 L.test.before_is r in (
        N,
        a.1,
        check_branch m (suc (suc h)) N a.1 H c 10 (suc (suc (suc b))) (card c) L.test (K c (omega arith, λ z. absurd (omega arith))) (upd_same a.0 10 (known (lit d))) en
            (met c N (omega arith) λ j z. K j (omega arith, λ q. absurd (omega arith))) (omega arith) (omega arith),
        K,
      )

  -- the end of a turn
  check_back : (c h b : ℕ) (y : Entry) → 6 ≤ c → c < 10 → Loop m c (suc h) b y → Fine (suc c) 10 y → before m (twice (suc (suc (suc (suc b))))) ≡ rules.start (card c) → To b (suc c) 10 → To (suc (suc (suc (suc b)))) c 10
  check_back c h b y low high L f en A =
      let a = set_to b (suc c) 10 (suc c) 11 10 (num 1) y L.one tt (omega arith) (omega arith) (omega arith) (λ i z n. (omega (arith, z.0), z.1)) (settled b (suc c) 10 y L.one.before_is f (omega arith) A) in
      let e = set_to (suc b) (suc c) 11 (suc c) 10 c (calc Sub c 10) inside L.down ((omega arith, λ z. absurd (omega arith)), (omega arith, λ z. omega arith)) (omega arith) (omega arith) tt
      (λ i z n. (omega (arith, z.0), z.1)) (settled (suc b) (suc c) 11 inside L.down.before_is tt (omega arith) a) in
      let g = settled (suc (suc b)) (suc c) 10 inside L.back.before_is tt (omega arith) e in
      let d = twice (suc h) in
      let N = upd g.0 10 (known (lit d)) in
      let K : AllKnown (suc c) 10 N = λ i z. upd-known g.0 10 (lit d) i λ n. g.3 i z in
      let r = check_set m (suc (suc b)) g.0 g.1 g.2 10 (num d) L.back tt (omega arith) tt (omega (arith, L.head.room)) in
      let H = settled_inside (suc (suc (suc b))) N g.1 L.leap.before_is r in (
        N,
        g.1,
        check_jump m (suc (suc (suc b))) N g.1 H 10 h (card (suc c)) (card c) L.leap (upd_same g.0 10 (known (lit d))) L.head.before_is
            (met (suc c) N (omega arith) λ j z. K j (omega arith, λ q. absurd (omega arith))) en (omega arith),
        λ i z. K i (z.0, λ q. z.1 (omega arith)),
      )

  pub check_plan : (P : Plan) (c p : ℕ) (x : Entry) → 6 ≤ c → c + depth P ≤ 10 → widest P ≤ 5 → ProperPlan P → PlacedP m c x P p → Fine c 10 x → To p c 10 → To (past P p) c 10
  check_plan done c p x low deep nar ok L f A = A
  check_plan (assign v t P) c p x low deep nar ok L f A =
      let a = check_expr t c 10 p x low (omega arith) (omega arith) (omega arith) ok.1 L.0 f A in
      let b = set_to (over t p) c 11 c 10 v (copy 10) inside L.1 (omega arith, λ z. omega arith) (omega arith) (omega (arith, ok.0)) tt (λ i z n. (omega (arith, z.0), z.1))
      (settled (over t p) c 11 inside L.1.before_is tt (omega arith) a) in
      check_plan P c (suc (over t p)) inside low deep (omega arith) ok.2 L.2 tt b
  check_plan (put s t P) c p x low deep nar ok L f A =
      let a = check_expr s c 10 p x low (omega arith) (omega arith) (omega arith) ok.0 L.0 f A in
      let b = check_expr t c 11 (over s p) inside low (omega arith) (omega arith) (omega arith) ok.1 L.1 tt a in
      let g = settled (over t (over s p)) c 12 inside L.2.before_is tt (omega arith) b in
      let r = check_store m (over t (over s p)) g.0 g.1 g.2 10 11 L.2 (g.3 10 (omega arith, λ z. omega arith)) (g.3 11 (omega arith, λ z. omega arith)) (omega arith) (omega arith) in
      check_plan P c (suc (over t (over s p))) inside low deep (omega arith) ok.2 L.3 tt (g.0, g.1 + 1, r, λ i z. g.3 i (omega (arith, z.0), z.1))
  check_plan (again t B P) c p x low deep nar ok L f A =
      let high : c < 10 = omega arith in
      let a = check_expr t c 10 p x low (omega arith) (omega arith) (omega arith) ok.0 L.0 f A in
      let b = set_to (over t p) c 11 (suc c) 10 c (copy 10) inside L.1 (omega arith, λ z. omega arith) (omega arith) (omega arith) tt (λ i z n. (omega (arith, z.0), λ q. z.1 (omega arith)))
      (settled (over t p) c 11 inside L.1.before_is tt (omega arith) a) in
      let en = (plan_open m P c (exit_of t B p) (start c) L.4).0 in
      let d = check_head c (over t p) (past B (suc (suc (head_of t p)))) (left inside (suc c) B) low high L.2 en b in
      let g = check_plan B (suc c) (suc (suc (head_of t p))) inside (omega arith) (omega arith) (omega arith) ok.1 L.3 tt d in
      let h = check_back c (over t p) (past B (suc (suc (head_of t p)))) (left inside (suc c) B) low high L.2 (fine_left B (suc c) inside tt) en g in
      check_plan P c (exit_of t B p) (start c) low (omega arith) (omega arith) ok.2 L.4 (refl, refl) h
