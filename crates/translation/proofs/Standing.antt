-- Where the code of a plan stands, how long it is, and how many blocks it has.
use Rattle.std.proofs.Common.{◌≡◌, ℕ, suc, ◌+◌, ◌*◌, ◌<◌, List, [], length, ap, ◌∙◌, arith}
use Rattle.rules.specs.Notes.{halt}
use Rattle.rules.specs.Cards.{Block}
use Rattle.rules.specs.Expressions.{Sub}
use Rattle.rules.specs.Module.{Module, size, instr}
use Rattle.language.specs.Plans.{Tree, number, variable, cell, node, Plan, done, assign, store as put, again}
use Rattle.language.specs.Limits.{nodes, needs, need, repeats}
use Rattle.translation.specs.Code.{num, copy, calc, fetch, Single, set, store, jump, branch, Entry, inside, start, Code, stop, line, twice, block_at, blocks_from}
use Rattle.translation.specs.Compile.{expr, over, head_of, past, exit_of, code, whole, compiled}
use Rattle.translation.proofs.Twins.{twice-is}
use Rattle.translation.proofs.Placing.{entry_of, before, Line, Laid, build_laid}

-- what stands before a line, which is not the end
abbrev pub Open : Module → ℕ → Entry → Type 0
Open m p x = (before m (twice p) ≡ entry_of x) × (twice p < size m)

-- where the code of an expression stands
abbrev pub PlacedE : Module → ℕ → Entry → Tree → ℕ → Type 0
PlacedE m t x (number n) p = Line m p x (set t (num n))
PlacedE m t x (variable v) p = Line m p x (set t (copy v))
PlacedE m t x (cell e) p = (PlacedE m t x e p) × Line m (over e p) inside (set t (fetch t))
PlacedE m t x (node o e f) p =
    (PlacedE m t x e p) × (PlacedE m (suc t) inside f (over e p)) × Line m (over f (over e p)) inside (set t (calc o t (suc t)))

-- what stands behind the code of a plan
abbrev pub left : Entry → ℕ → Plan → Entry
left x c done = x
left x c (assign v e P) = left inside c P
left x c (put a e P) = left inside c P
left x c (again e B P) = left (start c) c P

-- the lines of a REPEAT around its body: the head is line p, and the END's first line is b
pub record Loop (m : Module) (c p b : ℕ) (x : Entry) : Type 0 where
  pub head : Line m p (start (suc c)) (set 10 (num (twice (suc (suc (suc (suc b)))))))
  pub test : Line m (suc p) inside (branch c 10)
  pub one : Line m b x (set 10 (num 1))
  pub down : Line m (suc b) inside (set c (calc Sub c 10))
  pub back : Line m (suc (suc b)) inside (set 10 (num (twice p)))
  pub leap : Line m (suc (suc (suc b))) inside (jump 10)

-- where the code of a plan stands
abbrev pub PlacedP : Module → ℕ → Entry → Plan → ℕ → Type 0
PlacedP m c x done p = Open m p x
PlacedP m c x (assign v e P) p = (PlacedE m 10 x e p) × (Line m (over e p) inside (set v (copy 10))) × PlacedP m c inside P (suc (over e p))
PlacedP m c x (put a b P) p =
    (PlacedE m 10 x a p) × (PlacedE m 11 inside b (over a p)) × (Line m (over b (over a p)) inside (store 10 11)) × PlacedP m c inside P (suc (over b (over a p)))
PlacedP m c x (again e B P) p =
    (PlacedE m 10 x e p) × (Line m (over e p) inside (set c (copy 10))) × (Loop m c (head_of e p) (past B (suc (suc (head_of e p)))) (left inside (suc c) B))
    × (PlacedP m (suc c) inside B (suc (suc (head_of e p)))) × PlacedP m c (start c) P (exit_of e B p)

module _ (m : Module) where
  line_open : {p : ℕ} {x : Entry} {i : Single} → Line m p x i → Open m p x
  line_open L = (L.before_is, omega (arith, L.room))

  expr_open : (e : Tree) (t p : ℕ) (x : Entry) → PlacedE m t x e p → Open m p x
  expr_open (number n) t p x h = line_open h
  expr_open (variable v) t p x h = line_open h
  expr_open (cell e) t p x h = expr_open e t p x h.0
  expr_open (node o e f) t p x h = expr_open e t p x h.0

  pub plan_open : (P : Plan) (c p : ℕ) (x : Entry) → PlacedP m c x P p → Open m p x
  plan_open done c p x h = h
  plan_open (assign v e P) c p x h = expr_open e 10 p x h.0
  plan_open (put a b P) c p x h = expr_open a 10 p x h.0
  plan_open (again e B P) c p x h = expr_open e 10 p x h.0

  place_expr : (e : Tree) (t p : ℕ) (x : Entry) (l : Code) → Laid m p (expr x t e l) → (PlacedE m t x e p) × Laid m (over e p) l
  place_expr (number n) t p x l h = h
  place_expr (variable v) t p x l h = h
  place_expr (cell e) t p x l h = let a = place_expr e t p x _ h in ((a.0, a.1.0), a.1.1)
  place_expr (node o e f) t p x l h =
      let a = place_expr e t p x _ h in
      let b = place_expr f (suc t) (over e p) inside _ a.1 in
      ((a.0, b.0, b.1.0), b.1.1)

  -- l makes code that begins with what it is given
  abbrev pub Begins : (Entry → Code) → ℕ → Type 0
  Begins l p = (x : Entry) → Laid m p (l x) → Open m p x

  place_plan : (P : Plan) (c p : ℕ) (x : Entry) (l : Entry → Code) → Begins l (past P p) → Laid m p (code x c p P l) →
      (PlacedP m c x P p) × Laid m (past P p) (l (left x c P))
  place_plan done c p x l k h = (k x h, h)
  place_plan (assign v e P) c p x l k h =
      let a = place_expr e 10 p x _ h in
      let r = place_plan P c (suc (over e p)) inside l k a.1.1 in
      ((a.0, a.1.0, r.0), r.1)
  place_plan (put a b P) c p x l k h =
      let d = place_expr a 10 p x _ h in
      let e = place_expr b 11 (over a p) inside _ d.1 in
      let r = place_plan P c (suc (over b (over a p))) inside l k e.1.1 in
      ((d.0, e.0, e.1.0, r.0), r.1)
  place_plan (again e B P) c p x l k h =
      let a = place_expr e 10 p x _ h in
      let b = place_plan B (suc c) (suc (suc (head_of e p))) inside (λ y.
      line y (set 10 (num 1)) (line inside (set c (calc Sub c 10)) (line inside (set 10 (num (twice (head_of e p))))
      (line inside (jump 10) (code (start c) c (exit_of e B p) P l))))) (λ x H. line_open H.0) a.1.1.1.1 in
      let r = place_plan P c (exit_of e B p) (start c) l k b.1.1.1.1.1 in
      ((a.0, a.1.0, record { head = a.1.1.0; test = a.1.1.1.0; one = b.1.0; down = b.1.1.0; back = b.1.1.1.0; leap = b.1.1.1.1.0 }, b.0, r.0), r.1)

-- the number of lines
pub over-is : (e : Tree) (p : ℕ) → over e p ≡ p + nodes e
over-is (number n) p = omega arith
over-is (variable v) p = omega arith
over-is (cell e) p = omega (arith, over-is e p)
over-is (node o e f) p = omega (arith, over-is e p, over-is f (over e p))

pub past_is : (P : Plan) (p : ℕ) → 2 * past P p ≡ 2 * p + needs P
past_is done p = omega arith
past_is (assign v e P) p = omega (arith, over-is e p, past_is P (suc (over e p)))
past_is (put a b P) p = omega (arith, over-is a p, over-is b (over a p), past_is P (suc (over b (over a p))))
past_is (again e B P) p = omega (arith, over-is e p, past_is B (suc (suc (head_of e p))), past_is P (exit_of e B p))

-- the number of blocks
abbrev starting : Entry → ℕ
starting inside = 0
starting (start n) = 1

block_more : (p : ℕ) (x : Entry) (bs : List Block) → length (block_at p x bs) ≡ starting x + length bs
block_more p inside bs = omega arith
block_more p (start n) bs = omega arith

expr-blocks : (e : Tree) (t p : ℕ) (x : Entry) (l : Code) → length (blocks_from p (expr x t e l)) ≡ starting x + length (blocks_from (over e p) l)
expr-blocks (number n) t p x l = block_more p x (blocks_from (suc p) l)
expr-blocks (variable v) t p x l = block_more p x (blocks_from (suc p) l)
expr-blocks (cell e) t p x l = expr-blocks e t p x (line inside (set t (fetch t)) l)
expr-blocks (node o e f) t p x l =
    let r = line inside (set t (calc o t (suc t))) l in
    omega (arith, expr-blocks e t p x (expr inside (suc t) f r), expr-blocks f (suc t) (over e p) inside r)

plan-blocks : (P : Plan) (c p : ℕ) (x : Entry) (l : Entry → Code) (n : ℕ) → ((y : Entry) → length (blocks_from (past P p) (l y)) ≡ starting y + n) →
    length (blocks_from p (code x c p P l)) ≡ starting x + n + 2 * repeats P
plan-blocks done c p x l n h = omega (arith, h x)
plan-blocks (assign v e P) c p x l n h =
    let r = line inside (set v (copy 10)) (code inside c (suc (over e p)) P l) in
    omega (arith, expr-blocks e 10 p x r, plan-blocks P c (suc (over e p)) inside l n h)
plan-blocks (put a b P) c p x l n h =
    let r = line inside (store 10 11) (code inside c (suc (over b (over a p))) P l) in
    omega (arith, expr-blocks a 10 p x (expr inside 11 b r), expr-blocks b 11 (over a p) inside r, plan-blocks P c (suc (over b (over a p))) inside l n h)
plan-blocks (again e B P) c p x l n h =
    let back : Entry → Code = λ y.
    line y (set 10 (num 1)) (line inside (set c (calc Sub c 10)) (line inside (set 10 (num (twice (head_of e p))))
    (line inside (jump 10) (code (start c) c (exit_of e B p) P l)))) in
    let b = past B (suc (suc (head_of e p))) in
    let k = plan-blocks P c (exit_of e B p) (start c) l n h in
    omega (
      arith,
      expr-blocks e 10 p x (line inside (set c (copy 10)) (line (start (suc c)) (set 10 (num (twice (exit_of e B p)))) (line inside (branch c 10) (code inside (suc c) (suc (suc (head_of e p))) B back)))),
      plan-blocks B (suc c) (suc (suc (head_of e p))) inside back (1 + n + 2 * repeats P) (λ y. block_more b y (blocks_from (exit_of e B p) (code (start c) c (exit_of e B p) P l)) ∙ ap (λ z. starting y + z) k),
    )

pub whole-blocks : (P : Plan) → length (compiled P).blocks ≡ 1 + 2 * repeats P
whole-blocks P = omega (arith, plan-blocks P 6 6 inside stop 0 (λ y. block_more (past P 6) y []))

-- where the code of a whole plan stands
pub record Standing (P : Plan) : Type 0 where
  pub zeros :
      (Line (compiled P) 0 (start 0) (set 0 (num 0))) × (Line (compiled P) 1 inside (set 1 (num 0))) × (Line (compiled P) 2 inside (set 2 (num 0)))
      × (Line (compiled P) 3 inside (set 3 (num 0))) × (Line (compiled P) 4 inside (set 4 (num 0))) × (Line (compiled P) 5 inside (set 5 (num 0)))
  pub plan : PlacedP (compiled P) 6 inside P 6
  pub end : (before (compiled P) (twice (past P 6)) ≡ entry_of (left inside 6 P)) × (instr (compiled P) (twice (past P 6)) ≡ halt) × (size (compiled P) ≡ suc (twice (past P 6)))
  pub size_is : size (compiled P) ≡ need P

pub standing : (P : Plan) → Standing P
standing P =
    let L = build_laid (whole P) in
    let p = place_plan (compiled P) P 6 6 inside stop (λ x H. (H.0, omega (arith, H.2))) L.1.1.1.1.1.1 in
    record {
      zeros = (L.0, L.1.0, L.1.1.0, L.1.1.1.0, L.1.1.1.1.0, L.1.1.1.1.1.0);
      plan = p.0;
      end = p.1;
      size_is = omega (arith, p.1.2, past_is P 6, twice-is (past P 6));
    }
