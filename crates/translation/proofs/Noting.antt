-- The rules of the check are kept in doubled code.
use Rattle.std.proofs.Common.{◌≡◌, ℕ, suc, ◌+◌, ◌<◌, ◌≤◌, max, Bool, true, not, ◌||◌, List, [], ◌∷◌, sym, refl, ap, ◌∙◌, add-one, arith}
use Rattle.std.specs.Cmp.Derive.{both_true}
use mathlib.Core.Path.{subst⁻¹}
use native.Mathlib.Decide.{dec_lt}
use lib.Dec.{eqb-suc-zero}
use Rattle.std.proofs.lemmas.Bool.{eq-eqb, lt-ltb, le-leb, or_left, or_right}
use Rattle.isa.specs.Registers.{registers}
use Rattle.isa.specs.Words.{second_word as immediate}
use Rattle.rules.specs.Limits.{Limits}
use Rattle.rules.specs.Expressions.{Expr, num as lit, load, mk}
use Rattle.rules.specs.Notes as notes
use Rattle.rules.specs.Notes.{Colour, green, blue, Kind, halt, Note, note, Notes, Dest, clear, jump as jump_to, branch as branch_to, Static, expr_of, target_of, combine, next, upd, noted?, has?, alike?}
use Rattle.rules.specs.Cards.{Block, Card, entry, starts?, enters?, met?}
use Rattle.rules.specs.Cards as rules
use Rattle.rules.specs.Rules.{needs, all?, leaves?, numeral?, target?, arrives?}
use Rattle.rules.specs.Module.{Module, size, instr, passable?, falls?, last?, rule?, enter, static, kept_at}
use Rattle.rules.proofs.Sameness.{eq_same}
use Rattle.translation.specs.Code.{Source, num, copy, calc, fetch, Single, set, store, jump, branch, Entry, twice, place, dye}
use Rattle.translation.proofs.Twins.{spread, spread_at, upd_twin, upd_green, twice-is}
use Rattle.translation.proofs.Values.{Word, WordIn}
use Rattle.translation.proofs.Placing.{before, Line}
use Rattle.translation.proofs.Knowing.{Known, known, known?, tint, ex, tint_is, colour_refl, stat, both}

-- each of the tests holds
abbrev Each : List Bool → Type 0
Each [] = Unit {0}
Each (b ∷ l) = (b ≡ true) × Each l

all_of : (l : List Bool) → Each l → all? l ≡ true
all_of [] h = refl
all_of (b ∷ l) h = both_true h.0 (all_of l h.1)

by_needs : (L : Limits) (m : Module) (q : ℕ) (i : Kind) (S : Static) → Each (needs L m.blocks (last? m q) i S) → (leaves? i || falls? m q (next i S)) ≡ true → rule? L m q i S ≡ true
by_needs L m q i S h f = both_true (all_of (needs L m.blocks (last? m q) i S) h) f

-- what the note of a twin is after a setting
abbrev pub sense : Source → (ℕ → Known) → ℕ → Expr
sense (num n) N k = lit n
sense (copy b) N k = ex (N b)
sense (calc o b d) N k = mk o (ex (N b)) (ex (N d))
sense (fetch b) N k = load k (ex (N b))

-- D holds of each twin that is read
abbrev pub Reads : (ℕ → Type 0) → Source → Type 0
Reads D (num n) = Unit {0}
Reads D (copy b) = D b
Reads D (calc o b d) = (D b) × D d
Reads D (fetch b) = D b

-- one colour's half of a setting, the registers of that colour having the notes N
module _ (c : Colour) (a : ℕ) (M : Notes) (k : ℕ) (N : ℕ → Known) (h : (j : ℕ) → M (place c j) ≡ tint c (N j)) where
  note_is : (b : ℕ) → known? (N b) ≡ true → M (place c b) ≡ note c (ex (N b))
  note_is b r = h b ∙ tint_is c (N b) r

  load_is : (d : Colour) → notes.stores (stat M k) d ≡ k
  load_is green = refl
  load_is blue = refl

  set_next : (s : Source) → Reads (λ b. known? (N b) ≡ true) s → next (dye c (set a s)) (stat M k) ≡ stat (upd M (place c a) (note c (sense s N k))) k
  set_next (num n) r = refl
  set_next (copy b) r = λ j. stat (upd M (place c a) (note_is b r j)) k
  set_next (calc o b d) r = λ j. stat (upd M (place c a) (combine o (note_is b r.0 j) (note_is d r.1 j))) k
  set_next (fetch b) r = λ j. stat (upd M (place c a) (note c (load (load_is c j) (expr_of (note_is b r j))))) k

  set_rule : (L : Limits) (m : Module) (q : ℕ) (s : Source) → Reads (λ b. known? (N b) ≡ true) s →
      falls? m q (next (dye c (set a s)) (stat M k)) ≡ true → rule? L m q (dye c (set a s)) (stat M k) ≡ true
  set_rule L m q (num n) r f = by_needs L m q (dye c (set a (num n))) (stat M k) tt f
  set_rule L m q (copy b) r f = by_needs L m q (dye c (set a (copy b))) (stat M k) (ap noted? (note_is b r), tt) f
  set_rule L m q (calc o b d) r f =
      by_needs L m q (dye c (set a (calc o b d))) (stat M k) ((λ j. alike? (note_is b r.0 j) (note_is d r.1 j)) ∙ colour_refl c, tt) f
  set_rule L m q (fetch b) r f = by_needs L m q (dye c (set a (fetch b))) (stat M k) (ap (has? c) (note_is b r) ∙ colour_refl c, tt) f

-- the rule of an instruction is kept under all limits that allow one pending pair
abbrev Kept : Module → ℕ → Kind → Static → Type 0
Kept m q i S = (L : Limits) → 1 ≤ L.queue → rule? L m q i S ≡ true

-- a place whose rule is kept, and whose registers and number are in bounds
pub record Fair (m : Module) (q : ℕ) : Type 0 where
  pub rule : (L : Limits) → 1 ≤ L.queue → kept_at L m q ≡ true
  pub word : Word (immediate (instr m q))
  pub fields : registers (instr m q) ≤ 32

abbrev pub Below : Module → ℕ → Type 0
Below m n = (q : ℕ) → q < n → Fair m q

-- with the notes N before line p, k being the number of stores since the block's start
abbrev pub Here : Module → ℕ → (ℕ → Known) → ℕ → Type 0
Here m p N k = (Below m (twice p)) × (static m (twice p) ≡ both N k)

-- with the notes N before what stands there
abbrev pub Arrived : Module → ℕ → (ℕ → Known) → ℕ → Type 0
Arrived m p N k = passable? (before m (twice p)) (both N k) ≡ true → (Below m (twice p)) × (static m (twice p) ≡ enter (before m (twice p)) (both N k))

fair : {m : Module} {q : ℕ} {i : Kind} {S : Static} → instr m q ≡ i → static m q ≡ S → Kept m q i S → Word (immediate i) → registers i ≤ 32 → Fair m q
fair {m} {q} {i} {S} e h r w f = record {
  rule = λ L l. (λ j. rule? L m q (e j) (h j)) ∙ r L l;
  word = subst⁻¹ (λ x. Word (immediate x)) e w;
  fields = subst⁻¹ (λ x. registers x ≤ 32) e f;
}

below_two : {m : Module} {n : ℕ} → Below m n → Fair m n → Fair m (suc n) → Below m (suc (suc n))
below_two {m} {n} B a b q h = one (dec_lt q n) (dec_lt q (suc n))
  where
    one : Dec (q < n) → Dec (q < suc n) → Fair m q
    one (yes k) y = B q k
    one (no k) (yes z) = let e : q ≡ n = omega arith in subst⁻¹ (Fair m) e a
    one (no k) (no z) = let e : q ≡ suc n = omega arith in subst⁻¹ (Fair m) e b

module _ {m : Module} {p : ℕ} {x : Entry} {i : Single} (L : Line m p x i) where
  falls_inside : (S : Static) → falls? m (twice p) S ≡ true
  falls_inside S = both_true (lt-ltb _ _ (omega (arith, L.room))) (ap (λ y. passable? y S) (ap (before m) (add-one (twice p)) ∙ L.between))

  falls_on : (S : Static) → passable? (before m (twice (suc p))) S ≡ true → falls? m (suc (twice p)) S ≡ true
  falls_on S h = both_true (lt-ltb _ _ (omega (arith, L.room))) (ap (λ y. passable? (before m y) S) (add-one (suc (twice p))) ∙ h)

  -- a line that leads from the notes N to N', by way of S
  line_checked : (N N' : ℕ → Known) (k k' : ℕ) (S : Static) → Here m p N k → next (dye green i) (both N k) ≡ S → next (dye blue i) S ≡ both N' k' →
      ((c : Colour) → (Word (immediate (dye c i))) × (registers (dye c i) ≤ 32)) →
      Kept m (twice p) (dye green i) (both N k) → (passable? (before m (twice (suc p))) (both N' k') ≡ true → Kept m (suc (twice p)) (dye blue i) S) → Arrived m (suc p) N' k'
  line_checked N N' k k' S H e e' f r r' z =
      let a : static m (suc (twice p)) ≡ S = (λ j. enter (L.between j) (next (L.first j) (H.1 j))) ∙ e in (
        below_two H.0 (fair L.first H.1 r (f green).0 (f green).1) (fair L.second a (r' z) (f blue).0 (f blue).1),
        (λ j. enter (before m (twice (suc p))) (next (L.second j) (a j))) ∙ ap (enter (before m (twice (suc p)))) e',
      )

place_below : (c : Colour) (a : ℕ) → a < 16 → place c a < 32
place_below green a h = omega (arith, twice-is a)
place_below blue a h = omega (arith, twice-is a)

two_bounds : (c : Colour) (a b : ℕ) → a < 16 → b < 16 → max (suc (place c a)) (suc (place c b)) ≤ 32
two_bounds c a b la lb = omega (arith, place_below c a la, place_below c b lb)

set_bounds : (a : ℕ) (s : Source) → a < 16 → Reads (λ b. b < 16) s → WordIn s → (c : Colour) → (Word (immediate (dye c (set a s)))) × (registers (dye c (set a s)) ≤ 32)
set_bounds a (num n) h r w c = (w, place_below c a h)
set_bounds a (copy b) h r w c = (omega arith, two_bounds c a b h r)
set_bounds a (calc o b d) h r w c = (omega arith, omega (arith, place_below c a h, place_below c b r.0, place_below c d r.1))
set_bounds a (fetch b) h r w c = (omega arith, two_bounds c a b h r)

module _ (N : ℕ → Known) where
  note_at : (c : Colour) (a : ℕ) → known? (N a) ≡ true → spread tint N (place c a) ≡ note c (ex (N a))
  note_at c a h = spread_at tint N c a ∙ tint_is c (N a) h

  lit_at : (c : Colour) (a t : ℕ) → N a ≡ known (lit t) → spread tint N (place c a) ≡ note c (lit t)
  lit_at c a t h = spread_at tint N c a ∙ ap (tint c) h

-- a number
numeral_ok : (c : Colour) (t : ℕ) (n : Note) → n ≡ note c (lit t) → numeral? c n ≡ true
numeral_ok c t n e = ap (numeral? c) e ∙ both_true (colour_refl c) refl

-- that is a block's start
target_ok : (bs : List Block) (t : ℕ) (n : Note) (K : Card) → n ≡ note green (lit (twice (suc t))) → entry bs (twice (suc t)) ≡ rules.start K → target? bs n ≡ true
target_ok bs t n K e h =
    ap (target? bs) e ∙ both_true (ap not (eqb-suc-zero (suc (twice t)))) (ap starts? h)

arrives_ok : (bs : List Block) (t : ℕ) (n : Note) (K : Card) (M : Notes) (k : ℕ) (d : Dest) → n ≡ note blue (lit t) → entry bs t ≡ rules.start K → met? K M ≡ true →
    arrives? bs (target_of n) (record { notes = M; pending = []; k_g = k; k_b = k; dest = d }) ≡ true
arrives_ok bs t n K M k d e h r = ap (λ y. enters? (entry bs (target_of y)) M) e ∙ ap (λ y. enters? y M) h ∙ r

module _ (m : Module) (p : ℕ) (N : ℕ → Known) (k : ℕ) {x : Entry} (H : Here m p N k) where
  pub check_set : (a : ℕ) (s : Source) → Line m p x (set a s) → Reads (λ b. known? (N b) ≡ true) s → a < 16 → Reads (λ b. b < 16) s → WordIn s →
      Arrived m (suc p) (upd N a (known (sense s N k))) k
  check_set a s L r la ls ws =
      let e = sense s N k in
      let M = upd (spread tint N) (place green a) (note green e) in
      let g = spread_at tint N green in
      let b = upd_green tint N a (note green e) in
      let n = set_next blue a M k N b s r ∙ ap (λ n. stat n k) (upd_twin tint N a (known e)) in
      line_checked L N (upd N a (known e)) k k (stat M k) H (set_next green a (spread tint N) k N g s r) n (set_bounds a s la ls ws)
      (λ q l. set_rule green a (spread tint N) k N g q m (twice p) s r (falls_inside L _))
      λ z q l. set_rule blue a M k N b q m (suc (twice p)) s r (falls_on L _ (ap (passable? (before m (twice (suc p)))) n ∙ z))

  pub check_store : (a b : ℕ) → Line m p x (store a b) → known? (N a) ≡ true → known? (N b) ≡ true → a < 16 → b < 16 → Arrived m (suc p) N (k + 1)
  check_store a b L ka kb la lb =
      let S : Static = record { notes = spread tint N; pending = (ex (N a), ex (N b)) ∷ []; k_g = k + 1; k_b = k; dest = clear } in
      line_checked L N N k (k + 1) S H
      (λ j. record { notes = spread tint N; pending = (expr_of (note_at N green a ka j), expr_of (note_at N green b kb j)) ∷ []; k_g = k + 1; k_b = k; dest = clear })
      refl (λ c. (omega arith, two_bounds c a b la lb))
      (λ q l. by_needs q m (twice p) (dye green (store a b)) (both N k) (ap (has? green) (note_at N green a ka), (ap (has? green) (note_at N green b kb), (lt-ltb 0 q.queue (omega arith), tt))) (falls_inside L _))
      λ z q l. by_needs q m (suc (twice p)) (dye blue (store a b)) S (
        ap (has? blue) (note_at N blue a ka),
        (
          ap (has? blue) (note_at N blue b kb),
          (both_true (eq_same _ _ (ap expr_of (note_at N blue a ka))) (eq_same _ _ (ap expr_of (note_at N blue b kb))), tt),
        ),
      ) (falls_on L _ z)

  pub check_branch : (a b t : ℕ) (K : Card) → Line m p x (branch a b) → known? (N a) ≡ true → N b ≡ known (lit (twice (suc t))) → before m (twice (suc t)) ≡ rules.start K → met? K (spread tint N) ≡ true →
      a < 16 → b < 16 → Arrived m (suc p) N k
  check_branch a b t K L ka kb en mt la lb =
      let d = twice (suc t) in
      let S : Static = record { notes = spread tint N; pending = []; k_g = k; k_b = k; dest = branch_to (ex (N a)) d } in
      let gb = lit_at N green b d kb in
      let bb = lit_at N blue b d kb in
      line_checked L N N k k S H
      (λ j. record { notes = spread tint N; pending = []; k_g = k; k_b = k; dest = branch_to (expr_of (note_at N green a ka j)) (target_of (gb j)) })
      refl (λ c. (omega arith, two_bounds c a b la lb))
      (λ q l. by_needs q m (twice p) (dye green (branch a b)) (both N k) (ap (has? green) (note_at N green a ka), (target_ok m.blocks t _ K gb en, (refl, tt))) (falls_inside L _))
      λ z q l. by_needs q m (suc (twice p)) (dye blue (branch a b)) S (
        ap (has? blue) (note_at N blue a ka),
        (
          numeral_ok blue d _ bb,
          (
            both_true (eq_same _ _ (sym (ap expr_of (note_at N blue a ka)))) (eq-eqb _ _ (sym (ap target_of bb))),
            (arrives_ok m.blocks d _ K (spread tint N) k (branch_to (ex (N a)) d) bb en mt, tt),
          ),
        ),
      ) (falls_on L _ z)

  pub check_jump : (a t : ℕ) (K K' : Card) → Line m p x (jump a) → N a ≡ known (lit (twice (suc t))) → before m (twice (suc t)) ≡ rules.start K → met? K (spread tint N) ≡ true →
      before m (twice (suc p)) ≡ rules.start K' → a < 16 → Arrived m (suc p) N k
  check_jump a t K K' L ka en mt en' la =
      let d = twice (suc t) in
      let S : Static = record { notes = spread tint N; pending = []; k_g = k; k_b = k; dest = jump_to d } in
      let ga = lit_at N green a d ka in
      let ba = lit_at N blue a d ka in
      line_checked L N N k k S H
      (λ j. record { notes = spread tint N; pending = []; k_g = k; k_b = k; dest = jump_to (target_of (ga j)) })
      refl (λ c. (omega arith, place_below c a la))
      (λ q l. by_needs q m (twice p) (dye green (jump a)) (both N k) (refl, (target_ok m.blocks t _ K ga en, tt)) (falls_inside L _))
      λ z q l. by_needs q m (suc (twice p)) (dye blue (jump a)) S (
        numeral_ok blue d _ ba,
        (
          eq-eqb _ _ (sym (ap target_of ba)),
          (
            arrives_ok m.blocks d _ K (spread tint N) k (jump_to d) ba en mt,
            (or_right _ _ (ap (λ y. starts? (before m y)) (add-one (suc (twice p))) ∙ ap starts? en'), tt),
          ),
        ),
      ) refl

pub check_halt : (m : Module) (p : ℕ) (N : ℕ → Known) (k : ℕ) → Here m p N k → instr m (twice p) ≡ halt → size m ≡ suc (twice p) → Fair m (twice p)
check_halt m p N k H h e =
    fair h H.1 (λ q l. by_needs q m (twice p) halt (both N k) (refl, (refl, (or_left _ _ (le-leb (size m) (twice p + 1) (omega arith)), tt))) refl) (omega arith) (omega arith)
