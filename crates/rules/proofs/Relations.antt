-- The rules of the check, as relations: what the proofs use of them.
use Rattle.std.proofs.Common.{◌≡◌, ℕ, zero, suc, ◌+◌, ◌<◌, Bool, true, false, not, ◌||◌, eqb, ltb, ◌≢◌, List, [], ◌∷◌, length, get_or, sym, refl, ap, subst, add-zero, zero-add, add-one, arith, Some, None}
use mathlib.Core.Path.{subst⁻¹}
use Rattle.std.proofs.lemmas.Bool.{true≢false, false≢true, and_parts, eqb-true, eq-eqb, ltb-true, not-true, both_ways}
use Rattle.rules.specs.Limits.{Limits}
use Rattle.rules.specs.Expressions.{Expr, same?, Numeral, none, is, num_of, number?, or_zero}
use Rattle.rules.specs.Notes.{Colour, green, blue, Register, Kind, mov, cpy, arith as arith-op, ld, st, jmp, bz, halt, Note, nothing, note, Notes, Pending, Dest, clear, jump, branch, Static, note_of, expr_of, target_of, next, colour?, noted?, has?, alike?, none?, clear?}
use Rattle.rules.specs.Cards.{Slot, Block, Card, chosen, meets?, meet_all?, met?, Entry, inside, start, entry, enters?}
use Rattle.rules.specs.Rules.{oldest?, jump?, branch?, numeral?, target?, arrives?, needs, all?, own?, leaves?}
use Rattle.rules.specs.Module.{Module, size, passable?, falls?, last?, rule?}

-- two expressions that the check takes for the same
abbrev pub Same : Expr → Expr → Type 0
Same e f = same? e f ≡ true

wrong : {A : Type 0} → false ≡ true → A
wrong h = absurd (false≢true h)

abbrev Each : List Bool → Type 0
Each [] = Unit {0}
Each (b ∷ l) = (b ≡ true) × Each l

each : (l : List Bool) → all? l ≡ true → Each l
each [] h = tt
each (b ∷ l) h = let p = and_parts b (all? l) h in (p.0, each l p.1)

colour_is : (c d : Colour) → colour? c d ≡ true → c ≡ d
colour_is green green t = refl
colour_is green blue t = wrong t
colour_is blue green t = wrong t
colour_is blue blue t = refl

has_is : (c : Colour) (n : Note) → has? c n ≡ true → n ≡ note c (expr_of n)
has_is c nothing t = wrong t
has_is c (note d e) t = ap (λ x. note x e) (sym (colour_is c d t))

alike_is : (n k : Note) → alike? n k ≡ true → (c : Colour) × (n ≡ note c (expr_of n)) × (k ≡ note c (expr_of k))
alike_is nothing k t = wrong t
alike_is (note c e) k t = (c, refl, has_is c k t)

number_is : (n : Numeral) → number? n ≡ true → n ≡ is (or_zero n)
number_is none t = wrong t
number_is (is n) t = refl

none_is : (ps : Pending) → none? ps ≡ true → ps ≡ []
none_is [] t = refl
none_is (x ∷ ps) t = wrong t

clear-is : (D : Dest) → clear? D ≡ true → D ≡ clear
clear-is clear t = refl
clear-is (jump x) t = wrong t
clear-is (branch e x) t = wrong t

jump-is : (D : Dest) (x : ℕ) → jump? D x ≡ true → D ≡ jump x
jump-is clear x t = wrong t
jump-is (jump y) x t = ap jump (eqb-true y x t)
jump-is (branch e y) x t = wrong t

-- the destination is "if f, t", f being the same as e
abbrev pub If : Dest → Expr → ℕ → Type 0
If D e t = (f : Expr) × (Same f e) × (D ≡ branch f t)

branch-is : (D : Dest) (e : Expr) (x : ℕ) → branch? D e x ≡ true → If D e x
branch-is clear e x t = wrong t
branch-is (jump y) e x t = wrong t
branch-is (branch f y) e x t = let p = and_parts (same? f e) (eqb y x) t in (f, p.0, ap (branch f) (eqb-true y x p.1))

-- the oldest pending pair is the same as (e, f)
pub record Oldest (ps : Pending) (e f : Expr) : Type 0 where
  pub address : Expr
  pub word : Expr
  pub later : Pending
  pub begins : ps ≡ (address, word) ∷ later
  pub same_address : Same e address
  pub same_word : Same f word

oldest_is : (ps : Pending) (e f : Expr) → oldest? ps e f ≡ true → Oldest ps e f
oldest_is [] e f t = wrong t
oldest_is (p ∷ q) e f t =
    let h = and_parts (same? e p.0) (same? f p.1) t in
    record { address = p.0; word = p.1; later = q; begins = refl; same_address = h.0; same_word = h.1 }

-- the note has this colour
abbrev pub Coloured : Colour → Note → Type 0
Coloured t nothing = ⊥
Coloured t (note c e) = c ≡ t

-- registers that the notes N colour have the same colour by the notes O
abbrev pub Sub : Notes → Notes → Type 0
Sub N O = (t : Colour) (r : ℕ) → Coloured t (N r) → Coloured t (O r)

-- register r has a note of colour c
abbrev pub Has : Static → Register → Colour → Type 0
Has S r c = note_of S r ≡ note c (expr_of (note_of S r))

-- and it is a number
abbrev pub HasNumber : Static → Register → Colour → Type 0
HasNumber S r c = (Has S r c) × (num_of (expr_of (note_of S r)) ≡ is (target_of (note_of S r)))

numeral-is : (c : Colour) (S : Static) (r : Register) → numeral? c (note_of S r) ≡ true → HasNumber S r c
numeral-is c S r t =
    let p = and_parts (has? c (note_of S r)) (number? (num_of (expr_of (note_of S r)))) t in
    (has_is c (note_of S r) p.0, number_is (num_of (expr_of (note_of S r))) p.1)

-- and it is green, and not 0
abbrev pub Target : Static → Register → Type 0
Target S r = (HasNumber S r green) × (target_of (note_of S r) ≢ 0)

target_is : (bs : List Block) (S : Static) (r : Register) → target? bs (note_of S r) ≡ true → Target S r
target_is bs S r t =
    let p = and_parts (numeral? green (note_of S r)) _ t in
    let q = and_parts (not (eqb (target_of (note_of S r)) 0)) _ p.1 in
    (numeral-is green S r p.0, λ z. both_ways _ (not-true _ q.0) (eq-eqb _ 0 z))

-- a note meets a card's entry, θ giving each variable an expression
abbrev pub Meets : (ℕ → Expr) → Slot → Note → Type 0
Meets θ None n = Unit {0}
Meets θ (Some (c, v)) nothing = ⊥
Meets θ (Some (c, v)) (note d e) = (c ≡ d) × Same e (θ v.number)

-- a card is met: for some choice of expressions, every entry is
abbrev pub Met : Card → Notes → Type 0
Met K N = (θ : ℕ → Expr) × ((r : ℕ) → Meets θ (get_or K r None) (N r))

meets_is : (θ : ℕ → Expr) (x : Slot) (n : Note) → meets? θ x n ≡ true → Meets θ x n
meets_is θ None n t = tt
meets_is θ (Some (c, v)) nothing t = wrong t
meets_is θ (Some (c, v)) (note d e) t = let p = and_parts (colour? c d) (same? e (θ v.number)) t in (colour_is c d p.0, p.1)

meet_each : (θ : ℕ → Expr) (K : Card) (N : Notes) (k : ℕ) → meet_all? θ k K N ≡ true → (r : ℕ) → Meets θ (get_or K r None) (N (k + r))
meet_each θ [] N k t r = tt
meet_each θ (x ∷ K) N k t zero =
    subst⁻¹ (λ j. Meets θ x (N j)) (add-zero k) (meets_is θ x (N k) (and_parts (meets? θ x (N k)) (meet_all? θ (k + 1) K N) t).0)
meet_each θ (x ∷ K) N k t (suc r) =
    let e : k + 1 + r ≡ k + suc r = omega arith in
    subst (λ j. Meets θ (get_or K r None) (N j)) e (meet_each θ K N (k + 1) (and_parts (meets? θ x (N k)) (meet_all? θ (k + 1) K N) t).1 r)

met_is : (K : Card) (N : Notes) → met? K N ≡ true → Met K N
unfolding met?
met_is K N t = (chosen 0 K N, λ r. subst (λ j. Meets (chosen 0 K N) (get_or K r None) (N j)) (zero-add r) (meet_each (chosen 0 K N) K N 0 t r))

-- a block starts there, and its card is met
abbrev pub Enters : Entry → Notes → Type 0
Enters inside N = ⊥
Enters (start K) N = Met K N

enters_is : (e : Entry) (N : Notes) → enters? e N ≡ true → Enters e N
enters_is inside N t = wrong t
enters_is (start K) N t = met_is K N t

-- the same, with nothing pending
abbrev pub Arrives : List Block → ℕ → Static → Type 0
Arrives bs t S = (S.pending ≡ []) × Enters (entry bs t) S.notes

arrives_is : (bs : List Block) (t : ℕ) (S : Static) → arrives? bs t S ≡ true → Arrives bs t S
arrives_is bs t S h = let p = and_parts (none? S.pending) (enters? (entry bs t) S.notes) h in (none_is _ p.0, enters_is (entry bs t) S.notes p.1)

-- the next place is in the block, or starts one that can be entered
abbrev pub Passable : Entry → Static → Type 0
Passable inside S = Unit {0}
Passable (start K) S = (S.pending ≡ []) × (S.dest ≡ clear) × Met K S.notes

passable_is : (e : Entry) (S : Static) → passable? e S ≡ true → Passable e S
passable_is inside S t = tt
passable_is (start K) S t =
    let p = and_parts (none? S.pending) _ t in
    let q = and_parts (clear? S.dest) (met? K S.notes) p.1 in
    (none_is _ p.0, clear-is _ q.0, met_is K S.notes q.1)

abbrev pub Falls : Module → ℕ → Static → Type 0
Falls m p S = (suc p < size m) × Passable (entry m.blocks (suc p)) S

falls_is : (m : Module) (p : ℕ) (S : Static) → falls? m p S ≡ true → Falls m p S
falls_is m p S t =
    let h = and_parts (ltb (p + 1) (size m)) (passable? (entry m.blocks (p + 1)) S) t in
    let P : ℕ → Type 0 = λ q. (q < size m) × Passable (entry m.blocks q) S in
    subst P (add-one p) (ltb-true _ _ h.0, passable_is _ S h.1)

-- what the proofs use of an instruction's own rule, S being what is known before it
abbrev pub Own : Limits → List Block → Kind → Static → Type 0
Own L bs (mov c a n) S = Unit {0}
Own L bs (cpy a b) S = noted? (note_of S b) ≡ true
Own L bs (arith-op o a b c) S = (k : Colour) × (Has S b k) × (Has S c k)
Own L bs (ld c a b) S = Has S b c
Own L bs (st green a b) S = (Has S a green) × (Has S b green) × (length S.pending < L.queue)
Own L bs (st blue a b) S = (Has S a blue) × (Has S b blue) × (Oldest S.pending (expr_of (note_of S a)) (expr_of (note_of S b)))
Own L bs (jmp green a) S = (S.dest ≡ clear) × (Target S a)
Own L bs (jmp blue a) S = (HasNumber S a blue) × (S.dest ≡ jump (target_of (note_of S a))) × (Arrives bs (target_of (note_of S a)) S)
Own L bs (bz green a b) S = (Has S a green) × (Target S b) × (S.dest ≡ clear)
Own L bs (bz blue a b) S =
    (Has S a blue) × (HasNumber S b blue) × (If S.dest (expr_of (note_of S a)) (target_of (note_of S b))) × (Arrives bs (target_of (note_of S b)) S)
Own L bs halt S = (S.pending ≡ []) × (S.dest ≡ clear)

own_is : (L : Limits) (bs : List Block) (last : Bool) (i : Kind) (S : Static) → Each (needs L bs last i S) → Own L bs i S
own_is L bs last (mov c a n) S h = tt
own_is L bs last (cpy a b) S h = h.0
own_is L bs last (arith-op o a b c) S h = alike_is (note_of S b) (note_of S c) h.0
own_is L bs last (ld c a b) S h = has_is c (note_of S b) h.0
own_is L bs last (st green a b) S h = (has_is green (note_of S a) h.0, has_is green (note_of S b) h.1.0, ltb-true _ _ h.1.1.0)
own_is L bs last (st blue a b) S h = (has_is blue (note_of S a) h.0, has_is blue (note_of S b) h.1.0, oldest_is S.pending _ _ h.1.1.0)
own_is L bs last (jmp green a) S h = (clear-is _ h.0, target_is bs S a h.1.0)
own_is L bs last (jmp blue a) S h = (numeral-is blue S a h.0, jump-is _ _ h.1.0, arrives_is bs _ S h.1.1.0)
own_is L bs last (bz green a b) S h = (has_is green (note_of S a) h.0, target_is bs S b h.1.0, clear-is _ h.1.1.0)
own_is L bs last (bz blue a b) S h =
    (has_is blue (note_of S a) h.0, numeral-is blue S b h.1.0, branch-is S.dest _ _ h.1.1.0, arrives_is bs _ S h.1.1.1.0)
own_is L bs last halt S h = (none_is _ h.0, clear-is _ h.1.0)

-- the rule at a place: the instruction's own, and where it does not leave its block, that of the place behind it
pub record Rule (L : Limits) (m : Module) (p : ℕ) (i : Kind) (S : Static) : Type 0 where
  pub own : Own L m.blocks i S
  pub falls : leaves? i ≡ false → Falls m p (next i S)

either : (a b : Bool) → (a || b) ≡ true → a ≡ false → b ≡ true
either true b h e = absurd (true≢false e)
either false b h e = h

pub rule_is : (L : Limits) (m : Module) (p : ℕ) (i : Kind) (S : Static) → rule? L m p i S ≡ true → Rule L m p i S
rule_is L m p i S t =
    let h = and_parts (own? L m.blocks (last? m p) i S) (leaves? i || falls? m p (next i S)) t in
    record {
      own = own_is L m.blocks (last? m p) i S (each (needs L m.blocks (last? m p) i S) h.0);
      falls = λ e. falls_is m p (next i S) (either (leaves? i) (falls? m p (next i S)) h.1 e);
    }
