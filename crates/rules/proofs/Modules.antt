-- The rules of a block are the module's rules at its places.
use Rattle.std.proofs.Common.{◌≡◌, ℕ, zero, suc, ◌+◌, ◌<◌, Bool, true, false, not, ◌&&◌, ◌||◌, ltb, leb, ◌⊎◌, List, [], length, get_or, Some, None, Option, sym, refl, ap, ◌∙◌, inl, inr, add-zero, add-one, arith}
use Rattle.std.proofs.lemmas.Bool.{cases_eq, eq-eqb, ne_eqb, lt-ltb, le-ltb, le-leb, lt-leb}
use Rattle.rules.specs.Limits.{Limits}
use Rattle.rules.specs.Notes.{Kind, halt, Static, none?, clear?, next}
use Rattle.rules.specs.Cards.{Card, entry, inside, start, starts?, fresh, met?}
use Rattle.rules.specs.Rules.{own?, leaves?}
use Rattle.rules.specs.Module.{Module, size, instr, enter, static, falls?, passable?, rule?, kept_at}
use Rattle.rules.specs.Module as rules
use Rattle.rules.specs.Block.{before, kept?, ends?}
use Rattle.rules.specs.Part.{Behind, Part}
use Rattle.rules.proofs.Befores.{before-none, before_more}

-- the notes where a block starts
static-start : (m : Module) (s : ℕ) (K : Card) → entry m.blocks s ≡ start K → static m s ≡ fresh K
static-start m zero K e = ap (λ x. enter x (fresh [])) e
static-start m (suc s) K e = ap (λ x. enter x (next (instr m s) (static m s))) e

static-inside : (m : Module) (p : ℕ) → entry m.blocks (p + 1) ≡ inside → static m (p + 1) ≡ next (instr m p) (static m p)
static-inside m p e =
    ap (static m) (add-one p) ∙ ap (λ x. enter x (next (instr m p) (static m p))) (ap (entry m.blocks) (sym (add-one p)) ∙ e)

module _ (L : Limits) (m : Module) (s : ℕ) (K : Card) (C : List Kind) (after : Option Card) (P : Part m s K C after) where
  -- the notes before a place are those of the block
  pub static_part : (k : ℕ) → k < length C → static m (s + k) ≡ before K C k
  static_part zero h = ap (static m) (add-zero s) ∙ static-start m s K P.here ∙ sym (before-none K C)
  static_part (suc k) h =
      let a : suc k ≡ k + 1 = omega arith in
      let b : s + suc k ≡ s + k + 1 = omega arith in
      let c : s + (k + 1) ≡ s + k + 1 = omega arith in
      let i : entry m.blocks (s + k + 1) ≡ inside = ap (entry m.blocks) (sym c) ∙ P.within k (omega arith) in
      ap (static m) b ∙ static-inside m (s + k) i
      ∙ ap (λ x. next x (static m (s + k))) (P.code k (omega arith)) ∙ ap (next (get_or C k halt)) (static_part k (omega arith))
      ∙ sym (before_more K C k) ∙ ap (before K C) (sym a)

  -- a place inside the block
  inner : (k : ℕ) → k + 1 < length C → (S : Static) → (rules.last? m (s + k) ≡ false) × (falls? m (s + k) S ≡ true)
  inner k h S =
      let c : s + (k + 1) ≡ s + k + 1 = omega arith in
      let f = P.fits in
      let i : entry m.blocks (s + k + 1) ≡ inside = ap (entry m.blocks) (sym c) ∙ P.within k h in
      let g : leb (size m) (s + k + 1) ≡ false = lt-leb _ _ (omega arith) in
      let l : ltb (s + k + 1) (size m) ≡ true = lt-ltb _ _ (omega arith) in
      (ap (λ b. b || starts? (entry m.blocks (s + k + 1))) g ∙ ap starts? i, ap (λ b. b && passable? (entry m.blocks (s + k + 1)) S) l ∙ ap (λ x. passable? x S) i)

  assoc : (a b c : Bool) → (a && (b && c)) ≡ ((a && b) && c)
  assoc true b c = refl
  assoc false b c = refl

  -- the last place of the block
  outer : (k : ℕ) → k + 1 ≡ length C → (S : Static) → (o : Option Card) → Behind m (s + length C) o → (rules.last? m (s + k) ≡ true) × (falls? m (s + k) S ≡ ends? o S)
  outer k h S None b =
      let g : leb (size m) (s + k + 1) ≡ true = le-leb _ _ (omega arith) in
      let l : ltb (s + k + 1) (size m) ≡ false = le-ltb _ _ (omega arith) in
      (ap (λ b. b || starts? (entry m.blocks (s + k + 1))) g, ap (λ b. b && passable? (entry m.blocks (s + k + 1)) S) l)
  outer k h S (Some L) b =
      let c : s + length C ≡ s + k + 1 = omega arith in
      let i : entry m.blocks (s + k + 1) ≡ start L = ap (entry m.blocks) (sym c) ∙ b.1 in
      let n : s + k + 1 < size m = omega (arith, b.0) in
      let g : leb (size m) (s + k + 1) ≡ false = lt-leb _ _ n in
      let l : ltb (s + k + 1) (size m) ≡ true = lt-ltb _ _ n in (
        ap (λ b. b || starts? (entry m.blocks (s + k + 1))) g ∙ ap starts? i,
        ap (λ b. b && passable? (entry m.blocks (s + k + 1)) S) l ∙ ap (λ x. passable? x S) i ∙ assoc (none? S.pending) (clear? S.dest) (met? L S.notes),
      )

  leaving : (a : Bool) → (a || true) ≡ true
  leaving true = refl
  leaving false = refl

  -- a rule of the block is the module's
  pub part_kept : (k : ℕ) → k < length C → kept_at L m (s + k) ≡ kept? L m.blocks after K C k
  part_kept k h = at_place ∙ go (cases_eq (k + 1) (length C))
    where
      x : Kind
      x = get_or C k halt

      S : Static
      S = before K C k

      at_place : kept_at L m (s + k) ≡ (own? L m.blocks (rules.last? m (s + k)) (get_or C k halt) (before K C k) && (leaves? (get_or C k halt) || falls? m (s + k) (next (get_or C k halt) (before K C k))))
      at_place = ap (λ y. rule? L m (s + k) y (static m (s + k))) (P.code k h) ∙ ap (rule? L m (s + k) (get_or C k halt)) (static_part k h)

      go : (k + 1 ≡ length C) ⊎ (k + 1 ≡ length C → ⊥)
          → (own? L m.blocks (rules.last? m (s + k)) (get_or C k halt) (before K C k) && (leaves? (get_or C k halt) || falls? m (s + k) (next (get_or C k halt) (before K C k)))) ≡ kept? L m.blocks after K C k
      go (inl e) =
          let o = outer k e (next (get_or C k halt) (before K C k)) after P.behind in
          let t = eq-eqb (k + 1) (length C) e in
          ap (λ b. own? L m.blocks b (get_or C k halt) (before K C k) && (leaves? (get_or C k halt) || falls? m (s + k) (next (get_or C k halt) (before K C k)))) o.0
          ∙ ap (λ b. own? L m.blocks true (get_or C k halt) (before K C k) && (leaves? (get_or C k halt) || b)) o.1
          ∙ sym (ap (λ b. own? L m.blocks b (get_or C k halt) (before K C k) && (not b || (leaves? (get_or C k halt) || ends? after (next (get_or C k halt) (before K C k))))) t)
      go (inr n) =
          let i = inner k (omega arith) (next (get_or C k halt) (before K C k)) in
          let t = ne_eqb (k + 1) (length C) n in
          ap (λ b. own? L m.blocks b (get_or C k halt) (before K C k) && (leaves? (get_or C k halt) || falls? m (s + k) (next (get_or C k halt) (before K C k)))) i.0
          ∙ ap (λ b. own? L m.blocks false (get_or C k halt) (before K C k) && (leaves? (get_or C k halt) || b)) i.1
          ∙ ap (λ b. own? L m.blocks false (get_or C k halt) (before K C k) && b) (leaving (leaves? (get_or C k halt)))
          ∙ sym (ap (λ b. own? L m.blocks b (get_or C k halt) (before K C k) && (not b || (leaves? (get_or C k halt) || ends? after (next (get_or C k halt) (before K C k))))) t)
