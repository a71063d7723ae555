-- What the proofs use of a module that passes the check, and that words which pass are such a module.
use Rattle.std.proofs.Common.{◌≡◌, ℕ, ◌+◌, ◌*◌, ◌%◌, ◌<◌, ◌≤◌, Bool, true, false, cond, eqb, ◌⊎◌, List, length, get_or, sym, ap, ◌∙◌, subst, inl, inr, arith, None}
use mathlib.Core.Path.{subst⁻¹}
use Rattle.std.proofs.lemmas.List.FromFn.{length-map-range_with_len, get_or-map-range_with_len}
use Rattle.std.proofs.lemmas.List.{get_or_past}
use Rattle.std.proofs.lemmas.Bool.{true≢false, and_parts, cases_lt, eqb-true}
use Rattle.isa.specs.declared.kinds.Colour.TheVariants.{Green, Blue}
use Rattle.isa.specs.declared.kinds.Arithmetic.TheVariants.{Add, Sub, Mul, Lt}
use Rattle.isa.specs.declared.kinds.Register.{Register}
use Rattle.isa.specs.declared.kinds.Kind.{Kind}
use Rattle.isa.specs.declared.kinds.Kind.TheVariants.{Move, Copy, Arith, Load, Store, Jump, Branch, Halt}
use Rattle.isa.specs.Words.{second_word, operation, field_a, field_b, field_c, uses, named, kind_by, kind_of}
use Rattle.isa.specs.Layout.{word, kind_at, start_at, card_byte, block_fits, slot_fits}
use Rattle.rules.specs.Limits.{Limits}
use Rattle.rules.specs.Cards.{Block, Card, start, entry, starts?}
use Rattle.rules.specs.Module.{Module, size, instr, Keeps}
use Rattle.rules.specs.Words.{slot_of, card_of, block_of, module_of, Passes}
use Rattle.rules.proofs.Layouts.{every-at, few, start_below, start_first}
use Rattle.rules.proofs.Starts.{entry-inside}
use Rattle.rules.proofs.Parts.{entry_start}
use Rattle.soundness.specs.Strikes.{Word}
use Rattle.soundness.specs.Finding.{AreWords}

-- the first block starts at 0, and its card says nothing; blocks start inside the code; each constant is a word; all rules are kept
pub record Passed (L : Limits) (m : Module) : Type 0 where
  pub some : 0 < size m
  pub opening : Card
  pub opens : entry m.blocks 0 ≡ start opening
  pub all_free : (r : ℕ) → get_or opening r None ≡ None
  pub below : (p : ℕ) → starts? (entry m.blocks p) ≡ true → p < size m
  pub words : (p : ℕ) → p < size m → Word (second_word (instr m p))
  pub kept : Keeps L m

second-cond : (b : Bool) (x y : Kind) → Word (second_word x) → Word (second_word y) → Word (second_word (cond b x y))
second-cond true x y h k = h
second-cond false x y h k = k

-- the constant of an instruction is that of its words, or 0
second_by : (op : ℕ) (a b c : Register) (n : ℕ) → Word n → Word (second_word (kind_by op a b c n))
second_by op a b c n h =
    second-cond (eqb op 0) (Move Green a n) _ h
    (second-cond (eqb op 1) (Move Blue a n) _ h
    (second-cond (eqb op 2) (Copy a b) _ (omega arith)
    (second-cond (eqb op 3) (Arith Add a b c) _ (omega arith)
    (second-cond (eqb op 4) (Arith Sub a b c) _ (omega arith)
    (second-cond (eqb op 5) (Arith Mul a b c) _ (omega arith)
    (second-cond (eqb op 6) (Arith Lt a b c) _ (omega arith)
    (second-cond (eqb op 7) (Load Green a b) _ (omega arith)
    (second-cond (eqb op 8) (Load Blue a b) _ (omega arith)
    (second-cond (eqb op 9) (Store Green a b) _ (omega arith)
    (second-cond (eqb op 10) (Store Blue a b) _ (omega arith)
    (second-cond (eqb op 11) (Jump Green a) _ (omega arith)
    (second-cond (eqb op 12) (Jump Blue a) _ (omega arith)
    (second-cond (eqb op 13) (Branch Green a b) _ (omega arith)
    (second-cond (eqb op 14) (Branch Blue a b) Halt (omega arith) (omega arith)))))))))))))))

word-cond : (b : Bool) (n : ℕ) → Word n → Word (cond b n 0)
word-cond true n h = h
word-cond false n h = omega arith

second_of : (v n : ℕ) → Word n → Word (second_word (kind_of v n))
second_of v n h =
    let op : ℕ = operation v % 16 in
    second_by op (named (uses op 8) (field_a v)) (named (uses op 4) (field_b v)) (named (uses op 2) (field_c v)) (cond (uses op 1) n 0) (word-cond (uses op 1) n h)

module _ (L : Limits) (ws : List ℕ) (wide : AreWords ws) (H : Passes L ws) where
  many : size (module_of ws) ≡ word ws 0
  many = length-map-range_with_len (kind_at ws) 0 (word ws 0)

  blocks : 0 < word ws 1
  blocks = (few ws H.0).1

  below : (p : ℕ) → starts? (entry (module_of ws).blocks p) ≡ true → p < size (module_of ws)
  below p h = one (cases_lt p (word ws 0))
    where
      none : word ws 0 ≤ p → (i : ℕ) → i < length (module_of ws).blocks → (get_or (module_of ws).blocks i (block_of ws 0 0)).start ≡ p → ⊥
      none l i g e =
          let k : i < word ws 1 = subst (λ n. i < n) (length-map-range_with_len (block_of ws (word ws 0)) 0 (word ws 1)) g in
          let b = get_or-map-range_with_len (block_of ws (word ws 0)) 0 (word ws 1) i i (block_of ws 0 0) k (omega arith) in
          let q : start_at ws (word ws 0) i ≡ p = sym (ap (λ (x : Block). x.start) b) ∙ e in
          let s = start_below ws H.1 i k in
          omega arith

      one : (p < word ws 0) ⊎ (word ws 0 ≤ p) → p < size (module_of ws)
      one (inl l) = subst⁻¹ (λ n. p < n) many l
      one (inr l) = absurd (true≢false (sym h ∙ ap starts? (entry-inside (module_of ws).blocks p (block_of ws 0 0) (none l))))

  -- the first card's bytes are 0
  byte_free : (r : ℕ) → r < 32 → slot_of (card_byte ws (word ws 0) 0 r) ≡ None
  byte_free r l =
      let f = (and_parts _ _ (every-at (word ws 1) 0 (block_fits ws (word ws 0)) H.1 blocks)).1 in
      ap slot_of (eqb-true _ _ (every-at 32 r (slot_fits ws (word ws 0) 0) f l))

  card_free : (r : ℕ) → get_or (card_of ws (word ws 0) 0) r None ≡ None
  card_free r = one (cases_lt r 32)
    where
      one : (r < 32) ⊎ (32 ≤ r) → get_or (card_of ws (word ws 0) 0) r None ≡ None
      one (inl l) = get_or-map-range_with_len (λ k. slot_of (card_byte ws (word ws 0) 0 k)) 0 32 r r None l (omega arith) ∙ byte_free r l
      one (inr l) = get_or_past (card_of ws (word ws 0) 0) r None l

  pub passes_passed : Passed L (module_of ws)
  passes_passed =
      let zero-first = start_first ws H.1 blocks in
      let s = start_below ws H.1 0 blocks in
      record {
        some = subst⁻¹ (λ n. 0 < n) many (omega arith);
        opening = card_of ws (word ws 0) 0;
        opens = ap (entry (module_of ws).blocks) (sym zero-first) ∙ entry_start ws H.1 0 blocks;
        all_free = card_free;
        below = below;
        words = λ p l.
            let k : p < word ws 0 = subst (λ n. p < n) many l in
            subst⁻¹ (λ i. Word (second_word i)) (get_or-map-range_with_len (kind_at ws) 0 (word ws 0) p p Halt k (omega arith))
            (second_of (word ws (2 + 2 * p)) (word ws (2 + 2 * p + 1)) (wide (2 + 2 * p + 1)));
        kept = H.2;
      }
