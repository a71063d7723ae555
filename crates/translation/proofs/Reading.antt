-- The words of a plan's code are read as that code.
use Rattle.std.proofs.Common.{◌≡◌, ℕ, zero, suc, ◌+◌, ◌-◌, ◌*◌, ◌<◌, ◌≤◌, Bool, true, cond, eqb, ltb, List, [], ◌∷◌, map, length, get_or, sym, refl, ap, ◌∙◌, arith, Some, None}
use Rattle.std.specs.Cmp.Derive.{both_true}
use mathlib.Core.Path.{subst⁻¹}
use Rattle.std.proofs.lemmas.Bool.{eq-eqb, ne_eqb, lt-ltb, le-leb, or_left, or_right}
use Rattle.std.specs.List.{range_with_len}
use Rattle.std.proofs.lemmas.List.FromFn.{fill_by_all}
use Rattle.isa.specs.Words.{well_formed, kind_of}
use Rattle.isa.specs.Layout.{word, kind_at, well_formed_at, start_at, card_byte, slot_byte, slotted, every, start_fits, slot_fits, card_fits, block_fits, code_fits}
use Rattle.isa.proofs.Every.{every-none, every_suc}
use Rattle.rules.specs.Notes.{green, blue, halt}
use Rattle.rules.specs.Cards.{Slot, Block}
use Rattle.rules.specs.Module.{size, instr, Keeps}
use Rattle.rules.specs.Words.{block_of, module_of}
use Rattle.rules.proofs.Slots.{block_back}
use Rattle.language.specs.Plans.{Plan}
use Rattle.language.specs.Limits.{in_force, Within}
use Rattle.translation.specs.Compile.{compiled}
use Rattle.translation.specs.Checked.{Rising, Blocks, Checked}
use Rattle.translation.specs.Written.{no_block, block_in, Written, WordsPass}
use Rattle.translation.proofs.Passing.{code_checked}

-- what holds of each number below n
every_all : (n : ℕ) (f : ℕ → Bool) → ((i : ℕ) → i < n → f i ≡ true) → every n f ≡ true
every_all zero f h = every-none f
every_all (suc n) f h = every_suc n f ∙ both_true (every_all n f λ i l. h i (omega arith)) (h n (omega arith))

module _ (P : Plan) (ok : Within in_force P) (ws : List ℕ) (W : Written ws (compiled P)) where
  C : Checked P
  C = code_checked P ok

  kind_is : (p : ℕ) → p < size (compiled P) → instr (compiled P) p ≡ kind_at ws p
  kind_is p h = sym ((λ j. kind_of (W.first p h j) (W.second p h j)) ∙ (C.readable p).0)

  code_is : map (kind_at ws) (range_with_len 0 (word ws 0)) ≡ (compiled P).code
  code_is = sym (fill_by_all (kind_at ws) (compiled P).code (word ws 0) halt (sym W.instructions) λ k h. kind_is k (omega (arith, W.instructions)))

  block_is : (b : ℕ) → b < length (compiled P).blocks → block_in (compiled P) b ≡ block_of ws (size (compiled P)) b
  block_is b h = block_back ws (size (compiled P)) b (block_in (compiled P) b) (sym (W.starts b h)) (λ r l. sym (W.cards b r h l))

  blocks_are : map (block_of ws (word ws 0)) (range_with_len 0 (word ws 1)) ≡ (compiled P).blocks
  blocks_are =
      sym (fill_by_all (block_of ws (word ws 0)) (compiled P).blocks (word ws 1) no_block (sym W.blocks)
      λ b h. block_is b (omega (arith, W.blocks)) ∙ ap (λ n. block_of ws n b) (sym W.instructions))

  module_is : module_of ws ≡ compiled P
  module_is j = record { code = code_is j; blocks = blocks_are j }

  code_fits_lem : code_fits ws ≡ true
  code_fits_lem =
      both_true
      (both_true
      (both_true (lt-ltb 0 (word ws 0) (omega (arith, W.instructions, C.size_is))) (le-leb (word ws 0) 1024 (omega (arith, W.instructions, C.size_is, ok.small))))
      (both_true
      (both_true (lt-ltb 0 (word ws 1) (omega (arith, W.blocks, C.blocks_are))) (le-leb (word ws 1) 64 (omega (arith, W.blocks, C.blocks_are, ok.few))))
      (eq-eqb (length ws) (2 + 2 * word ws 0 + 9 * word ws 1) (omega (arith, W.long, W.instructions, W.blocks)))))
      (every_all (word ws 0) (well_formed_at ws) λ p h.
      let l : p < size (compiled P) = omega (arith, W.instructions) in
      (λ j. well_formed (W.first p l j) (W.second p l j)) ∙ (C.readable p).1)

-- starts by number
rising_low : (bs : List Block) (d : Block) (low n b : ℕ) → Rising low n bs → b < length bs → (low ≤ (get_or bs b d).start) × ((get_or bs b d).start < n)
rising_low [] d low n b R h = absurd (omega arith)
rising_low (x ∷ bs) d low n zero R h = (R.0, R.1)
rising_low (x ∷ bs) d low n (suc b) R h = let r = rising_low bs d (suc x.start) n b R.2 (omega arith) in (omega (arith, r.0, R.0), r.1)

rising_next : (bs : List Block) (d : Block) (low n b : ℕ) → Rising low n bs → suc b < length bs → (get_or bs b d).start < (get_or bs (suc b) d).start
rising_next [] d low n b R h = absurd (omega arith)
rising_next (x ∷ bs) d low n zero R h = (rising_low bs d (suc x.start) n 0 R.2 (omega arith)).0
rising_next (x ∷ bs) d low n (suc b) R h = rising_next bs d (suc x.start) n b R.2 (omega arith)

all_rising : (n : ℕ) (bs : List Block) → Blocks n bs → Rising 0 n bs
all_rising n [] B = absurd B
all_rising n (x ∷ bs) B = (omega arith, omega (arith, B.0, B.2), subst⁻¹ (λ k. Rising (suc k) n bs) B.0 B.3)

first_free : (n : ℕ) (bs : List Block) (d : Block) → Blocks n bs → ((get_or bs 0 d).start ≡ 0) × ((r : ℕ) → get_or (get_or bs 0 d).card r None ≡ None)
first_free n [] d B = absurd B
first_free n (x ∷ bs) d B = (B.0, B.1)

-- the byte of an entry is one that a card may have
entry-byte : (x : Slot) → slotted (slot_byte x) ≡ true
entry-byte None = refl
entry-byte (Some (green, v)) = or_left _ _ (le-leb (v.number + 1) 32 (omega (arith, v.low)))
entry-byte (Some (blue, v)) = or_right _ _ (both_true (le-leb 129 (v.number + 129) (omega arith)) (le-leb (v.number + 129) 160 (omega (arith, v.low))))

module _ (P : Plan) (ok : Within in_force P) (ws : List ℕ) (W : Written ws (compiled P)) where
  B : Blocks (size (compiled P)) (compiled P).blocks
  B = (code_checked P ok).starts

  start_fits_lem : (b : ℕ) → b < length (compiled P).blocks → start_fits ws (size (compiled P)) b ≡ true
  start_fits_lem zero h =
      both_true (eq-eqb (start_at ws (size (compiled P)) 0) 0 (W.starts 0 h ∙ (first_free (size (compiled P)) (compiled P).blocks no_block B).0))
      (lt-ltb _ _ (omega (arith, W.starts 0 h, (rising_low (compiled P).blocks no_block 0 (size (compiled P)) 0 (all_rising (size (compiled P)) (compiled P).blocks B) h).1)))
  start_fits_lem (suc b) h =
      let z : suc b - 1 ≡ b = omega arith in
      let e : start_at ws (size (compiled P)) (suc b - 1) ≡ (block_in (compiled P) b).start = ap (start_at ws (size (compiled P))) z ∙ W.starts b (omega arith) in
      both_true
      (ap (λ y. cond y (eqb (start_at ws (size (compiled P)) (suc b)) 0) (ltb (start_at ws (size (compiled P)) (suc b - 1)) (start_at ws (size (compiled P)) (suc b)))) (ne_eqb (suc b) 0 (λ e. omega arith))
      ∙ lt-ltb _ _ (omega (arith, e, W.starts (suc b) h, rising_next (compiled P).blocks no_block 0 (size (compiled P)) b (all_rising (size (compiled P)) (compiled P).blocks B) h)))
      (lt-ltb _ _ (omega (arith, W.starts (suc b) h, (rising_low (compiled P).blocks no_block 0 (size (compiled P)) (suc b) (all_rising (size (compiled P)) (compiled P).blocks B) h).1)))

  card_fits_lem : (b : ℕ) → b < length (compiled P).blocks → card_fits ws (size (compiled P)) b ≡ true
  card_fits_lem zero h = every_all 32 (slot_fits ws (size (compiled P)) 0) λ r l.
      eq-eqb (card_byte ws (size (compiled P)) 0 r) 0 (W.cards 0 r h l ∙ ap slot_byte ((first_free (size (compiled P)) (compiled P).blocks no_block B).1 r))
  card_fits_lem (suc b) h = every_all 32 (slot_fits ws (size (compiled P)) (suc b)) λ r l.
      ap (λ y. cond y (eqb (card_byte ws (size (compiled P)) (suc b) r) 0) (slotted (card_byte ws (size (compiled P)) (suc b) r))) (ne_eqb (suc b) 0 (λ e. omega arith))
      ∙ ap slotted (W.cards (suc b) r h l) ∙ entry-byte (get_or (block_in (compiled P) (suc b)).card r None)

  blocks_fit : every (word ws 1) (block_fits ws (word ws 0)) ≡ true
  blocks_fit = every_all (word ws 1) (block_fits ws (word ws 0)) λ b h.
      let l : b < length (compiled P).blocks = omega (arith, W.blocks) in
      ap (λ k. block_fits ws k b) W.instructions ∙ both_true (start_fits_lem b l) (card_fits_lem b l)

pub words_pass : WordsPass
words_pass P ok ws W = (
  module_is P ok ws W,
  λ L l. (code_fits_lem P ok ws W, blocks_fit P ok ws W, subst⁻¹ (Keeps L) (module_is P ok ws W) ((code_checked P ok).rules L l)),
)
