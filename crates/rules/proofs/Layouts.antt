-- What a good layout says of the starts and cards of the module that words are.
use Rattle.std.proofs.Common.{◌≡◌, ℕ, zero, suc, ◌+◌, ◌-◌, ◌*◌, ◌<◌, ◌≤◌, Bool, true, false, ◌&&◌, eqb, ltb, leb, ◌⊎◌, List, length, sym, ap, ◌∙◌, subst, inl, inr, arith}
use Rattle.std.proofs.lemmas.Bool.{and_parts, cases_eq, eq-eqb, ne_eqb, eqb-true, ltb-true, leb-true, cond-true, cond-false}
use Rattle.isa.specs.Layout.{word, start_at, card_byte, slotted, start_fits, slot_fits, card_fits, block_fits, every, measured, code_fits, well_formed_at}
use Rattle.isa.proofs.Every.{every_suc}

-- what holds of every number below n holds of each
pub every-at : (n i : ℕ) (f : ℕ → Bool) → every n f ≡ true → i < n → f i ≡ true
every-at zero i f h l = absurd (omega arith)
every-at (suc n) i f h l = go (λ (g : every n f ≡ true) (k : i < n). every-at n i f g k) (cases_eq i n)
  where
    both : (every n f ≡ true) × (f n ≡ true)
    both = and_parts (every n f) (f n) (sym (every_suc n f) ∙ h)

    go : (every n f ≡ true → i < n → f i ≡ true) → (i ≡ n) ⊎ (i ≡ n → ⊥) → f i ≡ true
    go r (inl e) = ap f e ∙ both.1
    go r (inr e) = r both.0 (omega arith)

-- the words are as many as their counts say
pub long : (ws : List ℕ) → code_fits ws ≡ true → length ws ≡ 2 + 2 * word ws 0 + 9 * word ws 1
long ws h =
    let m = (and_parts (measured ws) (every (word ws 0) (well_formed_at ws)) h).0 in
    let r = (and_parts (ltb 0 (word ws 0) && leb (word ws 0) 1024) _ m).1 in
    eqb-true _ _ (and_parts (ltb 0 (word ws 1) && leb (word ws 1) 64) _ r).1

pub few : (ws : List ℕ) → code_fits ws ≡ true → (word ws 0 ≤ 1024) × (0 < word ws 1) × (word ws 1 ≤ 64)
few ws h =
    let m = (and_parts (measured ws) (every (word ws 0) (well_formed_at ws)) h).0 in
    let a = and_parts (ltb 0 (word ws 0) && leb (word ws 0) 1024) _ m in
    let i = and_parts (ltb 0 (word ws 0)) (leb (word ws 0) 1024) a.0 in
    let c = and_parts (ltb 0 (word ws 1) && leb (word ws 1) 64) _ a.1 in
    let b = and_parts (ltb 0 (word ws 1)) (leb (word ws 1) 64) c.0 in
    (leb-true _ _ i.1, ltb-true _ _ b.0, leb-true _ _ b.1)

module _ (ws : List ℕ) (good : every (word ws 1) (block_fits ws (word ws 0)) ≡ true) where
  fits : (b : ℕ) → b < word ws 1 → (start_fits ws (word ws 0) b ≡ true) × (card_fits ws (word ws 0) b ≡ true)
  fits b h = and_parts _ _ (every-at (word ws 1) b (block_fits ws (word ws 0)) good h)

  pub start_below : (b : ℕ) → b < word ws 1 → start_at ws (word ws 0) b < word ws 0
  start_below b h = ltb-true _ _ (and_parts _ _ (fits b h).0).1

  pub start_first : 0 < word ws 1 → start_at ws (word ws 0) 0 ≡ 0
  start_first h = eqb-true _ _ (and_parts _ _ (fits 0 h).0).0

  start_rises : (b : ℕ) → suc b < word ws 1 → start_at ws (word ws 0) b < start_at ws (word ws 0) (suc b)
  start_rises b h =
      let t = (and_parts _ _ (fits (suc b) h).0).0 in
      let z : eqb (suc b) 0 ≡ false = ne_eqb _ _ (λ e. omega arith) in
      let c : suc b - 1 ≡ b = omega arith in
      let r = ltb-true (start_at ws (word ws 0) (suc b - 1)) (start_at ws (word ws 0) (suc b)) (sym (cond-false _ _ _ z) ∙ t) in
      let P : ℕ → Type 0 = λ k. start_at ws (word ws 0) k < start_at ws (word ws 0) (suc b) in
      subst P c r

  -- earlier blocks start earlier
  pub start_order : (i j : ℕ) → i < j → j < word ws 1 → start_at ws (word ws 0) i < start_at ws (word ws 0) j
  start_order i zero h l = absurd (omega arith)
  start_order i (suc j) h l = go (λ k. start_order i j k (omega arith)) (cases_eq i j)
    where
      go : (i < j → start_at ws (word ws 0) i < start_at ws (word ws 0) j) → (i ≡ j) ⊎ (i ≡ j → ⊥) → start_at ws (word ws 0) i < start_at ws (word ws 0) (suc j)
      go r (inl e) = let P : ℕ → Type 0 = λ k. start_at ws (word ws 0) k < start_at ws (word ws 0) (suc j) in subst P (sym e) (start_rises j l)
      go r (inr e) = let a = r (omega arith) in let b = start_rises j l in omega arith

  -- the bytes of the cards are entries
  pub slots : (b k : ℕ) → b < word ws 1 → k < 32 → slotted (card_byte ws (word ws 0) b k) ≡ true
  slots b k h l = go (cases_eq b 0)
    where
      t : slot_fits ws (word ws 0) b k ≡ true
      t = every-at 32 k (slot_fits ws (word ws 0) b) (fits b h).1 l

      go : (b ≡ 0) ⊎ (b ≡ 0 → ⊥) → slotted (card_byte ws (word ws 0) b k) ≡ true
      go (inl e) = ap slotted (eqb-true _ _ (sym (cond-true _ _ _ (eq-eqb b 0 e)) ∙ t))
      go (inr e) = sym (cond-false _ _ _ (ne_eqb b 0 e)) ∙ t
