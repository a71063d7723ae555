-- A module as far as its words are laid.
use Rattle.std.proofs.Common.{◌≡◌, ℕ, ◌+◌, ◌*◌, ◌/◌, ◌%◌, ◌<◌, ◌≤◌, true, ◌⊎◌, List, ◌∷◌, get_or, sym, refl, ap, ◌∙◌, subst, inl, inr, arith, None}
use Rattle.std.proofs.lemmas.Bool.{cases_eq, eq-eqb, ne_eqb, cond-true, cond-false}
use Rattle.isa.specs.Words.{kind_of, well_formed, first_word, second_word}
use Rattle.isa.specs.Layout.{byte, slot_byte}
use Rattle.memory.specs.Cells.{replaced}
use Rattle.rules.specs.Notes.{Kind, halt}
use Rattle.rules.specs.Cards.{Block}
use Rattle.translation.specs.Cards.{card}
use Rattle.compiler.specs.Laying.{placed, blocked}
use Rattle.compiler.specs.Stages.{kind_in, formed_in, Holds, Shows, Good, Stage}
use Rattle.compiler.proofs.Rests.{rest-front, rest_more, rest_below}
use Rattle.compiler.proofs.Carding.{card-byte}
use Rattle.compiler.proofs.Filling.{carded_below, carded_above, carded-at}

placed_first : (f : ℕ → ℕ) (p : ℕ) (k : Kind) → placed f p k (2 + 2 * p) ≡ first_word k
placed_first f p k =
    cond-false _ _ _ (ne_eqb (2 + 2 * p) (2 + 2 * p + 1) (λ e. omega arith)) ∙ cond-true _ _ _ (eq-eqb (2 + 2 * p) (2 + 2 * p) refl)

placed-second : (f : ℕ → ℕ) (p : ℕ) (k : Kind) → placed f p k (2 + 2 * p + 1) ≡ second_word k
placed-second f p k = cond-true _ _ _ (eq-eqb (2 + 2 * p + 1) (2 + 2 * p + 1) refl)

placed_other : (f : ℕ → ℕ) (p : ℕ) (k : Kind) (j : ℕ) → (j ≡ 2 + 2 * p → ⊥) → (j ≡ 2 + 2 * p + 1 → ⊥) → placed f p k j ≡ f j
placed_other f p k j h g = cond-false _ _ _ (ne_eqb j (2 + 2 * p + 1) g) ∙ cond-false _ _ _ (ne_eqb j (2 + 2 * p) h)

blocked-start : (f : ℕ → ℕ) (n b s t : ℕ) → blocked f n b s t (2 + 2 * n + 9 * b) ≡ s
blocked-start f n b s t =
    carded_below (replaced f (2 + 2 * n + 9 * b) s) (3 + 2 * n + 9 * b) t 8 (2 + 2 * n + 9 * b) (omega arith)
    ∙ cond-true _ _ _ (eq-eqb (2 + 2 * n + 9 * b) (2 + 2 * n + 9 * b) refl)

blocked_below : (f : ℕ → ℕ) (n b s t j : ℕ) → j < 2 + 2 * n + 9 * b → blocked f n b s t j ≡ f j
blocked_below f n b s t j h =
    carded_below (replaced f (2 + 2 * n + 9 * b) s) (3 + 2 * n + 9 * b) t 8 j (omega arith) ∙ cond-false _ _ _ (ne_eqb j (2 + 2 * n + 9 * b) (λ e. omega arith))

blocked_above : (f : ℕ → ℕ) (n b s t j : ℕ) → 2 + 2 * n + 9 * b + 9 ≤ j → blocked f n b s t j ≡ f j
blocked_above f n b s t j h =
    carded_above (replaced f (2 + 2 * n + 9 * b) s) (3 + 2 * n + 9 * b) t 8 j (omega arith) ∙ cond-false _ _ _ (ne_eqb j (2 + 2 * n + 9 * b) (λ e. omega arith))

-- what other words leave as it was
kind_kept : (f g : ℕ → ℕ) (k : ℕ) → f (2 + 2 * k) ≡ g (2 + 2 * k) → f (2 + 2 * k + 1) ≡ g (2 + 2 * k + 1) → (x : Kind)
    → (x ≡ kind_in f k) × (formed_in f k ≡ true) → (x ≡ kind_in g k) × (formed_in g k ≡ true)
kind_kept f g k a b x (e, w) = (
  e ∙ ap (λ u. kind_of u (f (2 + 2 * k + 1))) a ∙ ap (λ u. kind_of (g (2 + 2 * k)) u) b,
  sym (ap (λ u. well_formed u (f (2 + 2 * k + 1))) a ∙ ap (λ u. well_formed (g (2 + 2 * k)) u) b) ∙ w,
)

held_kept : (f g : ℕ → ℕ) (k : ℕ) → f (2 + 2 * k) ≡ g (2 + 2 * k) → f (2 + 2 * k + 1) ≡ g (2 + 2 * k + 1) → (x : Kind) → Holds f k x → Holds g k x
held_kept f g k a b x (e, w) = (sym a ∙ e, sym b ∙ w)

shows_kept : (f g : ℕ → ℕ) (n c : ℕ) (B : Block) → ((j : ℕ) → 2 + 2 * n ≤ j → j < 2 + 2 * n + 9 * c + 9 → f j ≡ g j) → Shows f n c B → Shows g n c B
shows_kept f g n c B h S = record {
  start_is = S.start_is ∙ h (2 + 2 * n + 9 * c) (omega arith) (omega arith);
  bytes = λ k l. S.bytes k l ∙ ap (λ w. byte w (k % 4)) (h (3 + 2 * n + 9 * c + k / 4) (omega arith) (omega arith));
}

module _ (n : ℕ) (D : List Kind) (BS : List Block) (d : Block) (old : ℕ → ℕ) where
  -- an instruction more
  pub lay_kind : (f : ℕ → ℕ) (p b : ℕ) (k : Kind) (ks : List Kind) (bs : List Block) → Good k → p < n
      → Stage n D BS d old f p b (k ∷ ks) bs → Stage n D BS d old (placed f p k) (p + 1) b ks bs
  lay_kind f p b k ks bs G l S = record {
    code_left = rest_more p D k ks S.code_left;
    code = λ j h. go j h (cases_eq j p);
    held = λ j h. hold j h (cases_eq j p);
    blocks_left = S.blocks_left;
    blocks = λ c h. shows_kept f (placed f p k) n c (get_or BS c d) (λ j x y. sym (placed_other f p k j (λ e. omega arith) (λ e. omega arith))) (S.blocks c h);
    kept = λ j h. placed_other f p k j (λ e. omega arith) (λ e. omega arith) ∙ S.kept j h;
    low = omega arith;
    few = S.few;
    long = let l = rest_below p D k ks S.code_left in omega arith;
  }
    where
      this : (get_or D p halt ≡ kind_in (placed f p k) p) × (formed_in (placed f p k) p ≡ true)
      this = (
        rest-front p D halt k ks S.code_left ∙ sym G.back ∙ sym (ap (λ u. kind_of u (second_word k)) (placed_first f p k)) ∙ sym (ap (λ u. kind_of (placed f p k (2 + 2 * p)) u) (placed-second f p k)),
        ap (λ u. well_formed (placed f p k (2 + 2 * p)) u) (placed-second f p k) ∙ ap (λ u. well_formed u (second_word k)) (placed_first f p k) ∙ G.formed,
      )

      these : Holds (placed f p k) p (get_or D p halt)
      these =
          let e = sym (rest-front p D halt k ks S.code_left) in
          (placed_first f p k ∙ ap first_word e, placed-second f p k ∙ ap second_word e)

      hold : (j : ℕ) → j < p + 1 → (j ≡ p) ⊎ (j ≡ p → ⊥) → Holds (placed f p k) j (get_or D j halt)
      hold j h (inl e) = subst (λ x. Holds (placed f p k) x (get_or D x halt)) (sym e) these
      hold j h (inr e) =
          held_kept f (placed f p k) j (sym (placed_other f p k (2 + 2 * j) (λ x. omega arith) (λ x. omega arith)))
          (sym (placed_other f p k (2 + 2 * j + 1) (λ x. omega arith) (λ x. omega arith))) (get_or D j halt) (S.held j (omega arith))

      go : (j : ℕ) → j < p + 1 → (j ≡ p) ⊎ (j ≡ p → ⊥) → (get_or D j halt ≡ kind_in (placed f p k) j) × (formed_in (placed f p k) j ≡ true)
      go j h (inl e) = let P : ℕ → Type 0 = λ x. (get_or D x halt ≡ kind_in (placed f p k) x) × (formed_in (placed f p k) x ≡ true) in subst P (sym e) this
      go j h (inr e) =
          kind_kept f (placed f p k) j (sym (placed_other f p k (2 + 2 * j) (λ x. omega arith) (λ x. omega arith)))
          (sym (placed_other f p k (2 + 2 * j + 1) (λ x. omega arith) (λ x. omega arith))) (get_or D j halt) (S.code j (omega arith))

  -- a block more
  pub lay_block : (f : ℕ → ℕ) (p b s t : ℕ) (B : Block) (ks : List Kind) (bs : List Block) → B.start ≡ s → B.card ≡ card t
      → Stage n D BS d old f p b ks (B ∷ bs) → Stage n D BS d old (blocked f n b s t) p (b + 1) ks bs
  lay_block f p b s t B ks bs es ec S = record {
    code_left = S.code_left;
    code = λ k h. let l = S.low in
        kind_kept f (blocked f n b s t) k (sym (blocked_below f n b s t (2 + 2 * k) (omega arith))) (sym (blocked_below f n b s t (2 + 2 * k + 1) (omega arith))) (get_or D k halt) (S.code k h);
    held = λ k h. let l = S.low in
        held_kept f (blocked f n b s t) k (sym (blocked_below f n b s t (2 + 2 * k) (omega arith))) (sym (blocked_below f n b s t (2 + 2 * k + 1) (omega arith))) (get_or D k halt) (S.held k h);
    blocks_left = rest_more b BS B bs S.blocks_left;
    blocks = λ c h. go c h (cases_eq c b);
    kept = λ j h. blocked_above f n b s t j (omega arith) ∙ S.kept j (omega arith);
    low = S.low;
    few = let l = rest_below b BS B bs S.blocks_left in omega arith;
    long = S.long;
  }
    where
      this : Shows (blocked f n b s t) n b B
      this = record {
        start_is = es ∙ sym (blocked-start f n b s t);
        bytes = λ k l. ap (λ K. slot_byte (get_or K k None)) ec ∙ sym (card-byte t k l)
            ∙ sym (ap (λ w. byte w (k % 4)) (carded-at (replaced f (2 + 2 * n + 9 * b) s) (3 + 2 * n + 9 * b) t 8 (k / 4) (omega arith)));
      }

      go : (c : ℕ) → c < b + 1 → (c ≡ b) ⊎ (c ≡ b → ⊥) → Shows (blocked f n b s t) n c (get_or BS c d)
      go c h (inl e) =
          let P : ℕ → Type 0 = λ x. Shows (blocked f n b s t) n x (get_or BS x d) in
          let Q : Block → Type 0 = λ x. Shows (blocked f n b s t) n b x in
          subst P (sym e) (subst Q (sym (rest-front b BS d B bs S.blocks_left)) this)
      go c h (inr e) =
          shows_kept f (blocked f n b s t) n c (get_or BS c d) (λ j x y. sym (blocked_below f n b s t j (omega arith))) (S.blocks c (omega arith))
