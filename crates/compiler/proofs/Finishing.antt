-- The module that the words are once its counts stand before it.
use Rattle.std.proofs.Common.{◌≡◌, ℕ, ◌+◌, ◌-◌, ◌*◌, ◌/◌, ◌%◌, ◌<◌, ◌≤◌, List, map, length, get_or, take, sym, ap, ◌∙◌, arith}
use Rattle.std.specs.List.{range_with_len}
use Rattle.std.proofs.lemmas.List.FromFn.{fill_by_all}
use Rattle.std.proofs.lemmas.List.{get_or-take, length-drop, length-take}
use Rattle.std.proofs.lemmas.Bool.{ne_eqb, cond-false}
use Rattle.isa.specs.Words.{kind_of}
use Rattle.isa.specs.Layout.{word, kind_at, byte, start_at, card_byte}
use Rattle.memory.specs.Cells.{replaced}
use Rattle.rules.specs.Notes.{Kind, halt}
use Rattle.rules.specs.Cards.{Block}
use Rattle.rules.specs.Module.{Module}
use Rattle.rules.specs.Words.{block_of, module_of}
use Rattle.rules.proofs.Slots.{block_back}
use Rattle.translation.specs.Written.{Written}
use Rattle.compiler.specs.Laying.{words}
use Rattle.compiler.specs.Stages.{Laid, missing}

module _ (n m : ℕ) (M : Module) (old f : ℕ → ℕ) (ws : List ℕ) (S : Laid n M old f m) (e : words ws ≡ replaced (replaced f 0 n) 1 m) where
  count_is : word (take (2 + 2 * n + 9 * m) ws) 0 ≡ n
  count_is = get_or-take (2 + 2 * n + 9 * m) ws 0 0 (omega arith) ∙ ap (λ g. g 0) e

  blocks_are : word (take (2 + 2 * n + 9 * m) ws) 1 ≡ m
  blocks_are = get_or-take (2 + 2 * n + 9 * m) ws 1 0 (omega arith) ∙ ap (λ g. g 1) e

  other : (j : ℕ) → 2 ≤ j → words ws j ≡ f j
  other j h = ap (λ g. g j) e ∙ cond-false _ _ _ (ne_eqb j 1 (λ x. omega arith)) ∙ cond-false _ _ _ (ne_eqb j 0 (λ x. omega arith))

  inner : (j : ℕ) → 2 ≤ j → j < 2 + 2 * n + 9 * m → f j ≡ word (take (2 + 2 * n + 9 * m) ws) j
  inner j h l = sym (get_or-take (2 + 2 * n + 9 * m) ws j 0 l ∙ other j h)

  code_length : length M.code ≡ n
  code_length =
      let l : length M.code - n ≡ 0 = sym (length-drop n M.code) ∙ ap length S.code_left in
      let k = S.long in
      omega arith

  pub blocks_length : m ≡ length M.blocks
  blocks_length =
      let l : length M.blocks - m ≡ 0 = sym (length-drop m M.blocks) ∙ ap length S.blocks_left in
      let k = S.few in
      omega arith

  code_is : M.code ≡ map (kind_at (take (2 + 2 * n + 9 * m) ws)) (range_with_len 0 n)
  code_is = fill_by_all (kind_at (take (2 + 2 * n + 9 * m) ws)) M.code n halt code_length λ k h.
      (S.code k h).0 ∙ ap (λ u. kind_of u (f (2 + 2 * k + 1))) (inner (2 + 2 * k) (omega arith) (omega arith))
      ∙ ap (λ u. kind_of (word (take (2 + 2 * n + 9 * m) ws) (2 + 2 * k)) u) (inner (2 + 2 * k + 1) (omega arith) (omega arith))

  blocks_is : M.blocks ≡ map (block_of (take (2 + 2 * n + 9 * m) ws) n) (range_with_len 0 m)
  blocks_is = fill_by_all (block_of (take (2 + 2 * n + 9 * m) ws) n) M.blocks m missing (sym blocks_length) λ b h.
      block_back (take (2 + 2 * n + 9 * m) ws) n b (get_or M.blocks b missing) ((S.blocks b h).start_is ∙ inner (2 + 2 * n + 9 * b) (omega arith) (omega arith))
      λ k l. (S.blocks b h).bytes k l ∙ ap (λ w. byte w (k % 4)) (inner (3 + 2 * n + 9 * b + k / 4) (omega arith) (omega arith))

  abbrev made : List Kind → List Block → Module
  made ks bs = record { code = ks; blocks = bs }

  pub module_is : module_of (take (2 + 2 * n + 9 * m) ws) ≡ M
  module_is =
      let us = take (2 + 2 * n + 9 * m) ws in
      ap (λ x. made (map (kind_at us) (range_with_len 0 x)) (map (block_of us x) (range_with_len 0 (word us 1)))) count_is
      ∙ ap (λ y. made (map (kind_at us) (range_with_len 0 n)) (map (block_of us n) (range_with_len 0 y))) blocks_are
      ∙ sym (ap (λ ks. made ks M.blocks) code_is ∙ ap (λ bs. made (map (kind_at us) (range_with_len 0 n)) bs) blocks_is)

  -- the words are those of the module
  pub written : 2 + 2 * n + 9 * m ≤ length ws → Written (take (2 + 2 * n + 9 * m) ws) M
  written room =
      let us = take (2 + 2 * n + 9 * m) ws in record {
        instructions = count_is ∙ sym code_length;
        blocks = blocks_are ∙ blocks_length;
        long = omega (arith, length-take (2 + 2 * n + 9 * m) ws, code_length, blocks_length);
        first = λ p h. sym (inner (2 + 2 * p) (omega arith) (omega (arith, code_length))) ∙ (S.held p (omega (arith, code_length))).0;
        second = λ p h. sym (inner (2 + 2 * p + 1) (omega arith) (omega (arith, code_length))) ∙ (S.held p (omega (arith, code_length))).1;
        starts = λ b h. ap (λ k. start_at us k b) code_length ∙ sym (inner (2 + 2 * n + 9 * b) (omega arith) (omega (arith, blocks_length))) ∙ sym (S.blocks b (omega (arith, blocks_length))).start_is;
        cards = λ b r h l. ap (λ k. card_byte us k b r) code_length
            ∙ sym (ap (λ w. byte w (r % 4)) (inner (3 + 2 * n + 9 * b + r / 4) (omega arith) (omega (arith, blocks_length))))
            ∙ sym ((S.blocks b (omega (arith, blocks_length))).bytes r l);
      }

  pub rest_is : (j : ℕ) → 2 + 2 * n + 9 * m ≤ j → words ws j ≡ old j
  rest_is j h = other j (omega arith) ∙ S.kept j h
