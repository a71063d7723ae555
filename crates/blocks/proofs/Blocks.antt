-- Blocks.
use Rattle.std.proofs.Common.{◌≡◌, ℕ, zero, suc, ◌+◌, ◌*◌, ◌/◌, ◌<◌, min, Bool, true, false, cond, eqb, ◌⊎◌, List, [], ◌∷◌, ◌++◌, length, get_or, take, drop, map, replicate, Option, sym, refl, ap, ◌∙◌, subst, inl, inr, arith, Some, None}
use mathlib.Core.Path.{fun_ext}
use Rattle.std.proofs.lemmas.List.{get_or_append_left, get_or_push, get_or_past, length_push, length-take-le, length-take, get_or-take, get_or-drop, get_or-map, take_more}
use Rattle.std.proofs.lemmas.Bool.{cases_eq, cases_order, eq-eqb, ne_eqb}
use lib.ListN.{length-map}
use Rattle.std.proofs.lemmas.List.FromFn.{fill_by_all}
use Rattle.std.specs.Simd.{first_chunks}
use Rattle.isa.specs.Words.{kind_of}
use Rattle.rules.specs.Words.{kind_in, block_code}
use Rattle.blocks.specs.Code.{pair_kind}
use Rattle.rules.specs.Expressions.{var}
use Rattle.blocks.specs.Reach as code
use Rattle.blocks.specs.Reach.{NotesBelow, PairsBelow}
use Rattle.rules.specs.Notes.{Kind, halt, Static, next, Register, Note, note, clear}
use Rattle.rules.specs.Cards.{Block, Card, Slot, fresh, card_note}
use Rattle.rules.specs.Limits.{Limits, in_force}
use Rattle.rules.proofs.Befores.{before_more}
use Rattle.blocks.proofs.Views.{same_at}
use Rattle.blocks.specs.View.{note_card}
use Rattle.rules.specs.Block.{before, keeps?, last?, kept?}

pub nothing_below : (n : ℕ) (N : List code.Note) → N ≡ replicate 32 None → NotesBelow n N
nothing_below n N e = subst (NotesBelow n) (sym e) λ r. rw (same_at {A = code.Note} 32 r None) (omega arith)

pub no_pairs_below : (n : ℕ) (P : List code.Pair) → P ≡ [] → PairsBelow n P
no_pairs_below n P e = subst (PairsBelow n) (sym e) λ k h. absurd (omega arith)

get_push : (l : List Slot) (x : Slot) (k r : ℕ) → length l ≡ r → get_or (l ++ (x ∷ [])) k None ≡ cond (eqb k r) x (get_or l k None)
get_push l x k r e = go (cases_order k r)
  where
    go : (k ≡ r) ⊎ ((k < r) ⊎ (r < k)) → get_or (l ++ (x ∷ [])) k None ≡ cond (eqb k r) x (get_or l k None)
    go (inl h) = rw (eq-eqb k r h) (get_or_push l x None k (omega arith))
    go (inr (inl h)) = rw (ne_eqb k r λ q. omega arith) (get_or_append_left l (x ∷ []) None k (omega arith))
    go (inr (inr h)) =
        rw (ne_eqb k r λ q. omega arith) (get_or_past (l ++ (x ∷ [])) k None (omega (arith, length_push l x)) ∙ sym (get_or_past l k None (omega arith)))

fresh-push : (l : List Slot) (x : Slot) (r : Register) → length l ≡ r.number → note_card x r (fresh l) ≡ fresh (l ++ (x ∷ []))
fresh-push l None r e =
    ap (λ (f : ℕ → Note). let s : Static = record { notes = f; pending = []; k_g = 0; k_b = 0; dest = clear } in s)
    (fun_ext λ k. ap card_note (sym (get_push l None k r.number e ∙ same k)))
  where
    same : (k : ℕ) → cond (eqb k r.number) None (get_or l k None) ≡ get_or l k None
    same k = go (cases_eq k r.number)
      where
        go : (k ≡ r.number) ⊎ (k ≡ r.number → ⊥) → cond (eqb k r.number) None (get_or l k None) ≡ get_or l k None
        go (inl h) = rw (eq-eqb k r.number h) (sym (get_or_past l k None (omega arith)))
        go (inr h) = rw (ne_eqb k r.number h) refl
fresh-push l (Some (c, v)) r e =
    ap (λ (f : ℕ → Note). let s : Static = record { notes = f; pending = []; k_g = 0; k_b = 0; dest = clear } in s)
    (fun_ext λ k. sym (ap card_note (get_push l (Some (c, v)) k r.number e) ∙ split (eqb k r.number) (get_or l k None)))
  where
    split : (b : Bool) (y : Slot) → card_note (cond b (Some (c, v)) y) ≡ cond b (note c (var v.number)) (card_note y)
    split true y = refl
    split false y = refl

-- one register of the card more
pub fresh-more : (K : List Slot) (r : Register) (d : Slot) → r.number < length K → note_card (get_or K r.number d) r (fresh (take r.number K)) ≡ fresh (take (r.number + 1) K)
fresh-more K r d h =
    fresh-push (take r.number K) (get_or K r.number d) r (length-take-le r.number K (omega arith)) ∙ ap fresh (sym (take_more K r.number d h))

-- a word of the k-th instruction
pair_word : (m k j : ℕ) (ws : List ℕ) → k < m → j < 2 → get_or (get_or (first_chunks 2 m ws) k []) j 0 ≡ get_or ws (2 * k + j) 0
pair_word zero k j ws h g = absurd (omega arith)
pair_word (suc m) zero j ws h g = get_or-take 2 ws j 0 g ∙ ap (λ i. get_or ws i 0) (omega arith)
pair_word (suc m) (suc k) j ws h g = pair_word m k j (drop 2 ws) (omega arith) g ∙ get_or-drop 2 ws (2 * k + j) 0 ∙ ap (λ i. get_or ws i 0) (omega arith)

-- a block's instructions are its pairs of words
pub code_pairs : (ws : List ℕ) (P : List (List ℕ)) (n : ℕ) → P ≡ first_chunks 2 (length ws / 2) ws → length P ≡ length ws / 2 → n ≡ min (length P) 1024
    → map pair_kind (take n P) ≡ block_code in_force ws
code_pairs ws P n e l q = fill_by_all (kind_in t) (map pair_kind (take n P)) (length t / 2) halt (length-map (take n P) pair_kind ∙ length-take n P ∙ omega (arith, length-take 2048 ws)) at
  where
    t : List ℕ
    t = take 2048 ws

    word_at : (k j i : ℕ) → k < length (take 2048 ws) / 2 → j < 2 → i ≡ 2 * k + j → get_or (get_or P k []) j 0 ≡ get_or (take 2048 ws) i 0
    word_at k j i h g s =
        ap (λ p. get_or (get_or p k []) j 0) e ∙ pair_word (length ws / 2) k j ws (omega (arith, length-take 2048 ws)) g
        ∙ sym (get_or-take 2048 ws (2 * k + j) 0 (omega (arith, length-take 2048 ws))) ∙ ap (λ i. get_or (take 2048 ws) i 0) (sym s)

    at : (k : ℕ) → k < length (take 2048 ws) / 2 → get_or (map pair_kind (take n P)) k halt ≡ kind_in (take 2048 ws) k
    at k h =
        get_or-map pair_kind (take n P) k [] halt (omega (arith, length-take n P, length-take 2048 ws))
        ∙ ap pair_kind (get_or-take n P k [] (omega (arith, length-take 2048 ws)))
        ∙ ap (λ w. kind_of w (get_or (get_or P k []) 1 0)) (word_at k 0 (2 * k) h (omega arith) (omega arith))
        ∙ ap (kind_of (get_or (take 2048 ws) (2 * k) 0)) (word_at k 1 (2 * k + 1) h (omega arith) refl)

pub pairs_length : (P : List (List ℕ)) (C : List Kind) → map pair_kind P ≡ C → length P ≡ length C
pairs_length P C e = sym (length-map P pair_kind) ∙ ap length e

-- an instruction as it was decoded
pub kind_at : (P : List (List ℕ)) (C : List Kind) (i : ℕ) (p : List ℕ) (x : Kind) → i < length P → map pair_kind P ≡ C → x ≡ pair_kind (get_or P i p) → x ≡ get_or C i halt
kind_at P C i p x h e g = g ∙ sym (get_or-map pair_kind P i p halt h) ∙ ap (λ c. get_or c i halt) e

-- one place more; x is its instruction, as it was read
pub place-goes : (K : Card) (C : List Kind) (i : ℕ) (x : Kind) (S N : Static) → x ≡ get_or C i halt → S ≡ before K C i → N ≡ next x S → N ≡ before K C (i + 1)
place-goes K C i x S N e s n = n ∙ ap (λ y. next y S) e ∙ ap (next (get_or C i halt)) s ∙ sym (before_more K C i)

pub place_kept : (b : Bool) (L : Limits) (bs : List Block) (after : Option Card) (K : Card) (C : List Kind) (n i : ℕ) (x : Kind) (S : Static) → n ≡ length C → x ≡ get_or C i halt → S ≡ before K C i
    → b ≡ keeps? L bs after (eqb (i + 1) n) x S → kept? L bs after K C i ≡ b
place_kept b L bs after K C n i x S l e s h =
    sym (h ∙ ap (λ n. keeps? L bs after (eqb (i + 1) n) x S) l ∙ ap (λ y. keeps? L bs after (last? C i) y S) e ∙ ap (keeps? L bs after (last? C i) (get_or C i halt)) s)
