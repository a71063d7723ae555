-- A card of twins is met where they are known, and gives each of them its variable.
use Rattle.std.proofs.Common.{◌≡◌, ℕ, zero, suc, ◌+◌, ◌%◌, ◌<◌, ◌≤◌, Bool, true, false, cond, ◌&&◌, eqb, ltb, ◌≢◌, ◌∷◌, get_or, sym, refl, ap, ◌∙◌, add-one, arith, Some, None}
use Rattle.std.specs.Cmp.Derive.{both_true}
use native.Mathlib.Decide.{ℕ_discrete, dec_lt}
use Rattle.std.proofs.lemmas.Bool.{eq-eqb, ne_eqb, lt-ltb, le-ltb}
use Rattle.rules.specs.Expressions.{Expr, var, same?}
use Rattle.rules.specs.Notes.{Colour, green, blue, note, expr_of, has?}
use Rattle.rules.specs.Cards.{card_note, fresh, chosen, meets?, meet_all?, met?}
use Rattle.rules.proofs.Sameness.{eq_same}
use Rattle.rules.specs.Words.{variable}
use Rattle.translation.specs.Cards.{twin_slot, slots_from, card}
use Rattle.translation.specs.Code.{twice}
use Rattle.translation.proofs.Twins.{half, side, spread, spread_at}
use Rattle.translation.proofs.Knowing.{Known, unknown, known, known?, tint, ex, tint_is, tint_ex, colour_refl, stat, both}

-- what is known where a block with the card of the first n twins starts
abbrev pub live : ℕ → ℕ → Known
live n j = cond (ltb j n) (known (var j)) unknown

pub live_known : (n j : ℕ) → j < n → known? (live n j) ≡ true
live_known n j h = ap (λ b. known? (cond b (known (var j)) unknown)) (lt-ltb j n h)

slot_note : (n i : ℕ) (c : Colour) → i < 16 → card_note (twin_slot n i c) ≡ tint c (live n i)
slot_note n i c h = one (ltb i n)
  where
    one : (b : Bool) → card_note (cond b (Some (c, variable i)) None) ≡ tint c (cond b (known (var i)) unknown)
    one true = let z : i % 32 ≡ i = omega arith in ap (λ v. note c (var v)) z
    one false = refl

live_notes : (n k i r : ℕ) → i + k ≡ 16 → n ≤ 16 → card_note (get_or (slots_from n i k) r None) ≡ tint (side r) (live n (half r + i))
live_notes n zero i r e l = ap (λ b. tint (side r) (cond b (known (var (half r + i))) unknown)) (sym (le-ltb (half r + i) n (omega arith)))
live_notes n (suc k) i zero e l = let z : i ≡ 0 + i = omega arith in slot_note n i green (omega arith) ∙ ap (λ j. tint green (live n j)) z
live_notes n (suc k) i (suc zero) e l = let z : i ≡ 0 + i = omega arith in slot_note n i blue (omega arith) ∙ ap (λ j. tint blue (live n j)) z
live_notes n (suc k) i (suc (suc r)) e l =
    let z : half r + suc i ≡ suc (half r) + i = omega arith in
    live_notes n k (suc i) r (omega arith) l ∙ ap (λ j. tint (side r) (live n j)) z

pub fresh-is : (n : ℕ) → n ≤ 16 → fresh (card n) ≡ both (live n) 0
fresh-is n l j = stat (λ r. (let z : half r + 0 ≡ half r = omega arith in live_notes n 16 0 r refl l ∙ ap (λ i. tint (side r) (live n i)) z) j) 0

-- the expression of twin j
chosen_at : (n k i j : ℕ) (N : ℕ → Known) → i + k ≡ 16 → n ≤ 16 → i ≤ j → j < n → chosen (twice i) (slots_from n i k) (spread tint N) j ≡ ex (N j)
chosen_at n zero i j N e l h k = absurd (omega arith)
chosen_at n (suc k) i j N e l h y =
    (λ q. chosen (twice i) (cond (lt-ltb i n (omega arith) q) (Some (green, variable i)) None ∷ cond (lt-ltb i n (omega arith) q) (Some (blue, variable i)) None ∷ slots_from n (suc i) k) (spread tint N) j)
    ∙ one (ℕ_discrete i j) λ z. chosen_at n k (suc i) j N (omega arith) l (omega arith) y
  where
    low : i % 32 ≡ i
    low = omega arith

    one : Dec (i ≡ j) → (i ≢ j → chosen (twice (suc i)) (slots_from n (suc i) k) (spread tint N) j ≡ ex (N j)) →
        cond (eqb (i % 32) j) (expr_of (spread tint N (twice i)))
        (cond (eqb (i % 32) j) (expr_of (spread tint N (twice i + 1))) (chosen (twice i + 1 + 1) (slots_from n (suc i) k) (spread tint N) j)) ≡ ex (N j)
    one (yes z) rest =
        ap (λ b. cond b (expr_of (spread tint N (twice i))) (cond b (expr_of (spread tint N (twice i + 1))) (chosen (twice i + 1 + 1) (slots_from n (suc i) k) (spread tint N) j))) (eq-eqb (i % 32) j (low ∙ z))
        ∙ ap expr_of (spread_at tint N green i) ∙ tint_ex green (N i) ∙ ap (λ x. ex (N x)) z
    one (no z) rest =
        let r : twice i + 1 + 1 ≡ twice (suc i) = omega arith in
        ap (λ b. cond b (expr_of (spread tint N (twice i))) (cond b (expr_of (spread tint N (twice i + 1))) (chosen (twice i + 1 + 1) (slots_from n (suc i) k) (spread tint N) j))) (ne_eqb (i % 32) j (λ w. z (sym low ∙ w)))
        ∙ ap (λ x. chosen x (slots_from n (suc i) k) (spread tint N) j) r ∙ rest z

-- one slot
slot_meets : (n i : ℕ) (c : Colour) (θ : ℕ → Expr) (x : Known) → i < 16 → (i < n → known? x ≡ true) → (i < n → θ i ≡ ex x) → meets? θ (twin_slot n i c) (tint c x) ≡ true
slot_meets n i c θ x l h e = one (dec_lt i n)
  where
    low : i % 32 ≡ i
    low = omega arith

    one : Dec (i < n) → meets? θ (twin_slot n i c) (tint c x) ≡ true
    one (yes z) =
        ap (λ b. meets? θ (cond b (Some (c, variable i)) None) (tint c x)) (lt-ltb i n z)
        ∙ ap (λ y. has? c y && same? (expr_of y) (θ (i % 32))) (tint_is c x (h z))
        ∙ both_true (colour_refl c) (eq_same (ex x) (θ (i % 32)) (sym (ap θ low ∙ e z)))
    one (no z) = ap (λ b. meets? θ (cond b (Some (c, variable i)) None) (tint c x)) (le-ltb i n (omega arith))

meet_all : (n k i : ℕ) (N : ℕ → Known) (θ : ℕ → Expr) → i + k ≡ 16 → ((j : ℕ) → j < n → known? (N j) ≡ true) → ((j : ℕ) → j < n → θ j ≡ ex (N j)) →
    meet_all? θ (twice i) (slots_from n i k) (spread tint N) ≡ true
meet_all n zero i N θ e h f = refl
meet_all n (suc k) i N θ e h f =
    let at : (c : Colour) → meets? θ (twin_slot n i c) (tint c (N i)) ≡ true = λ c. slot_meets n i c θ (N i) (omega arith) (h i) (f i) in
    let r : twice i + 1 + 1 ≡ twice (suc i) = omega arith in
    both_true (ap (meets? θ (twin_slot n i green)) (spread_at tint N green i) ∙ at green)
    (both_true (ap (λ y. meets? θ (twin_slot n i blue) (spread tint N y)) (add-one (twice i)) ∙ ap (meets? θ (twin_slot n i blue)) (spread_at tint N blue i) ∙ at blue)
    (ap (λ y. meet_all? θ y (slots_from n (suc i) k) (spread tint N)) r ∙ meet_all n k (suc i) N θ (omega arith) h f))

-- the card is met
pub met : (n : ℕ) (N : ℕ → Known) → n ≤ 16 → ((j : ℕ) → j < n → known? (N j) ≡ true) → met? (card n) (spread tint N) ≡ true
unfolding met?
met n N l h = meet_all n 16 0 N (chosen 0 (card n) (spread tint N)) refl h λ j z. chosen_at n 16 0 j N refl l (omega arith) z
