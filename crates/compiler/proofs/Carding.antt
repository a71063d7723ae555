-- The bytes of a card's words are those of its entries.
use Rattle.std.proofs.Common.{◌≡◌, ℕ, zero, suc, ◌+◌, ◌*◌, ◌/◌, ◌%◌, ◌^◌, ◌<◌, Bool, true, false, cond, ltb, ◌⊎◌, get_or, sym, refl, ap, ◌∙◌, inl, inr, arith, Some, None}
use Rattle.std.proofs.lemmas.Bool.{cases_eq}
use Rattle.isa.specs.Layout.{byte, slot_byte}
use Rattle.rules.specs.Notes.{Colour, green, blue}
use Rattle.rules.specs.Words.{variable}
use Rattle.translation.specs.Cards.{twin_slot, card}
use Rattle.translation.proofs.Bytes.{card-at}
use Rattle.translation.proofs.Twins.{half, side}
use Rattle.compiler.specs.Laying.{card_word}

abbrev first : Colour → ℕ
first green = 1
first blue = 129

slot_byte_lem : (t x : ℕ) (c : Colour) → x < 32 → slot_byte (twin_slot t x c) ≡ cond (ltb x t) (x + first c) 0
slot_byte_lem t x c h = go (ltb x t) c
  where
    go : (b : Bool) (c : Colour) → slot_byte (cond b (Some (c, variable x)) None) ≡ cond b (x + first c) 0
    go true green = omega arith
    go true blue = omega arith
    go false c = refl

half_is : (k : ℕ) → half k ≡ k / 2
half_is zero = refl
half_is (suc zero) = refl
half_is (suc (suc k)) = let h = half_is k in omega arith

side_even : (k : ℕ) → k % 2 ≡ 0 → side k ≡ green
side_even zero h = refl
side_even (suc zero) h = absurd (omega arith)
side_even (suc (suc k)) h = side_even k (omega arith)

side_odd : (k : ℕ) → k % 2 ≡ 1 → side k ≡ blue
side_odd zero h = absurd (omega arith)
side_odd (suc zero) h = refl
side_odd (suc (suc k)) h = side_odd k (omega arith)

-- the four bytes of a card's word: two twins, each green and blue
abbrev pair : ℕ → Bool → Bool → ℕ
pair i x y = cond x ((i + 1) * 256 + (i + 129)) 0 * 2 ^ 16 + cond y ((i + 1 + 1) * 256 + (i + 1 + 129)) 0

byte_0 : (i : ℕ) → i < 15 → (x y : Bool) → byte (pair i x y) 0 ≡ cond x (i + 1) 0
byte_0 i h true true = omega arith
byte_0 i h true false = omega arith
byte_0 i h false true = omega arith
byte_0 i h false false = omega arith

byte_1 : (i : ℕ) → i < 15 → (x y : Bool) → byte (pair i x y) 1 ≡ cond x (i + 129) 0
byte_1 i h true true =
    let e : pair i true true / 2 ^ 16 ≡ (i + 1) * 256 + (i + 129) = omega arith in
    let g : ((i + 1) * 256 + (i + 129)) % 2 ^ 8 ≡ i + 129 = omega arith in
    ap (λ x. x % 2 ^ 8) e ∙ g
byte_1 i h true false = omega arith
byte_1 i h false true = omega arith
byte_1 i h false false = omega arith

byte_2 : (i : ℕ) → i < 15 → (x y : Bool) → byte (pair i x y) 2 ≡ cond y (i + 1 + 1) 0
byte_2 i h true true =
    let e : pair i true true / 2 ^ 8 ≡ ((i + 1) * 256 + (i + 129)) * 2 ^ 8 + (i + 1 + 1) = omega arith in
    let g : (((i + 1) * 256 + (i + 129)) * 2 ^ 8 + (i + 1 + 1)) % 2 ^ 8 ≡ i + 1 + 1 = omega arith in
    ap (λ x. x % 2 ^ 8) e ∙ g
byte_2 i h true false = omega arith
byte_2 i h false true =
    let e : pair i false true / 2 ^ 8 ≡ i + 1 + 1 = omega arith in
    let g : (i + 1 + 1) % 2 ^ 8 ≡ i + 1 + 1 = omega arith in
    ap (λ x. x % 2 ^ 8) e ∙ g
byte_2 i h false false = omega arith

byte_3 : (i : ℕ) → i < 15 → (x y : Bool) → byte (pair i x y) 3 ≡ cond y (i + 1 + 129) 0
byte_3 i h true true = omega arith
byte_3 i h true false = omega arith
byte_3 i h false true = omega arith
byte_3 i h false false = omega arith

-- an entry by the twin and the colour of its register
entry-byte : (t k x : ℕ) (c : Colour) → k < 32 → half k ≡ x → side k ≡ c → cond (ltb x t) (x + first c) 0 ≡ slot_byte (get_or (card t) k None)
entry-byte t k x c h e s =
    let l : k / 2 < 16 = omega arith in
    let u : x < 32 = omega (arith, half_is k, sym e) in
    sym (slot_byte_lem t x c u) ∙ ap (λ y. slot_byte (twin_slot t y c)) (sym e) ∙ ap (λ d. slot_byte (twin_slot t (half k) d)) (sym s) ∙ ap slot_byte (sym (card-at t k h))

pub card-byte : (t k : ℕ) → k < 32 → byte (card_word t (k / 4)) (k % 4) ≡ slot_byte (get_or (card t) k None)
card-byte t k h = go (cases_eq (k % 4) 0) (cases_eq (k % 4) 1) (cases_eq (k % 4) 2)
  where
    q : ℕ
    q = k / 4

    w : ℕ
    w = card_word t (k / 4)

    go : (k % 4 ≡ 0) ⊎ (k % 4 ≡ 0 → ⊥) → (k % 4 ≡ 1) ⊎ (k % 4 ≡ 1 → ⊥) → (k % 4 ≡ 2) ⊎ (k % 4 ≡ 2 → ⊥) → byte (card_word t (k / 4)) (k % 4) ≡ slot_byte (get_or (card t) k None)
    go (inl e) f g =
        ap (byte (card_word t (k / 4))) e ∙ byte_0 (2 * (k / 4)) (omega arith) (ltb (2 * (k / 4)) t) (ltb (2 * (k / 4) + 1) t)
        ∙ entry-byte t k (2 * (k / 4)) green h (half_is k ∙ omega arith) (side_even k (omega arith))
    go (inr n) (inl e) g =
        ap (byte (card_word t (k / 4))) e ∙ byte_1 (2 * (k / 4)) (omega arith) (ltb (2 * (k / 4)) t) (ltb (2 * (k / 4) + 1) t)
        ∙ entry-byte t k (2 * (k / 4)) blue h (half_is k ∙ omega arith) (side_odd k (omega arith))
    go (inr n) (inr o) (inl e) =
        ap (byte (card_word t (k / 4))) e ∙ byte_2 (2 * (k / 4)) (omega arith) (ltb (2 * (k / 4)) t) (ltb (2 * (k / 4) + 1) t)
        ∙ entry-byte t k (2 * (k / 4) + 1) green h (half_is k ∙ omega arith) (side_even k (omega arith))
    go (inr n) (inr o) (inr p) =
        let e : k % 4 ≡ 3 = omega arith in
        ap (byte (card_word t (k / 4))) e ∙ byte_3 (2 * (k / 4)) (omega arith) (ltb (2 * (k / 4)) t) (ltb (2 * (k / 4) + 1) t)
        ∙ entry-byte t k (2 * (k / 4) + 1) blue h (half_is k ∙ omega arith) (side_odd k (omega arith))
