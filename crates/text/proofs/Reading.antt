-- The value of digits, read one by one.
use Rattle.std.proofs.Common.{◌≡◌, ℕ, ◌+◌, ◌*◌, ◌<◌, ◌≤◌, Bool, true, false, cond, ◌&&◌, leb, List, [], ◌∷◌, length, get_or, drop, Some, None, Option, option_and_then, refl, ap, ◌∙◌, mul-le-mul_left, mul-one, arith}
use Rattle.std.specs.Str.Parse.{digits_value, digits_value_after}
use Rattle.std.specs.Char.{digit_value}
use Rattle.std.proofs.lemmas.List.{at_drop_more, at_drop_all}
use Rattle.std.proofs.lemmas.Bool.{le-leb, lt-leb, lt-ltb, leb-false}
use Rattle.text.specs.Numbers.{fitting, all_digits, numeral, hexed, number}

-- what is read of bytes behind digits with the value n
abbrev pub left : ℕ → ℕ → ℕ → List ℕ → Option ℕ
left most radix n bs = cond (all_digits radix bs && leb (digits_value_after radix n bs) most) (Some (digits_value_after radix n bs)) None

grows : (radix n : ℕ) (ds : List ℕ) → 0 < radix → n ≤ digits_value_after radix n ds
grows radix n [] h = omega arith
grows radix n (d ∷ ds) h =
    let more : n * 1 ≤ n * radix = mul-le-mul_left n (omega arith) in
    omega (arith, mul-one n, more, grows radix (n * radix + digit_value d) ds h)

never : (b : Bool) (most n : ℕ) → most < n → cond (b && leb n most) (Some n) None ≡ None
never true most n h = ap (λ t. cond t (Some n) None) (lt-leb n most h)
never false most n h = refl

pub left_more : (most radix n : ℕ) (bs : List ℕ) (i : ℕ) → i < length bs → digit_value (get_or bs i 0) < radix → left most radix n (drop i bs) ≡ left most radix (n * radix + digit_value (get_or bs i 0)) (drop (i + 1) bs)
left_more most radix n bs i l h =
    at_drop_more (left most radix n) bs i 0 l
    ∙ ap (λ t. cond ((t && all_digits radix (drop (i + 1) bs)) && leb (digits_value_after radix (n * radix + digit_value (get_or bs i 0)) (drop (i + 1) bs)) most) (Some (digits_value_after radix (n * radix + digit_value (get_or bs i 0)) (drop (i + 1) bs))) None) (lt-ltb (digit_value (get_or bs i 0)) radix h)

pub left_large : (most radix n : ℕ) (bs : List ℕ) → 0 < radix → most < n → left most radix n bs ≡ None
left_large most radix n bs p h = never (all_digits radix bs) most (digits_value_after radix n bs) (omega (arith, grows radix n bs p))

pub left_end : (most radix n : ℕ) (bs : List ℕ) (i : ℕ) → length bs ≤ i → n ≤ most → left most radix n (drop i bs) ≡ Some n
left_end most radix n bs i l h = at_drop_all (left most radix n) bs i l ∙ ap (λ t. cond t (Some n) None) (le-leb n most h)

pub numeral_left : (most radix : ℕ) (bs : List ℕ) → 0 < length bs → numeral most radix bs ≡ left most radix 0 bs
numeral_left most radix [] h = absurd (omega (arith, h))
numeral_left most radix (b ∷ bs) h = refl

-- a number that is too large to fit
pub unfitting : (most n : ℕ) → fitting most n ≡ None → most < n
unfitting most n e = one (leb n most) refl e
  where
    one : (t : Bool) → leb n most ≡ t → cond t (Some n) None ≡ None → most < n
    one true h q = absurd cc
    one false h q = leb-false n most h

-- numbers that are at most less
module _ (most more : ℕ) (le : most ≤ more) where
  narrow : (t : Bool) (v : ℕ) (r : Option ℕ) → cond (t && leb v more) (Some v) None ≡ r → cond (t && leb v most) (Some v) None ≡ option_and_then (fitting most) r
  narrow false v r e = ap (option_and_then (fitting most)) e
  narrow true v r e = one (leb v more) refl e
    where
      one : (t : Bool) → leb v more ≡ t → cond t (Some v) None ≡ r → fitting most v ≡ option_and_then (fitting most) r
      one true h e = ap (option_and_then (fitting most)) e
      one false h e = ap (λ t. cond t (Some v) None) (lt-leb v most (omega (arith, leb-false v more h))) ∙ ap (option_and_then (fitting most)) e

  narrow_numeral : (radix : ℕ) (bs : List ℕ) → numeral most radix bs ≡ option_and_then (fitting most) (numeral more radix bs)
  narrow_numeral radix [] = refl
  narrow_numeral radix (b ∷ bs) = narrow (all_digits radix (b ∷ bs)) (digits_value radix (b ∷ bs)) _ refl

  pub narrow_number : (bs : List ℕ) → number most bs ≡ option_and_then (fitting most) (number more bs)
  narrow_number bs = one (hexed bs)
    where
      one : (t : Bool) → cond t (numeral most 16 (drop 2 bs)) (numeral most 10 bs) ≡ option_and_then (fitting most) (cond t (numeral more 16 (drop 2 bs)) (numeral more 10 bs))
      one true = narrow_numeral 16 (drop 2 bs)
      one false = narrow_numeral 10 bs
