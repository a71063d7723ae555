-- Numbers as text.
use Rattle.std.specs.Prelude.{ℕ, ◌-◌, ◌^◌, Bool, true, false, cond, ◌&&◌, List, [], ◌∷◌, drop, Some, None, Option, ◌==◌, nat_le, nat_lt}
use Rattle.std.specs.Str.Parse.{digits_value}
use Rattle.std.specs.Char.{digit_value}

-- a number, where it is at most this
abbrev pub fitting : ℕ → ℕ → Option ℕ
fitting most n = cond (nat_le n most) (Some n) None

-- digits of a radix: 0 to 9, and from ten on the letters from a or A
abbrev pub all_digits : ℕ → List ℕ → Bool
all_digits radix [] = true
all_digits radix (b ∷ bs) = nat_lt (digit_value b) radix && all_digits radix bs

-- the value of bytes that are digits, at least one, where it is at most this
abbrev pub numeral : ℕ → ℕ → List ℕ → Option ℕ
numeral most radix [] = None
numeral most radix (b ∷ bs) = cond (all_digits radix (b ∷ bs) && nat_le (digits_value radix (b ∷ bs)) most) (Some (digits_value radix (b ∷ bs))) None

-- hexadecimal behind 0x, else decimal
abbrev pub hexed : List ℕ → Bool
hexed [] = false
hexed (b ∷ []) = false
hexed (b ∷ c ∷ bs) = b == 48 && c == 120

abbrev pub number : ℕ → List ℕ → Option ℕ
number most bs = cond (hexed bs) (numeral most 16 (drop 2 bs)) (numeral most 10 bs)

-- numbers of 32 bits, and of 64
abbrev pub word : List ℕ → Option ℕ
word bs = number (2 ^ 32 - 1) bs

abbrev pub wide : List ℕ → Option ℕ
wide bs = number (2 ^ 64 - 1) bs
