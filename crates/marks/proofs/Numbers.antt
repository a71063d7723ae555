-- The value of digits, one by one.
use Rattle.std.proofs.Common.{◌≡◌, ℕ, ◌+◌, ◌-◌, ◌*◌, ◌<◌, ◌≤◌, List, [], ◌∷◌, length, get_or, drop, sym, arith}
use Rattle.std.proofs.lemmas.List.{at_drop_more}
use Rattle.marks.specs.Spelling.{value}

-- it does not fall
pub value_up : (n : ℕ) (ds : List ℕ) → n ≤ value n ds
value_up n [] = omega arith
value_up n (d ∷ ds) = omega (arith, value_up (n * 10 + (d - 48)) ds)

-- one digit more of those from i on
pub one_more : (v : ℕ) (ds : List ℕ) (i : ℕ) → i < length ds → value (v * 10 + (get_or ds i 0 - 48)) (drop (i + 1) ds) ≡ value v (drop i ds)
one_more v ds i l = sym (at_drop_more (value v) ds i 0 l)
