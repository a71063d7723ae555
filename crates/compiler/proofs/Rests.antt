-- The rest of a list behind its first entries.
use Rattle.std.proofs.Common.{◌≡◌, ℕ, suc, ◌+◌, ◌-◌, ◌<◌, List, ◌∷◌, length, get_or, drop, sym, ap, ◌∙◌, add-zero, arith}
use Rattle.std.proofs.lemmas.List.{get_or-drop, drop-drop, length-drop}

-- the first entry of the rest
pub rest-front : {X : Type 0} (n : ℕ) (xs : List X) (d x : X) (ys : List X) → drop n xs ≡ x ∷ ys → get_or xs n d ≡ x
rest-front n xs d x ys e = ap (λ k. get_or xs k d) (sym (add-zero n)) ∙ sym (get_or-drop n xs 0 d) ∙ ap (λ zs. get_or zs 0 d) e

-- the rest behind it
pub rest_more : {X : Type 0} (n : ℕ) (xs : List X) (x : X) (ys : List X) → drop n xs ≡ x ∷ ys → drop (n + 1) xs ≡ ys
rest_more n xs x ys e = sym (drop-drop 1 n xs) ∙ ap (drop 1) e

pub rest_below : {X : Type 0} (n : ℕ) (xs : List X) (x : X) (ys : List X) → drop n xs ≡ x ∷ ys → n < length xs
rest_below n xs x ys e =
    let l : length xs - n ≡ suc (length ys) = sym (length-drop n xs) ∙ ap length e in
    omega arith
