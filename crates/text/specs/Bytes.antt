-- White space, and the words of a text.
use Rattle.std.specs.Prelude.{ℕ, Bool, false, cond, ◌&&◌, ◌||◌, List, [], ◌∷◌, ◌==◌, nat_le}

-- white space: a blank, and the bytes from tab to carriage return, newline among them
abbrev pub white : ℕ → Bool
white b = b == 32 || (nat_le 9 b && nat_le b 13)

-- the words of a text: its longest runs of bytes that are not white space
abbrev pub glued : ℕ → List ℕ → List (List ℕ) → List (List ℕ)
glued b [] ws = (b ∷ []) ∷ ws
glued b (c ∷ bs) [] = (b ∷ []) ∷ []
glued b (c ∷ bs) (w ∷ ws) = cond (white c) ((b ∷ []) ∷ w ∷ ws) ((b ∷ w) ∷ ws)

abbrev pub words : List ℕ → List (List ℕ)
words [] = []
words (b ∷ bs) = cond (white b) (words bs) (glued b bs (words bs))

-- the first word begins with a digit
abbrev pub numeric : List (List ℕ) → Bool
numeric [] = false
numeric ([] ∷ ws) = false
numeric ((b ∷ bs) ∷ ws) = nat_le 48 b && nat_le b 57
