-- Laws of the meaning of plans.
use Rattle.std.specs.Prelude.{◌≡◌, ℕ, suc, Bool, true, false, List, [], ◌∷◌, ◌++◌}
use Rattle.language.specs.Plans.{Tree, number, Plan, again}
use Rattle.language.specs.Meaning.{Store, Book, Result, fine, stuck, value_in, and_then, meaning, book_of, outcome}

-- each of the stores is at a writable cell
abbrev pub AllWritable : (ℕ → Bool) → List Store → Type 0
AllWritable w [] = Unit {0}
AllWritable w (x ∷ xs) = (w x.address ≡ true) × AllWritable w xs

-- how a plan comes out, beside how it would if every cell were writable: the same, or stuck with the stores up to the
-- first one that cannot be made
abbrev pub Stops : (ℕ → Bool) → Result → Result → Type 0
Stops w r (stuck u) = ⊥
Stops w (fine t) (fine u) = t ≡ u
Stops w (stuck t) (fine u) = (x : Store) × (later : List Store) × (u.made ≡ t.made ++ (x ∷ later)) × (w x.address ≡ false)

module _ (w : ℕ → Bool) where
  pub record Laws : Type 0 where
    -- the count of a REPEAT is evaluated once
    pub counted : (e : Tree) (B P : Plan) (s : Book) → meaning w (again e B P) s ≡ meaning w (again (number (value_in e s)) B P) s
    -- REPEAT 0 does nothing
    pub never : (B P : Plan) (s : Book) → meaning w (again (number 0) B P) s ≡ meaning w P s
    -- REPEAT n + 1 is its body and then REPEAT n
    pub once_more : (n : ℕ) (B P : Plan) (s : Book) →
        meaning w (again (number (suc n)) B P) s ≡ and_then (meaning w B s) (λ t. meaning w (again (number n) B P) t)
    -- every store that a plan makes can be made
    pub made : (P : Plan) (cells : ℕ → ℕ) → AllWritable w (book_of (outcome w P cells)).made
    -- and it stops at the first one that cannot
    pub stops : (P : Plan) (cells : ℕ → ℕ) → Stops w (outcome w P cells) (outcome (λ a. true) P cells)

abbrev pub MeaningLaws : Type 0
MeaningLaws = (w : ℕ → Bool) → Laws w
