-- Looking for the block that starts at a place.
use Rattle.std.proofs.Common.{◌≡◌, ℕ, Bool, true, false, cond, ◌&&◌, eqb, length, List, [], ◌∷◌, Some, None, Option, Bor, is_some, MatchOption, sym, refl, ap, ◌∙◌}
use Rattle.std.specs.Option.{option_map_or, option_copied}
use Rattle.std.specs.List.{find}
use Rattle.std.specs.Slice.{IsItemAt}
use Rattle.std.proofs.lemmas.Bool.{ltb-true, ltb-false}
use Rattle.rules.specs.Notes.{Notes, Static, none?, clear?}
use Rattle.rules.specs.Block.{behind, ends?}
use Rattle.rules.proofs.Parts.{behind-at, behind-none}
use Rattle.rules.specs.Cards.{Block, Entry, inside, start, entry, starts?, enters?, met?}

abbrev entry_of : Option Block → Entry
entry_of o = option_map_or (λ b. start b.card) o inside

found_first : (e : Bool) (b : Block) (o : Option Block) → entry_of (cond e (Some b) o) ≡ cond e (start b.card) (entry_of o)
found_first true b o = refl
found_first false b o = refl

entry_found : (bs : List Block) (t : ℕ) → entry bs t ≡ entry_of (find (λ b. eqb b.start t) bs)
unfolding entry
entry_found [] t = refl
entry_found (b ∷ bs) t = ap (cond (eqb b.start t) (start b.card)) (entry_found bs t) ∙ sym (found_first (eqb b.start t) b _)

entry_copied : (o : Option (Bor Block)) → entry_of (option_copied o) ≡ option_map_or (λ b. start b.now.card) o inside
entry_copied None = refl
entry_copied (Some b) = refl

-- the entry of the block that was found, or of none
found_entry : (bs : List Block) (t : ℕ) (o : Option (Bor Block)) → option_copied o ≡ find (λ b. eqb b.start t) bs → entry bs t ≡ option_map_or (λ b. start b.now.card) o inside
found_entry bs t o h = entry_found bs t ∙ ap entry_of (sym h) ∙ entry_copied o

-- a block starts there, and its card is met
pub entered : (bs : List Block) (t : ℕ) (N : Notes) (o : Option (Bor Block)) (r : Bool) → option_copied o ≡ find (λ b. eqb b.start t) bs → MatchOption o (r ≡ false) (λ b. r ≡ met? b.now.card N) → r ≡ enters? (entry bs t) N
entered bs t N o r h m = go o m ∙ ap (λ e. enters? e N) (sym (found_entry bs t o h))
  where
    go : (o : Option (Bor Block)) → MatchOption o (r ≡ false) (λ b. r ≡ met? b.now.card N) → r ≡ enters? (option_map_or (λ b. start b.now.card) o inside) N
    go None m = m
    go (Some b) m = m

pub started : (bs : List Block) (t : ℕ) (o : Option (Bor Block)) → option_copied o ≡ find (λ b. eqb b.start t) bs → is_some o ≡ starts? (entry bs t)
started bs t o h = go o ∙ ap starts? (sym (found_entry bs t o h))
  where
    go : (o : Option (Bor Block)) → is_some o ≡ starts? (option_map_or (λ b. start b.now.card) o inside)
    go None = refl
    go (Some b) = refl

-- the next block is met where this one ends, or there is none
pub ended : (bs : List Block) (j : ℕ) (S : Static) (o : Option (Bor Block)) (r : Bool) → IsItemAt bs j o
    → MatchOption o (r ≡ false) (λ b. r ≡ ((none? S.pending && clear? S.dest) && met? b.now.card S.notes)) → r ≡ ends? (behind bs j) S
ended bs j S None r h m = m ∙ ap (λ k. ends? k S) (sym (behind-none bs j (ltb-false j (length bs) (sym h.0))))
ended bs j S (Some b) r h m =
    m ∙ ap (λ k. ends? k S) (sym (behind-at bs j b.now (ltb-true j (length bs) (sym h.0)) ∙ ap (λ (x : Block). Some x.card) (sym h.1)))
