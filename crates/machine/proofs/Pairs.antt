-- Pairs in the first slots of a table, and what stands at an address under pairs.
use Rattle.std.proofs.Common.{◌≡◌, ℕ, ◌+◌, ◌-◌, ◌<◌, ◌≤◌, Bool, true, false, cond, eqb, List, [], ◌∷◌, ◌++◌, length, take, drop, Some, None, Option, unwrap_or, sym, refl, ap, ◌∙◌, arith, length-drop, reverse}
use Rattle.std.specs.Option.{option_map, option_or}
use Rattle.std.specs.List.{find}
use Rattle.std.proofs.lemmas.Bool.Decides.{nat_tests}
use Rattle.std.proofs.lemmas.List.{take-append-le, drop-take, reverse-append}
use Rattle.std.proofs.lemmas.List.Folds.{find-append}
use Rattle.memory.specs.Cells.{replaced}
use Rattle.machine.specs.declared.queue.Pair.{Pair}
use Rattle.machine.specs.Pairs.{rest, newest, overlay}

drop-one : (xs : List Pair) → drop 1 xs ≡ rest xs
drop-one [] = refl
drop-one (x ∷ xs) = refl

-- the slots turned by one, less the last one in use
pub turned : (xs : List Pair) (n : ℕ) → 0 < n → n ≤ length xs → take (n - 1) (drop 1 xs ++ take 1 xs) ≡ rest (take n xs)
turned xs n h l =
    let short : n - 1 ≤ length (drop 1 xs) = simp length-drop (omega arith) in
    let e : 1 + (n - 1) ≡ n = omega arith in
    take-append-le (n - 1) (drop 1 xs) (take 1 xs) short ∙ sym (drop-take 1 (n - 1) xs) ∙ ap (λ k. drop 1 (take k xs)) e ∙ drop-one (take n xs)

mirrored : (a b : ℕ) → eqb a b ≡ eqb b a
mirrored a b = grind (arith, nat_tests)

abbrev pub word : Option Pair → Option ℕ
word o = option_map (λ (p : Pair). p.word) o

abbrev pub at? : ℕ → Pair → Bool
at? a p = eqb p.address a

older : (o p : Option Pair) → word (option_or o p) ≡ option_or (word o) (word p)
older None p = refl
older (Some x) p = refl

last : (b : Bool) (p : Pair) → word (cond b (Some p) None) ≡ cond b (Some p.word) None
last true p = refl
last false p = refl

-- the newest pair with the address is the first one from the newest on
pub newest_found : (q : List Pair) (a : ℕ) → newest q a ≡ word (find (at? a) (reverse q))
newest_found [] a = refl
newest_found (p ∷ q) a =
    sym (ap (λ l. word (find (at? a) l)) (reverse-append (p ∷ []) q)
    ∙ ap word (find-append (at? a) (reverse q) (p ∷ []))
    ∙ older (find (at? a) (reverse q)) (cond (at? a p) (Some p) None)
    ∙ (λ i. option_or (sym (newest_found q a) i) (last (mirrored p.address a i) p i)))

under : (o : Option ℕ) (b : Bool) (x y : ℕ) → unwrap_or o (cond b x y) ≡ unwrap_or (option_or o (cond b (Some x) None)) y
under None true x y = refl
under None false x y = refl
under (Some z) b x y = refl

-- under pairs there stands the newest one's word, or else the word below
pub overlay_newest : (q : List Pair) (words : ℕ → ℕ) (a : ℕ) → overlay q words a ≡ unwrap_or (newest q a) (words a)
overlay_newest [] words a = refl
overlay_newest (p ∷ q) words a = overlay_newest q (replaced words p.address p.word) a ∙ under (newest q a) (eqb a p.address) p.word (words a)
