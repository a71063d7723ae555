-- The marks of a text, one after the other.
use Rattle.std.proofs.Common.{◌≡◌, ℕ, suc, ◌+◌, ◌<◌, ◌≤◌, Bool, true, false, cond, List, [], ◌∷◌, ◌++◌, length, take, drop, sym, refl, ap, ◌∙◌, subst, arith, take-append-drop, length-take}
use lib.Seq.{take-append_seam}
use Rattle.std.specs.List.{prefix_len, take_while}
use Rattle.std.proofs.lemmas.List.{nil_from_length}
use Rattle.std.proofs.lemmas.List.Sums.{take_while-cons}
use Rattle.grammar.specs.declared.mark.Mark.{Mark}
use Rattle.grammar.specs.declared.mark.Placed.{Placed}
use Rattle.grammar.specs.Verdict.{Ending, text_end, strange}
use Rattle.marks.specs.declared.word.Kind.{Kind}
use Rattle.marks.specs.Finding.{counted, run, part, front, AllGo, Whole}
use Rattle.marks.specs.Spelling.{kind_of, goes_on, Spells, NoMark, Apart, Scanned, at_end, at_blank, at_mark, at_strange}
use Rattle.marks.proofs.Spelled.{spells_whole}

-- the front of what is left is not of this kind
abbrev Stop : Kind → List ℕ → Type 0
Stop k [] = Unit {0}
Stop k (b ∷ s) = goes_on k b ≡ false

run-go : (k : Kind) (s : List ℕ) → AllGo k (take (run k s) s)
run-go k [] = tt
run-go k (b ∷ s) = one (goes_on k b) refl (run-go k s)
  where
    one : (t : Bool) → goes_on k b ≡ t → AllGo k (take (run k s) s) → AllGo k (take (counted t (run k s)) (b ∷ s))
    one true e h = (e, h)
    one false e h = tt

run-stop : (k : Kind) (s : List ℕ) → Stop k (drop (run k s) s)
run-stop k [] = tt
run-stop k (b ∷ s) = one (goes_on k b) refl (run-stop k s)
  where
    one : (t : Bool) → goes_on k b ≡ t → Stop k (drop (run k s) s) → Stop k (drop (counted t (run k s)) (b ∷ s))
    one true e h = h
    one false e h = e

-- the run, as the library takes it
run-is : (k : Kind) (s : List ℕ) → length (take_while (goes_on k) s) ≡ run k s
run-is k [] = refl
run-is k (b ∷ s) = ap length (take_while-cons (goes_on k) b s) ∙ one (goes_on k b) (run-is k s)
  where
    one : (t : Bool) → length (take_while (goes_on k) s) ≡ run k s → length (cond t (b ∷ take_while (goes_on k) s) []) ≡ counted t (run k s)
    one true h = ap suc h
    one false h = refl

part_short : (s : List ℕ) → part s ≤ length s
part_short [] = omega arith
part_short (b ∷ s) = omega (arith, run-is (kind_of b) s, length-take (prefix_len (goes_on (kind_of b)) s) s)

run_all : (k : Kind) (t rest : List ℕ) → AllGo k t → Stop k rest → run k (t ++ rest) ≡ length t
run_all k [] [] h e = refl
run_all k [] (b ∷ rest) h e = ap (λ x. counted x (run k rest)) e
run_all k (b ∷ t) rest h e = ap (λ x. counted x (run k (t ++ rest))) h.0 ∙ ap suc (run_all k t rest h.1 e)

-- the front of a text that is not empty can be one mark
pub front-whole : (s : List ℕ) → 0 < length s → Whole (front s)
front-whole [] h = absurd (omega (arith, h))
front-whole (b ∷ s) h = run-go (kind_of b) s

pub front_apart : (s : List ℕ) → 0 < length s → Apart (front s) (drop (part s) s)
front_apart [] h = tt
front_apart (b ∷ s) h = one (drop (run (kind_of b) s) s) (run-stop (kind_of b) s)
  where
    one : (r : List ℕ) → Stop (kind_of b) r → Apart (front (b ∷ s)) r
    one [] e = tt
    one (c ∷ r) e = e

apart_stop : (b : ℕ) (t rest : List ℕ) → Apart (b ∷ t) rest → Stop (kind_of b) rest
apart_stop b t [] h = tt
apart_stop b t (c ∷ rest) h = h

-- a mark that ends before the rest is the whole front
pub front-is : (t rest : List ℕ) → Whole t → Apart t rest → front (t ++ rest) ≡ t
front-is [] rest h e = absurd h
front-is (b ∷ t) rest h e = ap (λ n. b ∷ take n (t ++ rest)) (run_all (kind_of b) t rest h (apart_stop b t rest e)) ∙ ap (λ l. b ∷ l) (take-append_seam t rest)

pub part-is : (b : ℕ) (s : List ℕ) (k : Kind) (n : ℕ) → k ≡ kind_of b → n ≡ length (take_while (goes_on k) s) → 1 + n ≡ part (b ∷ s)
part-is b s k n e h = omega (arith, h, run-is k s, ap (λ k. run k s) e)

-- a blank at the byte n
pub scan_blank : (b : ℕ) (s : List ℕ) (n m : ℕ) → b ≡ 32 → m ≡ n + 1 → {ps : List Placed} {z : Ending} → Scanned s m ps z → Scanned (b ∷ s) n ps z
scan_blank b s n m e l {ps} {z} h = subst (λ c. Scanned (c ∷ s) n ps z) (sym e) (at_blank (subst (λ i. Scanned s i ps z) l h))

-- the k bytes at the front of a text that is not empty, with a mark, or with none
module _ (b : ℕ) (s : List ℕ) (k : ℕ) (e : k ≡ part (b ∷ s)) where
  pub front-at : take k (b ∷ s) ≡ front (b ∷ s)
  front-at = ap (λ m. take m (b ∷ s)) e

  pub scan_mark : (n : ℕ) (m : Mark) → Spells (take k (b ∷ s)) m → {ps : List Placed} {z : Ending} → Scanned (drop k (b ∷ s)) (n + k) ps z → Scanned (b ∷ s) n (record { mark = m; place = n } ∷ ps) z
  scan_mark n m sp {ps} {z} h =
      let len : length (take k (b ∷ s)) ≡ k = omega (arith, length-take k (b ∷ s), part_short (b ∷ s), e) in
      let apart = subst (λ m. Apart (take m (b ∷ s)) (drop m (b ∷ s))) (sym e) (front_apart (b ∷ s) (omega arith)) in
      let behind = subst (λ i. Scanned (drop k (b ∷ s)) (n + i) ps z) (sym len) h in
      subst (λ r. Scanned r n (record { mark = m; place = n } ∷ ps) z) (take-append-drop k (b ∷ s)) (at_mark (take k (b ∷ s)) (drop k (b ∷ s)) m sp apart behind)

  pub scan_strange : (n : ℕ) → (b ≡ 32 → ⊥) → NoMark (take k (b ∷ s)) → Scanned (b ∷ s) n [] (strange n)
  scan_strange n ne none = at_strange ne λ t rest q a m sp. none m (subst (λ r. Spells r m) (sym (front-at ∙ ap front q ∙ front-is t rest (spells_whole m t sp) a)) sp)

-- nothing is left
pub scan_end : (s : List ℕ) (n m : ℕ) → length s ≡ 0 → n ≡ m → Scanned s n [] (text_end m)
scan_end s n m l e = subst (λ r. Scanned r n [] (text_end m)) (sym (nil_from_length s l)) (subst (λ i. Scanned [] i [] (text_end m)) (sym e) at_end)
