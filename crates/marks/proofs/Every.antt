-- Every text has marks.
use Rattle.std.proofs.Common.{◌≡◌, ℕ, zero, suc, ◌+◌, ◌-◌, ◌<◌, ◌≤◌, Bool, true, false, eqb, leb, List, [], ◌∷◌, length, get_or, drop, codes, sym, refl, ap, ◌∙◌, subst, arith, length-drop, take-append-drop}
use Rattle.std.proofs.lemmas.Slice.Eq.{bytes_eq-Decides}
use Rattle.std.proofs.lemmas.Bool.{eqb-true, eqb-false, leb-true, leb-false, both_ways}
use Rattle.std.specs.Str.{bytes_eq}
use Rattle.isa.specs.declared.kinds.Arithmetic.TheVariants.{Add, Sub, Mul, Lt}
use Rattle.grammar.specs.declared.mark.Bracket.TheVariants.{Round, Square}
use Rattle.grammar.specs.declared.mark.Mark.{Mark}
use Rattle.grammar.specs.declared.mark.Mark.TheVariants as mark
use Rattle.grammar.specs.declared.mark.Placed.{Placed}
use Rattle.grammar.specs.Verdict.{Ending, text_end, strange}
use Rattle.marks.specs.declared.word.Kind.{Kind}
use Rattle.marks.specs.declared.word.Kind.TheVariants.{Word, Number, Sign}
use Rattle.marks.specs.Finding.{part, front, Whole}
use Rattle.marks.specs.Spelling.{kind_of, value, Spells, NoMark, Scanned, at_end, at_blank, at_mark, at_strange}
use Rattle.marks.specs.Texts.{HasMarks}
use Rattle.marks.proofs.Scanning.{front-whole, front_apart, front-is}
use Rattle.marks.proofs.Spelled.{spells_whole, whole-some, whole-digits, whole_sign, no_word, no_number, no_letter, no_sign}

-- bytes are a mark or none
data Either (s : List ℕ) : Type 0 where
  some : (m : Mark) → Spells s m → Either s
  none : NoMark s → Either s

-- two numbers are the same, or not; so for bytes
same : {R : Type 0} (a b : ℕ) → (a ≡ b → R) → ((a ≡ b → ⊥) → R) → R
same {R} a b f g = one (eqb a b) refl
  where
    one : (t : Bool) → eqb a b ≡ t → R
    one true e = f (eqb-true a b e)
    one false e = g (eqb-false a b e)

same_word : {R : Type 0} (s w : List ℕ) → (s ≡ w → R) → ((s ≡ w → ⊥) → R) → R
same_word {R} s w f g = one (bytes_eq s w) refl
  where
    one : (t : Bool) → bytes_eq s w ≡ t → R
    one true e = f ((bytes_eq-Decides s w).0 e)
    one false e = g λ q. both_ways (bytes_eq s w) e ((bytes_eq-Decides s w).1 q)

below : {R : Type 0} (a b : ℕ) → (a ≤ b → R) → (b < a → R) → R
below {R} a b f g = one (leb a b) refl
  where
    one : (t : Bool) → leb a b ≡ t → R
    one true e = f (leb-true a b e)
    one false e = g (leb-false a b e)

sign-or : (b : ℕ) → kind_of b ≡ Sign → Either (b ∷ [])
sign-or b k =
    same b 10 (is mark.LineEnd 10 (λ h. h)) λ line_end. same b 43 (is (mark.Operator Add) 43 (λ h. h)) λ add. same b 45 (is (mark.Operator Sub) 45 (λ h. h)) λ sub.
    same b 42 (is (mark.Operator Mul) 42 (λ h. h)) λ mul. same b 60 (is (mark.Operator Lt) 60 (λ h. h)) λ lt. same b 40 (is (mark.Open Round) 40 (λ h. h)) λ open_round.
    same b 41 (is (mark.Close Round) 41 (λ h. h)) λ close_round. same b 91 (is (mark.Open Square) 91 (λ h. h)) λ open_square. same b 93 (is (mark.Close Square) 93 (λ h. h)) λ close_square.
    same b 44 (is mark.Comma 44 (λ h. h)) λ comma. same b 61 (is mark.Equals 61 (λ h. h)) λ equals.
    none (no_sign b k (record {
      line_end = line_end;
      add = add;
      sub = sub;
      mul = mul;
      lt = lt;
      open_round = open_round;
      close_round = close_round;
      open_square = open_square;
      close_square = close_square;
      comma = comma;
      equals = equals;
    }))
  where
    is : (m : Mark) (n : ℕ) → (b ∷ [] ≡ n ∷ [] → Spells (b ∷ []) m) → b ≡ n → Either (b ∷ [])
    is m n f e = some m (f (ap (λ c. c ∷ []) e))

letter_or : (b : ℕ) → kind_of b ≡ Word → Either (b ∷ [])
letter_or b k =
    below 65 b
    (λ low. below b 70
    (λ high. some (mark.Variable (record { number = b - 65; low = omega (arith, low, high) })) (let e : b ≡ 65 + (b - 65) = omega (arith, low) in ap (λ c. c ∷ []) e))
    (λ high. none (no_letter b k λ n l e. omega (arith, high, l, e))))
    (λ low. none (no_letter b k λ n l e. omega (arith, low, e)))

word-or : (s : List ℕ) → kind_of (get_or s 0 0) ≡ Word → (length s ≡ 1 → ⊥) → Either s
word-or s k n =
    same_word s (codes "LET") (some mark.Let) λ a. same_word s (codes "PUT") (some mark.Put) λ b. same_word s (codes "REPEAT") (some mark.Repeat) λ c. same_word s (codes "END") (some mark.End) λ d.
    none (no_word s k a b c d n)

number-or : (s : List ℕ) → Whole s → kind_of (get_or s 0 0) ≡ Number → Either s
number-or s w k =
    below (value 0 s) 4294967295
    (λ small. same (get_or s 0 0) 48
    (λ zero-first. same (length s) 1 (λ one. fits small (λ e. one)) (λ more. none (no_number s k λ n h. more (h.canonical zero-first))))
    (λ other. fits small (λ e. absurd (other e))))
    (λ large. none (no_number s k λ n h. omega (arith, large, h.is, h.small)))
  where
    fits : value 0 s ≤ 4294967295 → (get_or s 0 0 ≡ 48 → length s ≡ 1) → Either s
    fits small canonical = some (mark.Number (value 0 s)) (record { some = whole-some s w; digits = whole-digits s w k; canonical = canonical; is = refl; small = small })

mark_or : (s : List ℕ) → Whole s → Either s
mark_or [] w = absurd w
mark_or (b ∷ s) w = one (kind_of b) refl
  where
    one : (k : Kind) → kind_of b ≡ k → Either (b ∷ s)
    one Number e = number-or (b ∷ s) w e
    one Sign e = subst Either (sym (whole_sign (b ∷ s) w e)) (sign-or b e)
    one Word e = letters s e
      where
        letters : (r : List ℕ) → kind_of b ≡ Word → Either (b ∷ r)
        letters [] k = letter_or b k
        letters (c ∷ r) k = word-or (b ∷ c ∷ r) k (λ q. omega (arith, q))

-- the marks of a text from a byte on
record Marked (text : List ℕ) (n : ℕ) : Type 0 where
  pub marks : List Placed
  pub end : Ending
  pub scanned : Scanned text n marks end

marked : (k : ℕ) (text : List ℕ) (n : ℕ) → length text ≤ k → Marked text n
marked k [] n l = record { marks = []; end = text_end n; scanned = at_end }
marked zero (b ∷ s) n l = absurd (omega (arith, l))
marked (suc k) (b ∷ s) n l =
    same b 32
    (λ e. let h = marked k s (n + 1) (omega (arith, l)) in record { marks = h.marks; end = h.end; scanned = subst (λ c. Scanned (c ∷ s) n h.marks h.end) (sym e) (at_blank h.scanned) })
    (λ e. one e (mark_or (front (b ∷ s)) (front-whole (b ∷ s) (omega arith))) (λ i. marked k (drop (part (b ∷ s)) (b ∷ s)) i (omega (arith, l, length-drop (part (b ∷ s)) (b ∷ s)))))
  where
    behind : List ℕ
    behind = drop (part (b ∷ s)) (b ∷ s)

    one : (b ≡ 32 → ⊥) → Either (front (b ∷ s)) → ((i : ℕ) → Marked behind i) → Marked (b ∷ s) n
    one e (none q) rest_of = record { marks = []; end = strange n; scanned = at_strange e λ t rest f a m sp. q m (subst (λ r. Spells r m) (sym (ap front f ∙ front-is t rest (spells_whole m t sp) a)) sp) }
    one e (some m sp) rest_of =
        let t = front (b ∷ s) in
        let h = rest_of (n + length t) in
        record {
          marks = record { mark = m; place = n } ∷ h.marks;
          end = h.end;
          scanned = subst (λ r. Scanned r n (record { mark = m; place = n } ∷ h.marks) h.end) (take-append-drop (part (b ∷ s)) (b ∷ s)) (at_mark t behind m sp (front_apart (b ∷ s) (omega arith)) h.scanned);
        }

pub has_marks : HasMarks
has_marks text = let h = marked (length text) text 0 (omega arith) in (h.marks, h.end, h.scanned)
