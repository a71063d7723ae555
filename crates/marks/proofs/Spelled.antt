-- The kind of a mark, by its bytes.
use Rattle.std.proofs.Common.{◌≡◌, ℕ, zero, suc, ◌+◌, ◌<◌, true, cond, ◌&&◌, leb, List, [], ◌∷◌, length, get_or, sym, refl, ap, ◌∙◌, subst, arith}
use Rattle.isa.specs.declared.kinds.Arithmetic.TheVariants.{Add, Sub, Mul, Lt}
use Rattle.grammar.specs.declared.mark.Bracket.TheVariants.{Round, Square}
use Rattle.grammar.specs.declared.mark.Mark.{Mark}
use Rattle.grammar.specs.declared.mark.Mark.TheVariants as mark
use Rattle.std.proofs.lemmas.Bool.{le-leb}
use Rattle.marks.specs.declared.word.Kind.{Kind}
use Rattle.marks.specs.declared.word.Kind.TheVariants.{Word, Number, Sign}
use Rattle.marks.specs.Finding.{AllGo, Whole}
use Rattle.marks.specs.Spelling.{kind_of, joined, Numeral, Spells, NoMark}

-- the kind of bytes that a mark has
abbrev pub kind_mark : Mark → Kind
kind_mark mark.Let = Word
kind_mark mark.Put = Word
kind_mark mark.Repeat = Word
kind_mark mark.End = Word
kind_mark mark.LineEnd = Sign
kind_mark (mark.Number n) = Number
kind_mark (mark.Variable v) = Word
kind_mark (mark.Operator o) = Sign
kind_mark (mark.Open b) = Sign
kind_mark (mark.Close b) = Sign
kind_mark mark.Comma = Sign
kind_mark mark.Equals = Sign

abbrev head_kind : List ℕ → Kind
head_kind s = kind_of (get_or s 0 0)

pub letter_kind : (n : ℕ) → n < 6 → kind_of (65 + n) ≡ Word
letter_kind n h = ap (λ b. cond (b && leb (65 + n) 90) Word (cond (leb 48 (65 + n) && leb (65 + n) 57) Number Sign)) (le-leb 65 (65 + n) (omega arith))
    ∙ ap (λ b. cond b Word (cond (leb 48 (65 + n) && leb (65 + n) 57) Number Sign)) (le-leb (65 + n) 90 (omega arith))

pub head_kind_lem : (m : Mark) (s : List ℕ) → Spells s m → head_kind s ≡ kind_mark m
head_kind_lem mark.Let s h = ap head_kind h
head_kind_lem mark.Put s h = ap head_kind h
head_kind_lem mark.Repeat s h = ap head_kind h
head_kind_lem mark.End s h = ap head_kind h
head_kind_lem mark.LineEnd s h = ap head_kind h
head_kind_lem (mark.Number n) s h = h.digits 0 h.some
head_kind_lem (mark.Variable v) s h = ap head_kind h ∙ letter_kind v.number v.low
head_kind_lem (mark.Operator Add) s h = ap head_kind h
head_kind_lem (mark.Operator Sub) s h = ap head_kind h
head_kind_lem (mark.Operator Mul) s h = ap head_kind h
head_kind_lem (mark.Operator Lt) s h = ap head_kind h
head_kind_lem (mark.Open Round) s h = ap head_kind h
head_kind_lem (mark.Open Square) s h = ap head_kind h
head_kind_lem (mark.Close Round) s h = ap head_kind h
head_kind_lem (mark.Close Square) s h = ap head_kind h
head_kind_lem mark.Comma s h = ap head_kind h
head_kind_lem mark.Equals s h = ap head_kind h

-- where a word is wanted and none of these is it
module _ (s : List ℕ) (k : head_kind s ≡ Word) where
  other_kind : (m : Mark) → (kind_mark m ≡ Word → ⊥) → Spells s m → ⊥
  other_kind m n h = n (sym (head_kind_lem m s h) ∙ k)

  number_word : Number ≡ Word → ⊥
  number_word e = cc

  sign_word : Sign ≡ Word → ⊥
  sign_word e = cc

  pub no_word : (Spells s mark.Let → ⊥) → (Spells s mark.Put → ⊥) → (Spells s mark.Repeat → ⊥) → (Spells s mark.End → ⊥) → (length s ≡ 1 → ⊥) → NoMark s
  no_word a b c d e mark.Let h = a h
  no_word a b c d e mark.Put h = b h
  no_word a b c d e mark.Repeat h = c h
  no_word a b c d e mark.End h = d h
  no_word a b c d e (mark.Variable v) h = e (ap length h)
  no_word a b c d e mark.LineEnd h = other_kind mark.LineEnd sign_word h
  no_word a b c d e (mark.Number n) h = other_kind (mark.Number n) number_word h
  no_word a b c d e (mark.Operator o) h = other_kind (mark.Operator o) sign_word h
  no_word a b c d e (mark.Open x) h = other_kind (mark.Open x) sign_word h
  no_word a b c d e (mark.Close x) h = other_kind (mark.Close x) sign_word h
  no_word a b c d e mark.Comma h = other_kind mark.Comma sign_word h
  no_word a b c d e mark.Equals h = other_kind mark.Equals sign_word h

-- .. a number, a variable, a sign
pub no_number : (s : List ℕ) → head_kind s ≡ Number → ((n : ℕ) → Numeral s n → ⊥) → NoMark s
no_number s k none m h = one m h (sym (head_kind_lem m s h) ∙ k)
  where
    one : (m : Mark) → Spells s m → kind_mark m ≡ Number → ⊥
    one mark.Let h e = cc
    one mark.Put h e = cc
    one mark.Repeat h e = cc
    one mark.End h e = cc
    one mark.LineEnd h e = cc
    one (mark.Number n) h e = none n h
    one (mark.Variable v) h e = cc
    one (mark.Operator o) h e = cc
    one (mark.Open b) h e = cc
    one (mark.Close b) h e = cc
    one mark.Comma h e = cc
    one mark.Equals h e = cc

pub no_letter : (b : ℕ) → kind_of b ≡ Word → ((n : ℕ) → n < 6 → b ≡ 65 + n → ⊥) → NoMark (b ∷ [])
no_letter b k none m h = one m h (sym (head_kind_lem m (b ∷ []) h) ∙ k)
  where
    one : (m : Mark) → Spells (b ∷ []) m → kind_mark m ≡ Word → ⊥
    one mark.Let h e = let z : ◌≡◌ {A = ℕ} 1 3 = ap length h in omega arith
    one mark.Put h e = let z : ◌≡◌ {A = ℕ} 1 3 = ap length h in omega arith
    one mark.Repeat h e = let z : ◌≡◌ {A = ℕ} 1 6 = ap length h in omega arith
    one mark.End h e = let z : ◌≡◌ {A = ℕ} 1 3 = ap length h in omega arith
    one mark.LineEnd h e = cc
    one (mark.Number n) h e = cc
    one (mark.Variable v) h e = none v.number v.low (ap (λ l. get_or l 0 0) h)
    one (mark.Operator o) h e = cc
    one (mark.Open x) h e = cc
    one (mark.Close x) h e = cc
    one mark.Comma h e = cc
    one mark.Equals h e = cc

-- the bytes of a mark are one byte or a run
abbrev digits-go : List ℕ → Type 0
digits-go s = (k : ℕ) → k < length s → kind_of (get_or s k 0) ≡ Number

go-digits : (s : List ℕ) → digits-go s → AllGo Number s
go-digits [] h = tt
go-digits (b ∷ s) h = (ap (joined Number) (h 0 (omega arith)), go-digits s (λ k l. h (suc k) (omega (arith, l))))

number-whole : (s : List ℕ) (n : ℕ) → Numeral s n → Whole s
number-whole [] n h = let z : 0 < 0 = h.some in omega arith
number-whole (b ∷ s) n h = subst (λ k. AllGo k s) (sym (h.digits 0 h.some)) (go-digits s (λ k l. h.digits (suc k) (omega (arith, l))))

pub spells_whole : (m : Mark) (s : List ℕ) → Spells s m → Whole s
spells_whole mark.Let s h = subst Whole (sym h) (refl, (refl, tt))
spells_whole mark.Put s h = subst Whole (sym h) (refl, (refl, tt))
spells_whole mark.Repeat s h = subst Whole (sym h) (refl, (refl, (refl, (refl, (refl, tt)))))
spells_whole mark.End s h = subst Whole (sym h) (refl, (refl, tt))
spells_whole mark.LineEnd s h = subst Whole (sym h) tt
spells_whole (mark.Number n) s h = number-whole s n h
spells_whole (mark.Variable v) s h = subst Whole (sym h) tt
spells_whole (mark.Operator Add) s h = subst Whole (sym h) tt
spells_whole (mark.Operator Sub) s h = subst Whole (sym h) tt
spells_whole (mark.Operator Mul) s h = subst Whole (sym h) tt
spells_whole (mark.Operator Lt) s h = subst Whole (sym h) tt
spells_whole (mark.Open Round) s h = subst Whole (sym h) tt
spells_whole (mark.Open Square) s h = subst Whole (sym h) tt
spells_whole (mark.Close Round) s h = subst Whole (sym h) tt
spells_whole (mark.Close Square) s h = subst Whole (sym h) tt
spells_whole mark.Comma s h = subst Whole (sym h) tt
spells_whole mark.Equals s h = subst Whole (sym h) tt

-- and a whole of each kind
joined_number : (k : Kind) → joined Number k ≡ true → k ≡ Number
joined_number Word h = absurd cc
joined_number Number h = refl
joined_number Sign h = absurd cc

joined_sign : (k : Kind) → joined Sign k ≡ true → ⊥
joined_sign Word h = cc
joined_sign Number h = cc
joined_sign Sign h = cc

all_digits : (s : List ℕ) → AllGo Number s → digits-go s
all_digits [] h k l = absurd (omega (arith, l))
all_digits (b ∷ s) h zero l = joined_number (kind_of b) h.0
all_digits (b ∷ s) h (suc k) l = all_digits s h.1 k (omega (arith, l))

pub whole-some : (s : List ℕ) → Whole s → 0 < length s
whole-some [] h = absurd h
whole-some (b ∷ s) h = omega arith

pub whole-digits : (s : List ℕ) → Whole s → head_kind s ≡ Number → digits-go s
whole-digits [] h e k l = absurd h
whole-digits (b ∷ s) h e zero l = e
whole-digits (b ∷ s) h e (suc k) l = all_digits s (subst (λ x. AllGo x s) e h) k (omega (arith, l))

pub whole_sign : (s : List ℕ) → Whole s → head_kind s ≡ Sign → s ≡ get_or s 0 0 ∷ []
whole_sign [] h e = absurd h
whole_sign (b ∷ []) h e = refl
whole_sign (b ∷ c ∷ s) h e = absurd (joined_sign (kind_of c) (subst (λ x. AllGo x (c ∷ s)) e h).0)

-- no sign is this byte
pub record OtherThanSigns (b : ℕ) : Type 0 where
  pub line_end : b ≡ 10 → ⊥
  pub add : b ≡ 43 → ⊥
  pub sub : b ≡ 45 → ⊥
  pub mul : b ≡ 42 → ⊥
  pub lt : b ≡ 60 → ⊥
  pub open_round : b ≡ 40 → ⊥
  pub close_round : b ≡ 41 → ⊥
  pub open_square : b ≡ 91 → ⊥
  pub close_square : b ≡ 93 → ⊥
  pub comma : b ≡ 44 → ⊥
  pub equals : b ≡ 61 → ⊥

pub no_sign : (b : ℕ) → kind_of b ≡ Sign → OtherThanSigns b → NoMark (b ∷ [])
no_sign b k o m h = one m h (sym (head_kind_lem m (b ∷ []) h) ∙ k)
  where
    byte : (n : ℕ) → b ∷ [] ≡ n ∷ [] → b ≡ n
    byte n e = ap (λ l. get_or l 0 0) e

    one : (m : Mark) → Spells (b ∷ []) m → kind_mark m ≡ Sign → ⊥
    one mark.Let h e = cc
    one mark.Put h e = cc
    one mark.Repeat h e = cc
    one mark.End h e = cc
    one mark.LineEnd h e = o.line_end (byte 10 h)
    one (mark.Number n) h e = cc
    one (mark.Variable v) h e = cc
    one (mark.Operator Add) h e = o.add (byte 43 h)
    one (mark.Operator Sub) h e = o.sub (byte 45 h)
    one (mark.Operator Mul) h e = o.mul (byte 42 h)
    one (mark.Operator Lt) h e = o.lt (byte 60 h)
    one (mark.Open Round) h e = o.open_round (byte 40 h)
    one (mark.Open Square) h e = o.open_square (byte 91 h)
    one (mark.Close Round) h e = o.close_round (byte 41 h)
    one (mark.Close Square) h e = o.close_square (byte 93 h)
    one mark.Comma h e = o.comma (byte 44 h)
    one mark.Equals h e = o.equals (byte 61 h)
