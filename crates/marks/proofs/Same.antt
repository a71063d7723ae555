-- A text has one list of marks.
use Rattle.std.proofs.Common.{◌≡◌, ℕ, ◌+◌, ◌-◌, ◌<◌, Bool, true, false, cond, T, eqb, ltb, List, [], ◌∷◌, ◌++◌, length, get_or, codes, sym, refl, ap, ◌∙◌, subst, arith, ltb→lt, lt→ltb}
use mathlib.Core.List.{append_cancel_left}
use Rattle.isa.specs.declared.kinds.Arithmetic.TheVariants.{Add, Sub, Mul, Lt}
use Rattle.language.specs.Plans.{Plan, done}
use Rattle.grammar.specs.declared.mark.Bracket.TheVariants.{Round, Square}
use Rattle.grammar.specs.declared.mark.Mark.{Mark}
use Rattle.grammar.specs.declared.mark.Mark.TheVariants as mark
use Rattle.grammar.specs.declared.mark.Placed.{Placed}
use Rattle.grammar.specs.declared.variable.Variable.{Variable}
use Rattle.grammar.specs.Verdict.{Ending, text_end, strange, Judgement, plan, fault, Judged}
use Rattle.grammar.proofs.Equal.{same_variable}
use Rattle.grammar.proofs.Judge.{decides}
use Rattle.std.specs.Str.{bytes_eq}
use Rattle.marks.specs.declared.word.Kind.{Kind}
use Rattle.marks.specs.declared.word.Kind.TheVariants.{Word, Number, Sign}
use Rattle.marks.specs.Finding.{front}
use Rattle.marks.specs.Spelling.{kind_of, value, Spells, Apart, Scanned, at_end, at_blank, at_mark, at_strange}
use Rattle.marks.specs.Texts.{TextJudged, MarksAreUnique, JudgedOnce, TreeIsUnique}
use Rattle.marks.proofs.Scanning.{front-is}
use Rattle.marks.proofs.Spelled.{letter_kind, spells_whole, whole_sign, no_sign, OtherThanSigns}

-- the variable of a number; those past F are named A, and never asked for
lettered : (n : ℕ) (b : Bool) → (T b → n < 6) → Variable
lettered n true h = record { number = n; low = h tt }
lettered n false h = record { number = 0; low = omega arith }

lettered_is : (v : Variable) (b : Bool) (h : T b → v.number < 6) → T b → lettered v.number b h ≡ v
unfolding lettered
lettered_is v true h t = same_variable _ v refl
lettered_is v false h t = absurd t

letter : ℕ → Variable
letter n = lettered n (ltb n 6) (ltb→lt n 6)

letter_is : (v : Variable) → letter v.number ≡ v
unfolding letter
letter_is v = lettered_is v (ltb v.number 6) (ltb→lt v.number 6) (lt→ltb v.number 6 v.low)

-- the mark that bytes spell, if they spell one
abbrev word_of : List ℕ → Mark
word_of s = cond (bytes_eq s (codes "LET")) mark.Let (cond (bytes_eq s (codes "PUT")) mark.Put (cond (bytes_eq s (codes "REPEAT")) mark.Repeat mark.End))

abbrev sign_of : ℕ → Mark
sign_of b = cond (eqb b 10) mark.LineEnd (cond (eqb b 43) (mark.Operator Add) (cond (eqb b 45) (mark.Operator Sub) (cond (eqb b 42) (mark.Operator Mul) (cond (eqb b 60) (mark.Operator Lt)
    (cond (eqb b 40) (mark.Open Round) (cond (eqb b 91) (mark.Open Square) (cond (eqb b 41) (mark.Close Round) (cond (eqb b 93) (mark.Close Square) (cond (eqb b 44) mark.Comma mark.Equals)))))))))

abbrev of_kind : Kind → List ℕ → Mark
of_kind Word [] = mark.Let
of_kind Word (b ∷ []) = mark.Variable (letter (b - 65))
of_kind Word (b ∷ c ∷ s) = word_of (b ∷ c ∷ s)
of_kind Number s = mark.Number (value 0 s)
of_kind Sign s = sign_of (get_or s 0 0)

abbrev decoded : List ℕ → Mark
decoded s = of_kind (kind_of (get_or s 0 0)) s

decoded-is : (m : Mark) (s : List ℕ) → Spells s m → decoded s ≡ m
decoded-is mark.Let s h = ap decoded h
decoded-is mark.Put s h = ap decoded h
decoded-is mark.Repeat s h = ap decoded h
decoded-is mark.End s h = ap decoded h
decoded-is mark.LineEnd s h = ap decoded h
decoded-is (mark.Number n) s h = ap (λ k. of_kind k s) (h.digits 0 h.some) ∙ ap mark.Number h.is
decoded-is (mark.Variable v) s h =
    let e : 65 + v.number - 65 ≡ v.number = omega arith in
    ap decoded h ∙ ap (λ k. of_kind k ((65 + v.number) ∷ [])) (letter_kind v.number v.low) ∙ ap mark.Variable (ap letter e ∙ letter_is v)
decoded-is (mark.Operator Add) s h = ap decoded h
decoded-is (mark.Operator Sub) s h = ap decoded h
decoded-is (mark.Operator Mul) s h = ap decoded h
decoded-is (mark.Operator Lt) s h = ap decoded h
decoded-is (mark.Open Round) s h = ap decoded h
decoded-is (mark.Open Square) s h = ap decoded h
decoded-is (mark.Close Round) s h = ap decoded h
decoded-is (mark.Close Square) s h = ap decoded h
decoded-is mark.Comma s h = ap decoded h
decoded-is mark.Equals s h = ap decoded h

same_mark : (s : List ℕ) (m k : Mark) → Spells s m → Spells s k → m ≡ k
same_mark s m k h g = sym (decoded-is m s h) ∙ decoded-is k s g

-- no mark is empty, and none begins with a blank
not_empty : (m : Mark) (s rest : List ℕ) → Spells s m → [] ≡ s ++ rest → ⊥
not_empty m [] rest h e = spells_whole m [] h
not_empty m (b ∷ s) rest h e = cc

blank-sign : OtherThanSigns 32
blank-sign = record {
  line_end = λ e. omega (arith, e);
  add = λ e. omega (arith, e);
  sub = λ e. omega (arith, e);
  mul = λ e. omega (arith, e);
  lt = λ e. omega (arith, e);
  open_round = λ e. omega (arith, e);
  close_round = λ e. omega (arith, e);
  open_square = λ e. omega (arith, e);
  close_square = λ e. omega (arith, e);
  comma = λ e. omega (arith, e);
  equals = λ e. omega (arith, e);
}

not-blank : (m : Mark) (s rest t : List ℕ) → Spells s m → 32 ∷ t ≡ s ++ rest → ⊥
not-blank m [] rest t h e = spells_whole m [] h
not-blank m (b ∷ s) rest t h e =
    let b_is : b ≡ 32 = cc in
    let g : Spells (32 ∷ s) m = subst (λ c. Spells (c ∷ s) m) b_is h in
    no_sign 32 refl blank-sign m (subst (λ l. Spells l m) (whole_sign (32 ∷ s) (spells_whole m (32 ∷ s) g) refl) g)

-- two marks at the front of a text are one, and so is what they leave
same_bytes : (s r t q : List ℕ) (m k : Mark) → Spells s m → Apart s r → Spells t k → Apart t q → s ++ r ≡ t ++ q → s ≡ t
same_bytes s r t q m k h a g b e = sym (front-is s r (spells_whole m s h) a) ∙ ap front e ∙ front-is t q (spells_whole k t g) b

same_rest : (s r t q : List ℕ) → s ≡ t → s ++ r ≡ t ++ q → r ≡ q
same_rest s r t q e f = append_cancel_left s r q (f ∙ ap (λ l. l ++ q) (sym e))

same_scan : {text : List ℕ} {n : ℕ} {ps : List Placed} {y : Ending} → Scanned text n ps y → (other : List ℕ) (i : ℕ) (qs : List Placed) (z : Ending) → Scanned other i qs z → text ≡ other → n ≡ i → (ps ≡ qs) × (y ≡ z)
same_scan at_end other i qs z at_end e j = (refl, ap text_end j)
same_scan at_end other i qs z (at_blank h) e j = absurd cc
same_scan at_end other i qs z (at_mark s rest m sp a h) e j = absurd (not_empty m s rest sp e)
same_scan at_end other i qs z (at_strange b h) e j = absurd cc
same_scan (at_blank g) other i qs z at_end e j = absurd cc
same_scan (at_blank {s = t} g) other i qs z (at_blank {s = s} h) e j = let u : t ≡ s = cc in same_scan g s (i + 1) qs z h u (ap (λ k. k + 1) j)
same_scan (at_blank {s = t} g) other i qs z (at_mark s rest m sp a h) e j = absurd (not-blank m s rest t sp e)
same_scan (at_blank g) other i qs z (at_strange b h) e j = absurd (b cc)
same_scan (at_mark s rest m sp a g) other i qs z at_end e j = absurd (not_empty m s rest sp (sym e))
same_scan (at_mark s rest m sp a g) other i qs z (at_blank {s = t} h) e j = absurd (not-blank m s rest t sp (sym e))
same_scan (at_mark s rest m {ps = ps} sp a g) other i qs z (at_mark t behind k {ps = qs'} sp' a' h) e j =
    let u = same_bytes s rest t behind m k sp a sp' a' e in
    let v = same_mark t m k (subst (λ l. Spells l m) u sp) sp' in
    let w = same_scan g behind (i + length t) qs' z h (same_rest s rest t behind u e) (ap (λ l. l + length s) j ∙ ap (λ l. i + length l) u) in
    (ap (λ l. record { mark = m; place = l } ∷ ps) j ∙ ap (λ l. record { mark = l; place = i } ∷ ps) v ∙ ap (λ l. record { mark = k; place = i } ∷ l) w.0, w.1)
same_scan (at_mark s rest m sp a g) other i qs z (at_strange b h) e j = absurd (h s rest (sym e) a m sp)
same_scan (at_strange b g) other i qs z at_end e j = absurd cc
same_scan (at_strange b g) other i qs z (at_blank h) e j = absurd (b cc)
same_scan (at_strange b g) other i qs z (at_mark s rest m sp a h) e j = absurd (g s rest e a m sp)
same_scan (at_strange b g) other i qs z (at_strange c h) e j = (refl, ap strange j)

pub marks_are_unique : MarksAreUnique
marks_are_unique text n ps qs y z g h = same_scan g text n qs z h refl refl

-- the judgement of a text is that of any marks that it has
pub text_judgement : (text : List ℕ) (ps : List Placed) (z : Ending) (j : Judgement) → Scanned text 0 ps z → Judged ps z j → (k : Judgement) → TextJudged text k → k ≡ j
text_judgement text ps z j s h k t =
    let u = marks_are_unique text 0 t.marks ps t.end z t.scanned s in
    let d = decides ps z in
    let g : Judged ps z k = subst (λ l. Judged l z k) u.0 (subst (λ e. Judged t.marks e k) u.1 t.judged) in
    d.2 k g ∙ sym (d.2 j h)

pub judged_once : JudgedOnce
judged_once text ps z s = let d = decides ps z in (d.0, record { marks = ps; end = z; scanned = s; judged = d.1 }, text_judgement text ps z d.0 s d.1)

abbrev tree_of : Judgement → Plan
tree_of (plan p) = p
tree_of (fault n i) = done

pub tree-is_unique : TreeIsUnique
tree-is_unique text p q g h = ap tree_of (text_judgement text h.marks h.end (plan q) h.scanned h.judged (plan p) g)
