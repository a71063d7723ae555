-- Which bytes are which mark, and which marks a text has: what a reader must believe of the scanner.
use Rattle.std.specs.Prelude.{◌≡◌, ℕ, ◌+◌, ◌-◌, ◌*◌, ◌<◌, ◌≤◌, Bool, true, false, cond, ◌&&◌, List, [], ◌∷◌, ◌++◌, length, codes, ◌≢◌, nat_le, slice_index, slice_index_or}
use Rattle.isa.specs.declared.kinds.Arithmetic.TheVariants.{Add, Sub, Mul, Lt}
use Rattle.grammar.specs.declared.mark.Bracket.TheVariants.{Round, Square}
use Rattle.grammar.specs.declared.mark.Mark.{Mark}
use Rattle.grammar.specs.declared.mark.Mark.TheVariants as mark
use Rattle.grammar.specs.declared.mark.Placed.{Placed}
use Rattle.grammar.specs.Verdict.{Ending, text_end, strange}
use Rattle.marks.specs.declared.word.Kind.{Kind}
use Rattle.marks.specs.declared.word.Kind.TheVariants.{Word, Number, Sign}

-- capitals are the bytes 65 to 90, digits the bytes 48 to 57
abbrev pub kind_of : ℕ → Kind
kind_of b = cond (nat_le 65 b && nat_le b 90) Word (cond (nat_le 48 b && nat_le b 57) Number Sign)

-- a word goes on with capitals, and a number with digits
abbrev pub joined : Kind → Kind → Bool
joined Word Word = true
joined Word Number = false
joined Word Sign = false
joined Number Word = false
joined Number Number = true
joined Number Sign = false
joined Sign Word = false
joined Sign Number = false
joined Sign Sign = false

abbrev pub goes_on : Kind → ℕ → Bool
goes_on k b = joined k (kind_of b)

-- the value of digits behind those with the value n
abbrev pub value : ℕ → List ℕ → ℕ
value n [] = n
value n (d ∷ ds) = value (n * 10 + (d - 48)) ds

-- digits without leading zeros are a number of 32 bits
pub record Numeral (s : List ℕ) (n : ℕ) : Type 0 where
  pub some : 0 < length s
  pub digits : (k : ℕ) → k < length s → kind_of (slice_index s k) ≡ Number
  pub canonical : slice_index_or s 0 0 ≡ 48 → length s ≡ 1
  pub is : value 0 s ≡ n
  pub small : n ≤ 4294967295

-- these bytes are this mark
abbrev pub Spells : List ℕ → Mark → Type 0
Spells s mark.Let = s ≡ codes "LET"
Spells s mark.Put = s ≡ codes "PUT"
Spells s mark.Repeat = s ≡ codes "REPEAT"
Spells s mark.End = s ≡ codes "END"
Spells s mark.LineEnd = s ≡ 10 ∷ []
Spells s (mark.Number n) = Numeral s n
Spells s (mark.Variable v) = s ≡ (65 + v.number) ∷ []
Spells s (mark.Operator Add) = s ≡ codes "+"
Spells s (mark.Operator Sub) = s ≡ codes "-"
Spells s (mark.Operator Mul) = s ≡ codes "*"
Spells s (mark.Operator Lt) = s ≡ codes "<"
Spells s (mark.Open Round) = s ≡ codes "("
Spells s (mark.Open Square) = s ≡ codes "["
Spells s (mark.Close Round) = s ≡ codes ")"
Spells s (mark.Close Square) = s ≡ codes "]"
Spells s mark.Comma = s ≡ codes ","
Spells s mark.Equals = s ≡ codes "="

-- these bytes are no mark
abbrev pub NoMark : List ℕ → Type 0
NoMark s = (m : Mark) → Spells s m → ⊥

-- a mark of these bytes ends before the rest: words and numbers are longest runs
abbrev pub Apart : List ℕ → List ℕ → Type 0
Apart s [] = Unit {0}
Apart s (b ∷ rest) = goes_on (kind_of (slice_index s 0)) b ≡ false

-- Scanned text n ps z: from the byte n on the text has these marks, up to its end or to a strange mark; blanks (byte 32) separate
pub data Scanned : List ℕ → ℕ → List Placed → Ending → Type 0 where
  at_end : {n : ℕ} → Scanned [] n [] (text_end n)
  at_blank : {s : List ℕ} {n : ℕ} {ps : List Placed} {z : Ending} → Scanned s (n + 1) ps z → Scanned (32 ∷ s) n ps z
  at_mark : (s rest : List ℕ) (m : Mark) {n : ℕ} {ps : List Placed} {z : Ending} → Spells s m → Apart s rest →
      Scanned rest (n + length s) ps z → Scanned (s ++ rest) n (record { mark = m; place = n } ∷ ps) z
  at_strange : {b : ℕ} {s : List ℕ} {n : ℕ} → (b ≢ 32) →
      ((t rest : List ℕ) → b ∷ s ≡ t ++ rest → Apart t rest → NoMark t) → Scanned (b ∷ s) n [] (strange n)
