-- What a twin is set to, and that it is a word.
use Rattle.std.proofs.Common.{ℕ, ◌^◌, ◌<◌, Bool, true, false, cond, eqb, ltb, arith}
use Rattle.isa.specs.Words.{alu}
use Rattle.rules.specs.Notes.{upd}
use Rattle.rules.specs.Expressions.{Arithmetic, Add, Sub, Mul, Lt}
use Rattle.translation.specs.Code.{Source, num, copy, calc, fetch}

abbrev pub Word : ℕ → Type 0
Word n = n < 2 ^ 32

-- R being what the twins hold
abbrev pub get : Source → (ℕ → ℕ) → (ℕ → ℕ) → ℕ
get (num n) R cs = n
get (copy b) R cs = R b
get (calc o b d) R cs = alu o (R b) (R d)
get (fetch b) R cs = cs (R b)

abbrev pub WordIn : Source → Type 0
WordIn (num n) = Word n
WordIn (copy b) = Unit {0}
WordIn (calc o b d) = Unit {0}
WordIn (fetch b) = Unit {0}

alu-word : (o : Arithmetic) (x y : ℕ) → Word (alu o x y)
alu-word Add x y = omega arith
alu-word Sub x y = omega arith
alu-word Mul x y = omega arith
alu-word Lt x y = one (ltb x y)
  where
    one : (b : Bool) → Word (cond b 1 0)
    one true = omega arith
    one false = omega arith

pub get_word : (s : Source) (R cs : ℕ → ℕ) → WordIn s → ((i : ℕ) → Word (R i)) → ((a : ℕ) → Word a → Word (cs a)) → Word (get s R cs)
get_word (num n) R cs k h c = k
get_word (copy b) R cs k h c = h b
get_word (calc o b d) R cs k h c = alu-word o (R b) (R d)
get_word (fetch b) R cs k h c = c (R b) (h b)

pub upd-word : (f : ℕ → ℕ) (a v r : ℕ) → Word (f r) → Word v → Word (upd f a v r)
upd-word f a v r h k = one (eqb r a)
  where
    one : (b : Bool) → Word (cond b v (f r))
    one true = k
    one false = h
