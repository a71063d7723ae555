-- How many steps the code of a plan takes.
use Rattle.std.specs.Prelude.{ℕ, zero, suc, Bool, cond}
use Rattle.language.specs.Plans.{Plan, done, assign, store as put, again}
use Rattle.language.specs.Meaning.{Book, Result, fine, stuck, value_in, assigned, written, times, meaning, outcome, blank}
use Rattle.translation.specs.Code.{twice}
use Rattle.translation.specs.Compile.{over}

-- the number of lines taken at the end, if the plan goes on
abbrev pub onward : Result → (Book → ℕ → ℕ) → ℕ → ℕ
onward (fine s) f n = f s n
onward (stuck s) f n = n

-- k turns of a REPEAT, of each of which f is the meaning and g the number of lines; n lines were taken before.
-- A turn takes two lines at the head and four at the END; the last test takes two.
abbrev pub turns : (Book → Result) → (Book → ℕ → ℕ) → ℕ → Book → ℕ → ℕ
turns f g zero s n = suc (suc n)
turns f g (suc k) s n = onward (f s) (λ t j. turns f g k t (suc (suc (suc (suc j))))) (g s (suc (suc n)))

-- the number of lines that a plan takes behind n others; a node takes one, a LET or PUT one more, and so does a REPEAT's count
abbrev pub taken : (ℕ → Bool) → Plan → Book → ℕ → ℕ
taken w done s n = n
taken w (assign v e P) s n = taken w P (assigned s v (value_in e s)) (suc (over e n))
taken w (put a e P) s n =
    cond (w (value_in a s)) (taken w P (written s (value_in a s) (value_in e s)) (suc (over e (over a n)))) (suc (over e (over a n)))
taken w (again e B P) s n =
    onward (times (λ t. meaning w B t) (value_in e s) s) (λ t j. taken w P t j)
    (turns (λ t. meaning w B t) (λ t j. taken w B t j) (value_in e s) s (suc (over e n)))

-- each line takes two steps, and the halt one
abbrev pub lasting : Result → ℕ → ℕ
lasting (fine s) n = suc (twice n)
lasting (stuck s) n = twice n

-- the steps of a plan's code; the variables are set to 0 in six lines
abbrev pub steps : (ℕ → Bool) → Plan → (ℕ → ℕ) → ℕ
steps w P cells = lasting (outcome w P cells) (taken w P (blank cells) 6)
