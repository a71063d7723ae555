-- The code of a plan. Twins 0 to 5 are the variables, 6 to 9 the counters of the open REPEATs, and 10 to 15 hold values in between.
use Rattle.std.specs.Prelude.{ℕ, suc}
use Rattle.rules.specs.Expressions.{Sub}
use Rattle.rules.specs.Module.{Module}
use Rattle.language.specs.Plans.{Tree, number, variable, cell, node, Plan, done, assign, store as put, again}
use Rattle.translation.specs.Code.{num, copy, calc, fetch, set, store, jump, branch, Entry, inside, start, Code, stop, line, twice, build}

-- the code of an expression, which leaves its value in twin t, and then l; x stands before it
abbrev pub expr : Entry → ℕ → Tree → Code → Code
expr x t (number n) l = line x (set t (num n)) l
expr x t (variable v) l = line x (set t (copy v)) l
expr x t (cell e) l = expr x t e (line inside (set t (fetch t)) l)
expr x t (node o e f) l = expr x t e (expr inside (suc t) f (line inside (set t (calc o t (suc t))) l))

-- the line behind the code of an expression at line p
abbrev pub over : Tree → ℕ → ℕ
over (number n) p = suc p
over (variable v) p = suc p
over (cell e) p = suc (over e p)
over (node o e f) p = suc (over f (over e p))

-- the head of a REPEAT whose count's code is at line p: there the counter is tested
abbrev pub head_of : Tree → ℕ → ℕ
head_of e p = suc (over e p)

-- the line behind the code of a plan at line p
abbrev pub past : Plan → ℕ → ℕ
past done p = p
past (assign v e P) p = past P (suc (over e p))
past (put a e P) p = past P (suc (over e (over a p)))
past (again e B P) p = past P (suc (suc (suc (suc (past B (suc (suc (head_of e p))))))))

-- the exit of a REPEAT: the line behind its END
abbrev pub exit_of : Tree → Plan → ℕ → ℕ
exit_of e B p = suc (suc (suc (suc (past B (suc (suc (head_of e p)))))))

-- the code of a plan at line p; c is the next counter, x stands before it, and l makes the code behind from what stands before that.
-- A REPEAT copies its count into its counter; the head goes to the exit once the counter is 0; the END counts down and goes to the head.
abbrev pub code : Entry → ℕ → ℕ → Plan → (Entry → Code) → Code
code x c p done l = l x
code x c p (assign v e P) l = expr x 10 e (line inside (set v (copy 10)) (code inside c (suc (over e p)) P l))
code x c p (put a e P) l = expr x 10 a (expr inside 11 e (line inside (store 10 11) (code inside c (suc (over e (over a p))) P l)))
code x c p (again e B P) l =
    expr x 10 e
    (line inside (set c (copy 10))
    (line (start (suc c)) (set 10 (num (twice (exit_of e B p))))
    (line inside (branch c 10)
    (code inside (suc c) (suc (suc (head_of e p))) B λ y.
    line y (set 10 (num 1))
    (line inside (set c (calc Sub c 10))
    (line inside (set 10 (num (twice (head_of e p))))
    (line inside (jump 10)
    (code (start c) c (exit_of e B p) P l))))))))

-- the variables start at 0
abbrev pub whole : Plan → Code
whole P =
    line (start 0) (set 0 (num 0)) (line inside (set 1 (num 0)) (line inside (set 2 (num 0))
    (line inside (set 3 (num 0)) (line inside (set 4 (num 0)) (line inside (set 5 (num 0))
    (code inside 6 6 P stop))))))

abbrev pub compiled : Plan → Module
compiled P = build (whole P)
