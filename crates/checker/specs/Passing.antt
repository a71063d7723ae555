-- What a pass points at, and what the check answers.
use Rattle.std.specs.Prelude.{◌≡◌, ℕ, List, [], ◌∷◌, Ok, Err, Result}
use Rattle.rules.specs.Limits.{in_force}
use Rattle.rules.specs.Words.{Passes}
use Rattle.checker.specs.declared.fault.CheckFault.{CheckFault}
use Rattle.checker.specs.declared.pass.Pass.{Pass}
use Rattle.checker.specs.Faults.{Faulty}

abbrev pub words_of : Pass → List ℕ
words_of p = p.words.now

-- the words of the module of one halt
abbrev pub one-halt : List ℕ
one-halt = 1 ∷ 1 ∷ 0x0f000000 ∷ 0 ∷ 0 ∷ 0 ∷ 0 ∷ 0 ∷ 0 ∷ 0 ∷ 0 ∷ 0 ∷ 0 ∷ []

-- what is found of the words: they pass, or this is their first fault
abbrev pub Judged : List ℕ → Result (Unit {0}) CheckFault → Type 0
Judged ws (Ok u) = Passes in_force ws
Judged ws (Err f) = Faulty ws f

-- the words pass, and the pass is over them, or this is their first fault
abbrev pub Checked : List ℕ → Result Pass CheckFault → Type 0
Checked ws (Ok p) = Passes in_force ws × (words_of p ≡ ws)
Checked ws (Err f) = Faulty ws f
