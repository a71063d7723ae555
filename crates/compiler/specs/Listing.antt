-- Inner: the code over twins that a table of lines stands for.
use Rattle.std.specs.Prelude.{ℕ, List, [], ◌∷◌, Some, None, Option}
use Rattle.compiler.specs.declared.line.Source.{Source}
use Rattle.compiler.specs.declared.line.Source.TheVariants.{Number, Copy, Operation, Cell}
use Rattle.compiler.specs.declared.line.Single.{Single}
use Rattle.compiler.specs.declared.line.Single.TheVariants.{Set, Store, Jump, Branch}
use Rattle.compiler.specs.declared.line.Line.{Line}
use Rattle.translation.specs.Code as over

abbrev pub source_of : Source → over.Source
source_of (Number n) = over.num n
source_of (Copy t) = over.copy t.number
source_of (Operation o t u) = over.calc o t.number u.number
source_of (Cell t) = over.fetch t.number

abbrev pub single_of : Single → over.Single
single_of (Set t s) = over.set t.number (source_of s)
single_of (Store t u) = over.store t.number u.number
single_of (Jump t) = over.jump t.number
single_of (Branch t u) = over.branch t.number u.number

abbrev pub entry_of : Option ℕ → over.Entry
entry_of None = over.inside
entry_of (Some n) = over.start n

-- lines, and what stands before the halt behind them
abbrev pub code_of : List Line → Option ℕ → over.Code
code_of [] x = over.stop (entry_of x)
code_of (l ∷ ls) x = over.line (entry_of l.entry) (single_of l.single) (code_of ls x)

-- 1 where a block starts
abbrev pub opening : over.Entry → ℕ
opening over.inside = 0
opening (over.start n) = 1

-- what stands before the first instruction
abbrev pub front : over.Code → over.Entry
front (over.stop x) = x
front (over.line x i l) = x
