-- Where the expressions of a plan's lines begin.
use Rattle.std.specs.Prelude.{Bool, true, false, cond, List, [], ◌∷◌, ◌++◌, ℕ}
use Rattle.grammar.specs.declared.mark.Mark.{Mark}
use Rattle.grammar.specs.declared.mark.Mark.TheVariants.{Let, Put, Repeat, End, LineEnd, Number, Variable, Operator, Open, Close, Comma, Equals}
use Rattle.grammar.specs.declared.mark.Placed.{Placed}

-- An expression of a line stands behind =, PUT, a comma or REPEAT, and these marks stand nowhere else.
abbrev pub leads : Mark → Bool
leads Let = false
leads Put = true
leads Repeat = true
leads End = false
leads LineEnd = false
leads (Number n) = false
leads (Variable v) = false
leads (Operator o) = false
leads (Open b) = false
leads (Close b) = false
leads Comma = true
leads Equals = true

-- the byte of the next mark, if there is one
abbrev pub next_byte : List Placed → List ℕ
next_byte [] = []
next_byte (p ∷ ps) = p.place ∷ []

-- the bytes at which the expressions begin, in the order of the text: so the k-th expression of a plan begins at the k-th of them
abbrev pub begins : List Placed → List ℕ
begins [] = []
begins (p ∷ ps) = cond (leads p.mark) (next_byte ps) [] ++ begins ps
