-- Marks that were compared.
use Rattle.std.proofs.Common.{◌≡◌, ◌<◌, true, Some, None, Option, sym, ap, arith}
use Rattle.std.specs.Option.{option_eq}
use mathlib.Core.HLevel.{is_prop→PathP}
use native.Mathlib.Bridge.{le_prop}
use Rattle.grammar.specs.declared.mark.Mark.{Mark}
use Rattle.grammar.specs.declared.mark.Mark.TheVariants.{Variable}
use Rattle.grammar.specs.declared.variable.Variable.{Variable as Letter}
use Rattle.grammar.specs.contracts.mark.MarkPartialEq.TheImpl.{eq-value}

-- a variable is its number
pub same_variable : (v w : Letter) → v.number ≡ w.number → v ≡ w
same_variable v w e i = record { number = e i; low = is_prop→PathP (λ j. e j < 6) (λ j. le_prop) v.low w.low i }

-- marks that `==` finds equal are the same
pub same_mark : (m w : Mark) → eq-value.it m w ≡ true → m ≡ w
same_mark (Variable v) w e = letter w e
  where
    letter : (w : Mark) → eq-value.it (Variable v) w ≡ true → Variable v ≡ w
    letter (Variable u) e = ap Variable (same_variable v u (grind (arith, e)))
    letter w e = grind arith
same_mark m w e = grind arith

pub same_next : (o : Option Mark) (w : Mark) → option_eq eq-value.it o (Some w) ≡ true → Some w ≡ o
same_next (Some m) w e = sym (ap Some (same_mark m w e))
same_next None w e = grind arith
