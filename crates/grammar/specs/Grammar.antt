-- The grammar of plans: which marks are which plan, one constructor for each production.
use Rattle.std.specs.Prelude.{List, [], ◌∷◌, ◌++◌, ℕ}
use Rattle.isa.specs.declared.kinds.Arithmetic.TheVariants.{Add, Sub, Mul, Lt}
use Rattle.language.specs.Plans.{Tree, number, variable, cell, node, Plan, done, assign, store, again}
use Rattle.grammar.specs.declared.mark.Bracket.TheVariants.{Round, Square}
use Rattle.grammar.specs.declared.mark.Mark.{Mark}
use Rattle.grammar.specs.declared.mark.Mark.TheVariants.{Let, Put, Repeat, End, LineEnd, Number, Variable, Operator, Open, Close, Comma, Equals}
use Rattle.grammar.specs.declared.variable.Variable.{Variable as Letter}

-- the parts of an expression
pub data Level : Type 0 where
  expr_level : Level
  sum_level : Level
  term_level : Level
  factor_level : Level

-- Derives l s r t: the marks of s up to r are one l, with the tree t. Sums and terms are joined from the left.
pub data Derives : Level → List Mark → List Mark → Tree → Type 0 where
  a_number : {n : ℕ} {r : List Mark} → Derives factor_level (Number n ∷ r) r (number n)
  a_variable : {v : Letter} {r : List Mark} → Derives factor_level (Variable v ∷ r) r (variable v.number)
  in_parens : {s r : List Mark} {t : Tree} → Derives expr_level s (Close Round ∷ r) t → Derives factor_level (Open Round ∷ s) r t
  in_brackets : {s r : List Mark} {t : Tree} → Derives expr_level s (Close Square ∷ r) t → Derives factor_level (Open Square ∷ s) r (cell t)
  one_factor : {s r : List Mark} {t : Tree} → Derives factor_level s r t → Derives term_level s r t
  times : {s m r : List Mark} {t u : Tree} → Derives term_level s (Operator Mul ∷ m) t → Derives factor_level m r u → Derives term_level s r (node Mul t u)
  one_term : {s r : List Mark} {t : Tree} → Derives term_level s r t → Derives sum_level s r t
  plus : {s m r : List Mark} {t u : Tree} → Derives sum_level s (Operator Add ∷ m) t → Derives term_level m r u → Derives sum_level s r (node Add t u)
  minus : {s m r : List Mark} {t u : Tree} → Derives sum_level s (Operator Sub ∷ m) t → Derives term_level m r u → Derives sum_level s r (node Sub t u)
  one_sum : {s r : List Mark} {t : Tree} → Derives sum_level s r t → Derives expr_level s r t
  less : {s m r : List Mark} {t u : Tree} → Derives sum_level s (Operator Lt ∷ m) t → Derives sum_level m r u → Derives expr_level s r (node Lt t u)

-- Lines s r p: the marks of s up to r are whole lines, each with its end, and are the plan p
pub data Lines : List Mark → List Mark → Plan → Type 0 where
  no_line : {s : List Mark} → Lines s s done
  blank_line : {s r : List Mark} {p : Plan} → Lines s r p → Lines (LineEnd ∷ s) r p
  let_line : {v : Letter} {s m r : List Mark} {e : Tree} {p : Plan} →
      Derives expr_level s (LineEnd ∷ m) e → Lines m r p → Lines (Let ∷ Variable v ∷ Equals ∷ s) r (assign v.number e p)
  put_line : {s m n r : List Mark} {a e : Tree} {p : Plan} →
      Derives expr_level s (Comma ∷ m) a → Derives expr_level m (LineEnd ∷ n) e → Lines n r p → Lines (Put ∷ s) r (store a e p)
  repeat_lines : {s m n r : List Mark} {e : Tree} {b p : Plan} →
      Derives expr_level s (LineEnd ∷ m) e → Lines m (End ∷ LineEnd ∷ n) b → Lines n r p → Lines (Repeat ∷ s) r (again e b p)

-- the marks of a text are a plan; the text's end ends its last line
pub record IsPlan (ms : List Mark) (p : Plan) : Type 0 where
  pub lines : Lines (ms ++ (LineEnd ∷ [])) [] p
