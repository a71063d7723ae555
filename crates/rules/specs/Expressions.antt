-- Expressions: what the check knows of a register's value.
pub use Rattle.isa.specs.declared.kinds.Arithmetic.{Arithmetic}
pub use Rattle.isa.specs.declared.kinds.Arithmetic.TheVariants.{Add, Sub, Mul, Lt}
use Rattle.std.specs.Prelude.{◌≡◌, ℕ, zero, suc, Bool, true, false, refl}
use Rattle.std.proofs.Common.{sym, ap, ◌∙◌}
use Rattle.std.proofs.Math.Decide.{ℕ_discrete}
use Rattle.isa.specs.Words.{alu}

-- equality is decided by codes
abbrev pub retract_discrete : {A : Type 0} (f : A → ℕ) (g : ℕ → A) → ((a : A) → g (f a) ≡ a) → (x y : A) → Dec (x ≡ y)
retract_discrete f g h x y = one (ℕ_discrete (f x) (f y))
  where
    one : Dec (f x ≡ f y) → Dec (x ≡ y)
    one (yes e) = yes (sym (h x) ∙ ap g e ∙ h y)
    one (no n) = no λ e. n (ap f e)

abbrev code : Arithmetic → ℕ
code Add = 0
code Sub = 1
code Mul = 2
code Lt = 3

abbrev decode : ℕ → Arithmetic
decode zero = Add
decode (suc zero) = Sub
decode (suc (suc zero)) = Mul
decode (suc (suc (suc n))) = Lt

pub decoded : (o : Arithmetic) → decode (code o) ≡ o
decoded Add = refl
decoded Sub = refl
decoded Mul = refl
decoded Lt = refl

abbrev pub Arithmetic-discrete : (x y : Arithmetic) → Dec (x ≡ y)
Arithmetic-discrete = retract_discrete code decode decoded

-- a number, a variable of the block's card, an operation on two expressions, or
-- load k e: the word at e's value after the first k of the block's stores
pub data Expr : Type 0 where
  num : ℕ → Expr
  var : ℕ → Expr
  op : Arithmetic → Expr → Expr → Expr
  load : ℕ → Expr → Expr
  deriving Discrete as Expr-discrete

abbrev pub holds? : {A : Type 0} → Dec A → Bool
holds? (yes p) = true
holds? (no p) = false

-- the same means the same tree
unfoldable pub same? : Expr → Expr → Bool
unfolding ℕ_discrete
same? e f = holds? (Expr-discrete ℕ_discrete Arithmetic-discrete e f)

-- the number that an expression is, if it is one
pub data Numeral : Type 0 where
  none : Numeral
  is : ℕ → Numeral

abbrev pub num_of : Expr → Numeral
num_of (num n) = is n
num_of (var v) = none
num_of (op o e f) = none
num_of (load k e) = none

abbrev pub number? : Numeral → Bool
number? none = false
number? (is n) = true

abbrev pub or_zero : Numeral → ℕ
or_zero none = 0
or_zero (is n) = n

abbrev pub fold : Arithmetic → Expr → Expr → Numeral → Numeral → Expr
fold o e f none y = op o e f
fold o e f (is m) none = op o e f
fold o e f (is m) (is n) = num (alu o m n)

-- an operation on two expressions, which is its result where both are numbers
abbrev pub mk : Arithmetic → Expr → Expr → Expr
mk o e f = fold o e f (num_of e) (num_of f)
