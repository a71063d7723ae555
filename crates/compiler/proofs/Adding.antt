-- Code that is emitted, piece by piece.
use Rattle.std.proofs.Common.{◌≡◌, ℕ, ◌+◌, List, [], ◌∷◌, ◌++◌, Option, refl, ap, ◌∙◌, arith}
use Rattle.translation.specs.Code as over
use Rattle.compiler.specs.declared.line.Line.{Line}
use Rattle.compiler.specs.declared.lines.Lines.{Lines}
use Rattle.compiler.specs.Listing.{entry_of, single_of, code_of}
use Rattle.compiler.specs.Emitting.{Coming, emitted, sofar, Adds}

-- one line more
pub emitted-push : (ls : List Line) (l : Line) (x : Option ℕ) (K : Coming) → emitted (ls ++ (l ∷ [])) x K ≡ emitted ls l.entry (λ y. over.line y (single_of l.single) (K (entry_of x)))
emitted-push [] l x K = refl
emitted-push (m ∷ ls) l x K = ap (over.line (entry_of m.entry) (single_of m.single)) (emitted-push ls l x K)

-- another entry behind the lines
pub emitted-entry : (ls : List Line) (x z : Option ℕ) (K : Coming) → emitted ls z K ≡ emitted ls x (λ y. K (entry_of z))
emitted-entry [] x z K = refl
emitted-entry (l ∷ ls) x z K = ap (over.line (entry_of l.entry) (single_of l.single)) (emitted-entry ls x z K)

-- the lines as they stand, with the halt behind them
pub emitted-stop : (ls : List Line) (x : Option ℕ) → emitted ls x over.stop ≡ code_of ls x
emitted-stop [] x = refl
emitted-stop (l ∷ ls) x = ap (over.line (entry_of l.entry) (single_of l.single)) (emitted-stop ls x)

-- nothing more
pub adds_none : (s : Lines) → Adds s s (λ K. K) 0
adds_none s = record { code = λ K. refl; longer = omega arith }

-- one piece, and another behind it
pub adds_then : {s t u : Lines} {f g : Coming → Coming} {m n : ℕ} → Adds s t f m → Adds t u g n → Adds s u (λ K. f (g K)) (m + n)
adds_then {g = g} a b = record { code = λ K. b.code K ∙ a.code (g K); longer = omega (arith, a.longer, b.longer) }

-- the same code, said otherwise
pub adds_same : {s t : Lines} {f g : Coming → Coming} {m : ℕ} → ((K : Coming) → f K ≡ g K) → Adds s t f m → Adds s t g m
adds_same {s = s} e a = record { code = λ K. a.code K ∙ ap (sofar s) (e K); longer = a.longer }
