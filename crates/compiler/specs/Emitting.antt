-- Inner: code over twins as it is emitted.
use Rattle.std.specs.Prelude.{◌≡◌, ℕ, zero, suc, ◌+◌, ◌-◌, ◌*◌, ◌<◌, ◌≤◌, List, [], ◌∷◌, length, Option, vec_items, vec_len}
use Rattle.isa.specs.declared.kinds.Arithmetic.TheVariants.{Sub}
use Rattle.language.specs.Limits.{nodes, width}
use Rattle.language.specs.Plans.{Tree}
use Rattle.plan.specs.declared.tree.Expression.{Expression}
use Rattle.plan.specs.declared.tree.Node.{Node}
use Rattle.plan.specs.declared.tree.Statement.{Statement}
use Rattle.plan.specs.declared.tree.Statement.TheVariants.{Let, Put, Repeat, End}
use Rattle.plan.specs.Tables.{Closed}
use Rattle.plan.specs.Trees.{tree_at}
use Rattle.translation.specs.Code as over
use Rattle.translation.specs.Compile.{expr}
use Rattle.compiler.specs.declared.line.Line.{Line}
use Rattle.compiler.specs.declared.lines.Lines.{Lines}
use Rattle.compiler.specs.Listing.{single_of, entry_of}

-- code that is still to come, made from what stands before it
abbrev pub Coming : Type 0
Coming = over.Entry → over.Code

-- lines, and the code that comes behind them
abbrev pub emitted : List Line → Option ℕ → Coming → over.Code
emitted [] x K = K (entry_of x)
emitted (l ∷ ls) x K = over.line (entry_of l.entry) (single_of l.single) (emitted ls x K)

abbrev pub sofar : Lines → Coming → over.Code
sofar s K = emitted (vec_items s.lines) s.entry K

-- t has n lines more than s: those that f puts before what comes
pub record Adds (s t : Lines) (f : Coming → Coming) (n : ℕ) : Type 0 where
  pub code : (K : Coming) → sofar t K ≡ sofar s (f K)
  pub longer : vec_len t.lines ≡ vec_len s.lines + n

-- the same where there is room for them: code has 511 lines at most
abbrev pub Emits : Lines → Lines → (Coming → Coming) → ℕ → Type 0
Emits s t f n = vec_len s.lines + n ≤ 511 → Adds s t f n

-- one line
abbrev pub one : over.Single → Coming → Coming
one i K x = over.line x i (K over.inside)

-- the start of a block, whose card gives the first n twins a variable each
abbrev pub begun : ℕ → Coming → Coming
begun n K x = K (over.start n)

-- the first n twins set to 0
abbrev pub zeros : ℕ → Coming → Coming
zeros zero K = K
zeros (suc n) K = zeros n (one (over.set n (over.num 0)) K)

-- an expression, whose value goes to twin t
abbrev pub computed : ℕ → Tree → Coming → Coming
computed t e K x = expr x t e (K over.inside)

-- behind the count of a REPEAT: at line p it goes to the counter c; n instructions are between the REPEAT and its END
abbrev pub opened : ℕ → ℕ → ℕ → Coming → Coming
opened c p n K x =
    over.line x (over.set c (over.copy 10))
    (over.line (over.start (c + 1)) (over.set 10 (over.num (2 * (p + 1) + n + 12)))
    (over.line over.inside (over.branch c 10) (K over.inside)))

-- the END at line p of the REPEAT with the counter c
abbrev pub closed : ℕ → ℕ → ℕ → Coming → Coming
closed c p n K x =
    over.line x (over.set 10 (over.num 1))
    (over.line over.inside (over.set c (over.calc Sub c 10))
    (over.line over.inside (over.set 10 (over.num (2 * p - (n + 4))))
    (over.line over.inside (over.jump 10) (K (over.start c)))))

module _ (ns : List Node) where
  abbrev pub tree_of : Expression → Tree
  tree_of e = tree_at ns e.root

  -- one statement at line p; c is the next counter
  abbrev pub stated : ℕ → ℕ → Statement → Coming → Coming
  stated c p (Let v e) K = computed 10 (tree_of e) (one (over.set v.number (over.copy 10)) K)
  stated c p (Put a e) K = computed 10 (tree_of a) (computed 11 (tree_of e) (one (over.store 10 11) K))
  stated c p (Repeat e n) K = computed 10 (tree_of e) (opened c (p + nodes (tree_of e)) n K)
  stated c p (End n) K = closed (c - 1) p n K

  -- the number of its lines
  abbrev pub lasts : Statement → ℕ
  lasts (Let v e) = nodes (tree_of e) + 1
  lasts (Put a e) = nodes (tree_of a) + (nodes (tree_of e) + 1)
  lasts (Repeat e n) = nodes (tree_of e) + 3
  lasts (End n) = 4

  -- an expression of the table that the twins for values can hold
  pub record Narrow (e : Expression) : Type 0 where
    pub inside : e.root.index < length ns
    pub narrow : width (tree_of e) ≤ 5

  -- what the code of a statement rests on
  abbrev pub Sound : ℕ → ℕ → Statement → Type 0
  Sound c p (Let v e) = Narrow e
  Sound c p (Put a e) = (Narrow a) × Narrow e
  Sound c p (Repeat e n) = (Narrow e) × (c < 10) × (n ≤ 1024)
  Sound c p (End n) = (6 < c) × (c ≤ 10) × (n + 4 ≤ 2 * p)

  -- its code has room at line p, over so many slots, and the nodes are a plan's
  pub record FitsStatement (slots c p : ℕ) (s : Statement) : Type 0 where
    pub closed : Closed ns
    pub sound : Sound c p s
    pub room : p + lasts s ≤ 511
    pub enough : 1024 ≤ slots

-- the next counter behind a statement
abbrev pub next_counter : ℕ → Statement → ℕ
next_counter c (Let v e) = c
next_counter c (Put a e) = c
next_counter c (Repeat e n) = c + 1
next_counter c (End n) = c - 1
