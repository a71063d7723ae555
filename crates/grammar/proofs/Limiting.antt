-- What is known of a plan whose marks keep the limits: its numbers are words, its variables are six, and its REPEATs are not too deep.
use mathlib.Core.Path.{◌≡◌, refl, ap, ◌∙◌}
use mathlib.Core.List.{List, [], ◌∷◌, ◌++◌}
use Prim.Native.Nat.{ℕ, suc, pred, ◌+◌, ◌<◌, ◌≤◌, ◌^◌}
use native.Mathlib.Omega.{arith}
use lib.Dec.{ltb→lt}
use Rattle.language.specs.Limits.{Proper, ProperPlan}
use Rattle.language.specs.Limits as plans
use Rattle.language.specs.Plans.{Tree, Plan}
use Rattle.grammar.specs.declared.mark.Mark.{Mark}
use Rattle.grammar.specs.declared.mark.Mark.TheVariants.{Let, Put, Repeat, End, LineEnd, Number, Variable, Operator, Open, Close, Comma, Equals}
use Rattle.grammar.specs.declared.mark.Placed.{Placed}
use Rattle.grammar.specs.Grammar.{Level, Derives, a_number, a_variable, in_parens, in_brackets, one_factor, times, one_term, plus, minus, one_sum, less, Lines, no_line, blank_line, let_line, put_line, repeat_lines, IsPlan}
use Rattle.grammar.specs.Verdict.{Depth, level, after, Within, marks, Ending, Judgement, plan, fault, Judged, accepted, strange_mark, bad_mark, bad_end, too_deep}

-- a number is a word
abbrev pub Word : Mark → Type 0
Word Let = Unit {0}
Word Put = Unit {0}
Word Repeat = Unit {0}
Word End = Unit {0}
Word LineEnd = Unit {0}
Word (Number n) = n < 2 ^ 32
Word (Variable v) = Unit {0}
Word (Operator o) = Unit {0}
Word (Open b) = Unit {0}
Word (Close b) = Unit {0}
Word Comma = Unit {0}
Word Equals = Unit {0}

abbrev pub Words : List Mark → Type 0
Words [] = Unit {0}
Words (m ∷ ms) = (Word m) × Words ms

-- marks that keep the limits, so many REPEATs being open before them
record Kept (n : ℕ) (ms : List Mark) : Type 0 where
  depth : Depth
  opened : depth.repeats ≡ n
  within : Within depth ms
  words : Words ms

-- .. behind a mark that opens and closes no REPEAT
behind : {n : ℕ} {m : Mark} {ms : List Mark} (k : Kept n (m ∷ ms)) → (after k.depth m).repeats ≡ k.depth.repeats → Kept n ms
behind {m = m} k e = record { depth = after k.depth m; opened = e ∙ k.opened; within = k.within.1; words = k.words.1 }

tree-kept : {l : Level} {s r : List Mark} {t : Tree} {n : ℕ} → Derives l s r t → Kept n s → (Proper t) × Kept n r
tree-kept a_number k = (k.words.0, behind k refl)
tree-kept (a_variable {v = v}) k = (v.low, behind k refl)
tree-kept (in_parens d) k = let h = tree-kept d (behind k refl) in (h.0, behind h.1 refl)
tree-kept (in_brackets d) k = let h = tree-kept d (behind k refl) in (h.0, behind h.1 refl)
tree-kept (one_factor d) k = tree-kept d k
tree-kept (times d e) k = let h = tree-kept d k in let g = tree-kept e (behind h.1 refl) in ((h.0, g.0), g.1)
tree-kept (one_term d) k = tree-kept d k
tree-kept (plus d e) k = let h = tree-kept d k in let g = tree-kept e (behind h.1 refl) in ((h.0, g.0), g.1)
tree-kept (minus d e) k = let h = tree-kept d k in let g = tree-kept e (behind h.1 refl) in ((h.0, g.0), g.1)
tree-kept (one_sum d) k = tree-kept d k
tree-kept (less d e) k = let h = tree-kept d k in let g = tree-kept e (behind h.1 refl) in ((h.0, g.0), g.1)

-- one more, and one less
opens : {n : ℕ} {ms : List Mark} (k : Kept n (Repeat ∷ ms)) → (n < 4) × Kept (suc n) ms
opens {n} k =
    let l : k.depth.repeats < 4 = ltb→lt k.depth.repeats 4 k.within.0 in
    (omega (arith, k.opened), record { depth = after k.depth Repeat; opened = omega (arith, k.opened); within = k.within.1; words = k.words.1 })

closes : {n : ℕ} {ms : List Mark} (k : Kept (suc n) (End ∷ ms)) → Kept n ms
closes k = record { depth = after k.depth End; opened = ap pred k.opened; within = k.within.1; words = k.words.1 }

lines-kept : {s r : List Mark} {p : Plan} {n : ℕ} → Lines s r p → n ≤ 4 → Kept n s → (ProperPlan p) × (plans.depth p + n ≤ 4) × Kept n r
lines-kept no_line h k = (tt, omega arith, k)
lines-kept (blank_line l) h k = lines-kept l h (behind k refl)
lines-kept (let_line {v = v} d l) h k =
    let e = tree-kept d (behind (behind (behind k refl) refl) refl) in
    let p = lines-kept l h (behind e.1 refl) in
    ((v.low, e.0, p.0), p.1, p.2)
lines-kept (put_line d f l) h k =
    let a = tree-kept d (behind k refl) in
    let e = tree-kept f (behind a.1 refl) in
    let p = lines-kept l h (behind e.1 refl) in
    ((a.0, e.0, p.0), p.1, p.2)
lines-kept (repeat_lines d b l) h k =
    let o = opens k in
    let e = tree-kept d o.1 in
    let i = lines-kept b o.0 (behind e.1 refl) in
    let p = lines-kept l h (behind (closes i.2) refl) in
    ((e.0, i.0, p.0), omega (arith, i.1, p.1), p.2)

within_end : (d : Depth) (ms : List Mark) → Within d ms → Within d (ms ++ (LineEnd ∷ []))
within_end d [] h = (tt, tt)
within_end d (m ∷ ms) h = (h.0, within_end (after d m) ms h.1)

words-end : (ms : List Mark) → Words ms → Words (ms ++ (LineEnd ∷ []))
words-end [] h = (tt, tt)
words-end (m ∷ ms) h = (h.0, words-end ms h.1)

pub record Limited (p : Plan) : Type 0 where
  pub proper : ProperPlan p
  pub shallow : plans.depth p ≤ 4

plan_limited : (ms : List Mark) (p : Plan) → IsPlan ms p → Within level ms → Words ms → Limited p
plan_limited ms p h w v =
    let k = lines-kept {n = 0} h.lines (omega arith) (record { depth = level; opened = refl; within = within_end level ms w; words = words-end ms v }) in
    record { proper = k.0; shallow = omega (arith, k.1) }

-- of an accepted plan
abbrev LimitedBy : List Placed → Judgement → Type 0
LimitedBy ps (plan p) = Words (marks ps) → Limited p
LimitedBy ps (fault n at) = Unit {0}

limited_by : {ps : List Placed} {z : Ending} {j : Judgement} → Judged ps z j → LimitedBy ps j
limited_by (accepted {ps = ps} {p = p} h w) = λ v. plan_limited (marks ps) p h w v
limited_by (strange_mark s) = tt
limited_by (bad_mark pre m rest s v) = tt
limited_by (bad_end s v) = tt
limited_by (too_deep pre m rest s v r) = tt

pub limited : {ps : List Placed} {z : Ending} {p : Plan} → Judged ps z (plan p) → Words (marks ps) → Limited p
limited j v = limited_by j v
