-- Which marks are plans within the limits of nesting, and what the first fault of the others is.
use Rattle.std.specs.Prelude.{◌≡◌, Bool, true, List, [], ◌∷◌, ◌++◌, ℕ, suc, pred, T, ltb}
use Rattle.language.specs.Plans.{Plan}
use Rattle.grammar.specs.declared.mark.Mark.{Mark}
use Rattle.grammar.specs.declared.mark.Mark.TheVariants.{Let, Put, Repeat, End, LineEnd, Number, Variable, Operator, Open, Close, Comma, Equals}
use Rattle.grammar.specs.declared.mark.Placed.{Placed}
use Rattle.grammar.specs.Grammar.{IsPlan}

-- marks that some plan begins with
pub record Viable (ms : List Mark) : Type 0 where
  pub post : List Mark
  pub plan : Plan
  pub is_plan : IsPlan (ms ++ post) plan

-- how many parentheses and brackets, and how many REPEATs, are open
pub record Depth : Type 0 where
  pub brackets : ℕ
  pub repeats : ℕ

-- where nothing is open
abbrev pub level : Depth
level = record { brackets = 0; repeats = 0 }

-- the limits in force
abbrev pub deepest : Depth
deepest = record { brackets = 16; repeats = 4 }

-- how many are open behind a mark
abbrev pub after : Depth → Mark → Depth
after d Let = d
after d Put = d
after d Repeat = record { brackets = d.brackets; repeats = suc d.repeats }
after d End = record { brackets = d.brackets; repeats = pred d.repeats }
after d LineEnd = d
after d (Number n) = d
after d (Variable v) = d
after d (Operator o) = d
after d (Open b) = record { brackets = suc d.brackets; repeats = d.repeats }
after d (Close b) = record { brackets = pred d.brackets; repeats = d.repeats }
after d Comma = d
after d Equals = d

-- the limits leave room for this mark
abbrev pub room : Depth → Mark → Bool
room d Let = true
room d Put = true
room d Repeat = ltb d.repeats deepest.repeats
room d End = true
room d LineEnd = true
room d (Number n) = true
room d (Variable v) = true
room d (Operator o) = true
room d (Open b) = ltb d.brackets deepest.brackets
room d (Close b) = true
room d Comma = true
room d Equals = true

-- how many are open after these marks
abbrev pub depth : Depth → List Mark → Depth
depth d [] = d
depth d (m ∷ ms) = depth (after d m) ms

-- no mark passes its limit
abbrev pub Within : Depth → List Mark → Type 0
Within d [] = Unit {0}
Within d (m ∷ ms) = T (room d m) × Within (after d m) ms

-- marks without a fault so far
pub record Stands (ms : List Mark) : Type 0 where
  pub viable : Viable ms
  pub within : Within level ms

-- the marks without their places
abbrev pub marks : List Placed → List Mark
marks [] = []
marks (p ∷ ps) = p.mark ∷ marks ps

-- the marks of a text end at its length, or before the byte of a strange mark
pub data Ending : Type 0 where
  text_end : ℕ → Ending
  strange : ℕ → Ending

-- a plan, or the number and the byte of a fault
pub data Judgement : Type 0 where
  plan : Plan → Judgement
  fault : ℕ → ℕ → Judgement

-- 3 is a strange mark; 4 a mark with which no plan goes on, or an end at which none ends; 5 a mark that passes its limit.
-- All marks before the fault have none.
pub data Judged : List Placed → Ending → Judgement → Type 0 where
  accepted : {ps : List Placed} {n : ℕ} {p : Plan} → IsPlan (marks ps) p → Within level (marks ps) → Judged ps (text_end n) (plan p)
  strange_mark : {ps : List Placed} {n : ℕ} → Stands (marks ps) → Judged ps (strange n) (fault 3 n)
  bad_mark : (pre : List Placed) (m : Placed) (rest : List Placed) {z : Ending} →
      Stands (marks pre) → (Viable (marks pre ++ (m.mark ∷ [])) → ⊥) → Judged (pre ++ (m ∷ rest)) z (fault 4 m.place)
  bad_end : {ps : List Placed} {n : ℕ} → Stands (marks ps) → ((p : Plan) → IsPlan (marks ps) p → ⊥) → Judged ps (text_end n) (fault 4 n)
  too_deep : (pre : List Placed) (m : Placed) (rest : List Placed) {z : Ending} →
      Stands (marks pre) → Viable (marks pre ++ (m.mark ∷ [])) → (T (room (depth level (marks pre)) m.mark) → ⊥) → Judged (pre ++ (m ∷ rest)) z (fault 5 m.place)

-- marks and their end have exactly one judgement
abbrev pub Decided : Type 0
Decided = (ps : List Placed) (z : Ending) → (j : Judgement) × Judged ps z j × ((k : Judgement) → Judged ps z k → k ≡ j)
