-- How large a plan is, and the limits.
use Rattle.std.specs.Prelude.{ℕ, suc, ◌+◌, ◌*◌, ◌^◌, ◌<◌, ◌≤◌, max, List, [], ◌∷◌, ◌++◌}
use Rattle.language.specs.Plans.{Tree, number, variable, cell, node, Plan, done, assign, store, again}

-- how many values are kept at once while an expression is computed
abbrev pub width : Tree → ℕ
width (number n) = 1
width (variable v) = 1
width (cell e) = width e
width (node o e f) = max (width e) (1 + width f)

-- each number, variable, operator and bracketed cell is a node
abbrev pub nodes : Tree → ℕ
nodes (number n) = 1
nodes (variable v) = 1
nodes (cell e) = nodes e + 1
nodes (node o e f) = nodes e + nodes f + 1

-- the expressions of a plan's lines, in the order of the text
abbrev pub expressions : Plan → List Tree
expressions done = []
expressions (assign v e P) = e ∷ expressions P
expressions (store a e P) = a ∷ e ∷ expressions P
expressions (again e B P) = e ∷ (expressions B ++ expressions P)

-- the largest width of a plan's expressions
abbrev pub widest : Plan → ℕ
widest done = 0
widest (assign v e P) = max (width e) (widest P)
widest (store a e P) = max (max (width a) (width e)) (widest P)
widest (again e B P) = max (width e) (max (widest B) (widest P))

-- the need of a plan's statements
abbrev pub needs : Plan → ℕ
needs done = 0
needs (assign v e P) = 2 * nodes e + 2 + needs P
needs (store a e P) = 2 * (nodes a + nodes e) + 2 + needs P
needs (again e B P) = 2 * nodes e + 14 + needs B + needs P

-- a plan's need of instructions
abbrev pub need : Plan → ℕ
need P = 13 + needs P

-- the number of REPEATs
abbrev pub repeats : Plan → ℕ
repeats done = 0
repeats (assign v e P) = repeats P
repeats (store a e P) = repeats P
repeats (again e B P) = 1 + repeats B + repeats P

-- how deep REPEATs stand in each other
abbrev pub depth : Plan → ℕ
depth done = 0
depth (assign v e P) = depth P
depth (store a e P) = depth P
depth (again e B P) = max (suc (depth B)) (depth P)

-- numbers are words, and there are six variables
abbrev pub Proper : Tree → Type 0
Proper (number n) = n < 2 ^ 32
Proper (variable v) = v < 6
Proper (cell e) = Proper e
Proper (node o e f) = (Proper e) × Proper f

abbrev pub ProperPlan : Plan → Type 0
ProperPlan done = Unit {0}
ProperPlan (assign v e P) = (v < 6) × (Proper e) × ProperPlan P
ProperPlan (store a e P) = (Proper a) × (Proper e) × ProperPlan P
ProperPlan (again e B P) = (Proper e) × (ProperPlan B) × ProperPlan P

-- the largest width of an expression, need of a plan, number of REPEATs, and depth of REPEATs
pub record Limits : Type 0 where
  pub width : ℕ
  pub need : ℕ
  pub repeats : ℕ
  pub depth : ℕ

-- the limits in force
abbrev pub in_force : Limits
in_force = record { width = 5; need = 1024; repeats = 31; depth = 4 }

-- a plan within the limits
pub record Within (L : Limits) (P : Plan) : Type 0 where
  pub proper : ProperPlan P
  pub narrow : widest P ≤ L.width
  pub small : need P ≤ L.need
  pub few : repeats P ≤ L.repeats
  pub shallow : depth P ≤ L.depth
