-- Marks at which the acceptor is not stuck are exactly those that some plan begins with.
use mathlib.Core.Path.{◌≡◌, refl, sym, ap, subst, ◌∙◌}
use mathlib.Core.List.{List, [], ◌∷◌, ◌++◌}
use Rattle.grammar.specs.declared.mark.Bracket.TheVariants.{Round, Square}
use Rattle.grammar.specs.declared.mark.Mark.{Mark}
use Rattle.grammar.specs.declared.mark.Mark.TheVariants.{End, LineEnd, Number, Variable, Close, Comma, Equals}
use Rattle.grammar.specs.declared.variable.Variable.{Variable as Letter}
use lib.Dec.{lit<}
use Rattle.language.specs.Plans.{Tree, number, cell, Plan, done, assign, store, again}
use Rattle.grammar.proofs.Acceptor.{same, plain, Base, top, body, Left, nothing, Hole, of_let, of_address, of_value, of_count, inside, State, line, naming, named, over, want, have, full, Move, stuck, to, add, value, step, then, run, start}
use mathlib.Core.List.{append_assoc}
use Rattle.grammar.specs.Verdict.{Viable}
use Rattle.grammar.proofs.Complete.{add_plain, plan_read}
use Rattle.grammar.proofs.Sound.{plan_derived}

abbrev letter_a : Letter
letter_a = record { number = 0; low = lit< tt }

-- marks that close the open REPEATs
abbrev ends : Base → List Mark
ends (top f) = []
ends (body f e K) = End ∷ LineEnd ∷ ends K

-- marks that complete an expression's line, and what it stands in
abbrev closes : Hole → List Mark
closes (of_let v K) = LineEnd ∷ ends K
closes (of_address K) = Comma ∷ Number 0 ∷ LineEnd ∷ ends K
closes (of_value a K) = LineEnd ∷ ends K
closes (of_count K) = LineEnd ∷ End ∷ LineEnd ∷ ends K
closes (inside b l S M k) = Close b ∷ closes k

abbrev completes : State → List Mark
completes (line K) = ends K
completes (naming K) = Variable letter_a ∷ Equals ∷ Number 0 ∷ LineEnd ∷ ends K
completes (named v K) = Equals ∷ Number 0 ∷ LineEnd ∷ ends K
completes (over K) = LineEnd ∷ ends K
completes (want l S M k) = Number 0 ∷ closes k
completes (have l S t k) = closes k
completes (full t k) = closes k

-- these marks, and the text's end, make a plan
pub record Ends (ms : List Mark) (s : State) : Type 0 where
  pub f : Plan → Plan
  pub is : run (ms ++ (LineEnd ∷ [])) s ≡ to (line (top f))

ends-end : (K : Base) (g : Plan → Plan) → Ends (ends K) (line (add g K))
ends-end (top f) g = record { f = λ p. f (g p); is = refl }
ends-end (body f e K) g = let h = ends-end K (again e (f (g done))) in record { f = h.f; is = h.is }

closes_end : (k : Hole) (l : Left) (S : Tree → Tree) (t : Tree) → Ends (closes k) (have l S t k)
closes_end (of_let v K) l S t = let h = ends-end K (assign v (value l (S t))) in record { f = h.f; is = h.is }
closes_end (of_address K) l S t = let h = ends-end K (store (value l (S t)) (number 0)) in record { f = h.f; is = h.is }
closes_end (of_value a K) l S t = let h = ends-end K (store a (value l (S t))) in record { f = h.f; is = h.is }
closes_end (of_count K) l S t = let h = ends-end K (again (value l (S t)) done) in record { f = h.f; is = h.is }
closes_end (inside Round m T M k) l S t = let h = closes_end k m T (M (value l (S t))) in record { f = h.f; is = h.is }
closes_end (inside Square m T M k) l S t = let h = closes_end k m T (M (cell (value l (S t)))) in record { f = h.f; is = h.is }

full_end : (k : Hole) (t : Tree) → Ends (closes k) (full t k)
full_end (of_let v K) t = let h = closes_end (of_let v K) nothing same t in record { f = h.f; is = h.is }
full_end (of_address K) t = let h = closes_end (of_address K) nothing same t in record { f = h.f; is = h.is }
full_end (of_value a K) t = let h = closes_end (of_value a K) nothing same t in record { f = h.f; is = h.is }
full_end (of_count K) t = let h = closes_end (of_count K) nothing same t in record { f = h.f; is = h.is }
full_end (inside Round m T M k) t = let h = closes_end (inside Round m T M k) nothing same t in record { f = h.f; is = h.is }
full_end (inside Square m T M k) t = let h = closes_end (inside Square m T M k) nothing same t in record { f = h.f; is = h.is }

line_end : (K : Base) → Ends (ends K) (line K)
line_end K = subst (λ z. Ends (ends K) (line z)) (add_plain K) (ends-end K plain)

pub completes_end : (s : State) → Ends (completes s) s
completes_end (line K) = line_end K
completes_end (naming K) = let h = ends-end K (assign 0 (number 0)) in record { f = h.f; is = h.is }
completes_end (named v K) = let h = ends-end K (assign v.number (number 0)) in record { f = h.f; is = h.is }
completes_end (over K) = let h = line_end K in record { f = h.f; is = h.is }
completes_end (want l S M k) = let h = closes_end k l S (M (number 0)) in record { f = h.f; is = h.is }
completes_end (have l S t k) = closes_end k l S t
completes_end (full t k) = full_end k t

abbrev IsStuck : Move → Type 0
IsStuck stuck = Unit {0}
IsStuck (to s) = ⊥

pub never : {s : State} → stuck ≡ to s → ⊥
never e = subst IsStuck e tt

abbrev target : State → Move → State
target s stuck = s
target s (to z) = z

pub same-state : {s t : State} → to s ≡ to t → s ≡ t
same-state {s} e = ap (target s) e

pub run-append : (a b : List Mark) (s : State) → run (a ++ b) s ≡ then (run a s) (run b)
run-append [] b s = refl
run-append (m ∷ a) b s = one (step s m) (run-append a b)
  where
    one : (v : Move) → ((z : State) → run (a ++ b) z ≡ then (run a z) (run b)) → then v (run (a ++ b)) ≡ then (then v (run a)) (run b)
    one stuck h = refl
    one (to z) h = h z

pub run_on : (a b : List Mark) (s : State) {z : State} → run a s ≡ to z → run (a ++ b) s ≡ run b z
run_on a b s e = run-append a b s ∙ ap (λ v. then v (run b)) e

pub record Reaches (ms : List Mark) : Type 0 where
  pub state : State
  pub is : run ms start ≡ to state

pub moved : (a b : List Mark) (s : State) {z : State} → run (a ++ b) s ≡ to z → (y : State) × (run a s ≡ to y)
moved a b s {z} e = one (run a s) refl (sym (run-append a b s) ∙ e)
  where
    one : (v : Move) → run a s ≡ v → then v (run b) ≡ to z → (y : State) × (run a s ≡ to y)
    one stuck q h = absurd (never h)
    one (to y) q h = (y, q)

pub viable_from : (ms : List Mark) (s : State) → run ms start ≡ to s → Viable ms
viable_from ms s e =
    let h = completes_end s in
    let g : run ((ms ++ completes s) ++ (LineEnd ∷ [])) start ≡ to (line (top h.f)) =
    ap (λ l. run l start) (append_assoc ms (completes s) (LineEnd ∷ [])) ∙ run_on ms (completes s ++ (LineEnd ∷ [])) start e ∙ h.is in
    record { post = completes s; plan = h.f done; is_plan = plan_derived (ms ++ completes s) h.f g }

pub viable_to : (ms : List Mark) → Viable ms → Reaches ms
viable_to ms v =
    let e = ap (λ l. run l start) (sym (append_assoc ms v.post (LineEnd ∷ []))) ∙ plan_read v.is_plan in
    let r = moved ms (v.post ++ (LineEnd ∷ [])) start e in
    record { state = r.0; is = r.1 }
