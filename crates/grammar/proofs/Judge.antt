-- The judgement of the acceptor is the one judgement that the rules allow.
use mathlib.Core.Path.{◌≡◌, refl, sym, ap, subst, ◌∙◌}
use mathlib.Core.List.{List, [], ◌∷◌, ◌++◌}
use Prim.Native.Nat.{ℕ}
use Rattle.grammar.specs.declared.mark.Mark.{Mark}
use Rattle.grammar.specs.declared.mark.Mark.TheVariants.{LineEnd}
use Rattle.language.specs.Plans.{Plan, done}
use Rattle.grammar.proofs.Acceptor.{Base, top, body, State, line, naming, named, over, want, have, full, Move, stuck, to, step, then, run, start}
use mathlib.Core.Bool.{Bool, true, false}
use mathlib.Core.List.{append_assoc, append-nil}
use lib.Dec.{T}
use Rattle.grammar.specs.declared.mark.Placed.{Placed}
use Rattle.grammar.specs.Verdict.{Depth, level, after, room, depth, Within, Stands, marks, Ending, text_end, strange, Judgement, plan, fault, Judged, accepted, strange_mark, bad_mark, bad_end, too_deep, Decided}
use Rattle.grammar.proofs.Complete.{both, both_done, plan_read}
use Rattle.grammar.proofs.Sound.{plan_derived}
use Rattle.grammar.proofs.Viability.{never, same-state, run_on, moved, viable_from, viable_to}

pub data Result : Type 0 where
  no : Result
  yes : (Plan → Plan) → Result

abbrev pub in_base : Base → Result
in_base (top f) = Result.yes f
in_base (body f e K) = Result.no

abbrev pub in_state : State → Result
in_state (line K) = in_base K
in_state (naming K) = Result.no
in_state (named v K) = Result.no
in_state (over K) = Result.no
in_state (want l S M k) = Result.no
in_state (have l S t k) = Result.no
in_state (full t k) = Result.no

-- a plan is complete where a line may begin and no REPEAT is open
abbrev pub result : Move → Result
result stuck = Result.no
result (to s) = in_state s

abbrev pub verdict : ℕ → Result → Judgement
verdict n Result.no = fault 4 n
verdict n (Result.yes f) = plan (f done)

abbrev pub last : Ending → Move → Judgement
last (text_end n) v = verdict n (result v)
last (strange n) v = fault 3 n

abbrev pub turn : Move → Bool → ℕ → (State → Judgement) → Judgement
turn stuck b n f = fault 4 n
turn (to s) true n f = f s
turn (to s) false n f = fault 5 n

-- the judgement of the marks that are left, from a state and with so many open
abbrev pub judge : Ending → Depth → List Placed → State → Judgement
judge z d [] s = last z (step s LineEnd)
judge z d (p ∷ ps) s = turn (step s p.mark) (room d p.mark) p.place (judge z (after d p.mark) ps)

-- the result of a complete plan
base_yes : (K : Base) (f : Plan → Plan) → in_base K ≡ Result.yes f → line K ≡ line (top f)
base_yes (top g) f e = cc
base_yes (body g t K) f e = absurd cc

state_yes : (s : State) (f : Plan → Plan) → in_state s ≡ Result.yes f → s ≡ line (top f)
state_yes (line K) f e = base_yes K f e
state_yes (naming K) f e = absurd cc
state_yes (named v K) f e = absurd cc
state_yes (over K) f e = absurd cc
state_yes (want l S M k) f e = absurd cc
state_yes (have l S t k) f e = absurd cc
state_yes (full t k) f e = absurd cc

result_yes : (v : Move) (f : Plan → Plan) → result v ≡ Result.yes f → v ≡ to (line (top f))
result_yes stuck f e = absurd cc
result_yes (to s) f e = ap to (state_yes s f e)

result_no : (v : Move) (f : Plan → Plan) → result v ≡ Result.no → v ≡ to (line (top f)) → ⊥
result_no v f e h = cc (e, ap result h)

same_move : (v : Move) → then v to ≡ v
same_move stuck = refl
same_move (to s) = refl

-- one mark more
run-one : (pre : List Mark) (m : Mark) (s : State) → run pre start ≡ to s → run (pre ++ (m ∷ [])) start ≡ step s m
run-one pre m s e = run_on pre (m ∷ []) start e ∙ same_move (step s m)

within_more : (d : Depth) (pre : List Mark) (m : Mark) → Within d pre → T (room (depth d pre) m) → Within d (pre ++ (m ∷ []))
within_more d [] m w t = (t, tt)
within_more d (x ∷ pre) m w t = (w.0, within_more (after d x) pre m w.1 t)

depth-more : (d : Depth) (pre : List Mark) (m : Mark) → depth d (pre ++ (m ∷ [])) ≡ after (depth d pre) m
depth-more d [] m = refl
depth-more d (x ∷ pre) m = depth-more (after d x) pre m

-- marks of lists put together
pub marks-append : (a b : List Placed) → marks (a ++ b) ≡ marks a ++ marks b
marks-append [] b = refl
marks-append (p ∷ a) b = ap (λ l. p.mark ∷ l) (marks-append a b)

-- the judgement of the acceptor is one of the rules
stands : (pre : List Mark) (s : State) → run pre start ≡ to s → Within level pre → Stands pre
stands pre s e w = record { viable = viable_from pre s e; within = w }

at_end : (z : Ending) (pre : List Placed) (s : State) → run (marks pre) start ≡ to s → Within level (marks pre) → Judged pre z (last z (step s LineEnd))
at_end (strange n) pre s e w = strange_mark (stands (marks pre) s e w)
at_end (text_end n) pre s e w = one (result (step s LineEnd)) refl
  where
    one : (x : Result) → result (step s LineEnd) ≡ x → Judged pre (text_end n) (verdict n x)
    one Result.no q = bad_end (stands (marks pre) s e w) λ p h. result_no (step s LineEnd) (both p) q (sym (run-one (marks pre) LineEnd s e) ∙ plan_read h)
    one (Result.yes f) q = accepted (plan_derived (marks pre) f (run-one (marks pre) LineEnd s e ∙ result_yes (step s LineEnd) f q)) w

judged : (z : Ending) (pre ps : List Placed) (s : State) → run (marks pre) start ≡ to s → Within level (marks pre) → Judged (pre ++ ps) z (judge z (depth level (marks pre)) ps s)
judged z pre [] s e w = subst (λ l. Judged l z (last z (step s LineEnd))) (sym (append-nil pre)) (at_end z pre s e w)
judged z pre (m ∷ ps) s e w = one (step s m.mark) (room (depth level (marks pre)) m.mark) (run-one (marks pre) m.mark s e) (judged z (pre ++ (m ∷ [])) ps) (within_more level (marks pre) m.mark w) (λ t. t)
  where
    more : marks (pre ++ (m ∷ [])) ≡ marks pre ++ (m.mark ∷ [])
    more = marks-append pre (m ∷ [])

    one : (v : Move) (b : Bool) → run (marks pre ++ (m.mark ∷ [])) start ≡ v →
        ((x : State) → run (marks (pre ++ (m ∷ []))) start ≡ to x → Within level (marks (pre ++ (m ∷ []))) → Judged ((pre ++ (m ∷ [])) ++ ps) z (judge z (depth level (marks (pre ++ (m ∷ [])))) ps x)) →
        (T b → Within level (marks pre ++ (m.mark ∷ []))) → (T (room (depth level (marks pre)) m.mark) → T b) →
        Judged (pre ++ (m ∷ ps)) z (turn v b m.place (judge z (after (depth level (marks pre)) m.mark) ps))
    one stuck b q r g t = bad_mark pre m ps (stands (marks pre) s e w) λ h. let y = viable_to (marks pre ++ (m.mark ∷ [])) h in never (sym q ∙ y.is)
    one (to x) true q r g t =
        let h = r x (ap (λ l. run l start) more ∙ q) (subst (Within level) (sym more) (g tt)) in
        let D : depth level (marks (pre ++ (m ∷ []))) ≡ after (depth level (marks pre)) m.mark = ap (depth level) more ∙ depth-more level (marks pre) m.mark in
        let k : Judged (pre ++ (m ∷ ps)) z (judge z (depth level (marks (pre ++ (m ∷ [])))) ps x) =
        subst (λ l. Judged l z (judge z (depth level (marks (pre ++ (m ∷ [])))) ps x)) (append_assoc pre (m ∷ []) ps) h in
        subst (λ d. Judged (pre ++ (m ∷ ps)) z (judge z d ps x)) D k
    one (to x) false q r g t = too_deep pre m ps (stands (marks pre) s e w) (viable_from (marks pre ++ (m.mark ∷ [])) x q) t

-- every judgement of the rules is the acceptor's
reach : (z : Ending) (d : Depth) (pre rest : List Placed) (s x : State) → run (marks pre) s ≡ to x → Within d (marks pre) → judge z d (pre ++ rest) s ≡ judge z (depth d (marks pre)) rest x
reach z d [] rest s x e w = ap (judge z d rest) (same-state e)
reach z d (m ∷ pre) rest s x e w = one (step s m.mark) (room d m.mark) e w.0 (λ y h. reach z (after d m.mark) pre rest y x h w.1)
  where
    one : (v : Move) (b : Bool) → then v (run (marks pre)) ≡ to x → T b →
        ((y : State) → run (marks pre) y ≡ to x → judge z (after d m.mark) (pre ++ rest) y ≡ judge z (depth (after d m.mark) (marks pre)) rest x) →
        turn v b m.place (judge z (after d m.mark) (pre ++ rest)) ≡ judge z (depth (after d m.mark) (marks pre)) rest x
    one stuck b q t h = absurd (never q)
    one (to y) false q t h = absurd t
    one (to y) true q t h = h y q

reach-end : (z : Ending) (pre : List Placed) (x : State) → run (marks pre) start ≡ to x → Within level (marks pre) → judge z level pre start ≡ last z (step x LineEnd)
reach-end z pre x e w = ap (λ l. judge z level l start) (sym (append-nil pre)) ∙ reach z level pre [] start x e w

stuck_turn : (v : Move) (b : Bool) (n : ℕ) (f : State → Judgement) → ((x : State) → v ≡ to x → ⊥) → turn v b n f ≡ fault 4 n
stuck_turn stuck b n f h = refl
stuck_turn (to x) b n f h = absurd (h x refl)

deep_turn : (v : Move) (b : Bool) (n : ℕ) (f : State → Judgement) (x : State) → v ≡ to x → (T b → ⊥) → turn v b n f ≡ fault 5 n
deep_turn stuck b n f x e h = absurd (never e)
deep_turn (to y) true n f x e h = absurd (h tt)
deep_turn (to y) false n f x e h = refl

no_verdict : (n : ℕ) (v : Move) → ((f : Plan → Plan) → v ≡ to (line (top f)) → ⊥) → verdict n (result v) ≡ fault 4 n
no_verdict n v h = one (result v) refl
  where
    one : (x : Result) → result v ≡ x → verdict n x ≡ fault 4 n
    one Result.no q = refl
    one (Result.yes f) q = absurd (h f (result_yes v f q))

unique : (ps : List Placed) (z : Ending) (k : Judgement) → Judged ps z k → k ≡ judge z level ps start
unique ps z k (accepted {n = n} {p = p} h w) =
    let e = plan_read h in
    let y = moved (marks ps) (LineEnd ∷ []) start e in
    let g : step y.0 LineEnd ≡ to (line (top (both p))) = sym (run-one (marks ps) LineEnd y.0 y.1) ∙ e in
    sym (reach-end (text_end n) ps y.0 y.1 w ∙ ap (λ v. verdict n (result v)) g ∙ ap plan (both_done p))
unique ps z k (strange_mark {n = n} h) =
    let y = viable_to (marks ps) h.viable in
    sym (reach-end (strange n) ps y.state y.is h.within)
unique ps z k (bad_mark pre m rest h n) =
    let y = viable_to (marks pre) h.viable in
    sym (reach z level pre (m ∷ rest) start y.state y.is h.within ∙ stuck_turn (step y.state m.mark) _ _ _ (λ x e. n (viable_from (marks pre ++ (m.mark ∷ [])) x (run-one (marks pre) m.mark y.state y.is ∙ e))))
unique ps z k (bad_end {n = i} h n) =
    let y = viable_to (marks ps) h.viable in
    sym (reach-end (text_end i) ps y.state y.is h.within ∙ no_verdict i (step y.state LineEnd) (λ f e. n (f done) (plan_derived (marks ps) f (run-one (marks ps) LineEnd y.state y.is ∙ e))))
unique ps z k (too_deep pre m rest h v n) =
    let y = viable_to (marks pre) h.viable in
    let x = viable_to (marks pre ++ (m.mark ∷ [])) v in
    sym (reach z level pre (m ∷ rest) start y.state y.is h.within ∙ deep_turn (step y.state m.mark) _ _ _ x.state (sym (run-one (marks pre) m.mark y.state y.is) ∙ x.is) n)

pub judged-start : (z : Ending) (ps : List Placed) → Judged ps z (judge z level ps start)
judged-start z ps = judged z [] ps start refl tt

pub decides : Decided
decides ps z = (judge z level ps start, judged-start z ps, λ k h. unique ps z k h)
