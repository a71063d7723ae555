-- The stores of a run account for what became of its cells.
use Rattle.std.proofs.Common.{◌≡◌, ℕ, zero, suc, ◌+◌, ◌-◌, Bool, true, false, cond, not, eqb, ltb, List, [], ◌∷◌, ◌++◌, length, get_or, take, sym, refl, ap, ◌∙◌, subst, append_assoc, add-zero, add-suc, arith, length-append}
use native.Mathlib.Nat.{sub_self}
use Rattle.std.proofs.ByRecursion.{All-append}
use Rattle.std.proofs.lemmas.Bool.{false≢true, and_parts, eqb-true}
use Rattle.std.proofs.lemmas.List.{append-nil}
use Rattle.memory.specs.Cells.{replaced}
use Rattle.isa.specs.declared.kinds.Colour.{Colour}
use Rattle.isa.specs.declared.kinds.Colour.TheVariants.{Green, Blue}
use Rattle.isa.specs.declared.kinds.Kind.{Kind}
use Rattle.isa.specs.declared.kinds.Kind.TheVariants.{Move, Copy, Arith, Load, Store, Jump, Branch, Halt}
use Rattle.machine.specs.declared.queue.Pair.{Pair}
use Rattle.machine.specs.declared.ends.Report.{Report}
use Rattle.machine.specs.declared.ends.Report.TheVariants.{CountersDiffer, StoreDiffers, Destination, Queue, Outside}
use Rattle.machine.specs.declared.ends.End.TheVariants.{Halted, NoSuchCell}
use Rattle.machine.specs.Ends.{going?}
use Rattle.machine.specs.Pairs.{first, rest, some?, overlay}
use Rattle.machine.specs.Machine.{State, Outcome, stop, go, need, reg, with_place, with_store, with_queue, at, fall, zero?, pair?, commit, aim, land, jump, exec, act, settled, Run, counted, step, after, leaving, made}
use Rattle.machine.specs.Laws.{Accounts, Lawful}
use Rattle.machine.proofs.Runs.{stays, further, one_more, steps_going}

overlay-append : (l m : List Pair) (words : ℕ → ℕ) → overlay (l ++ m) words ≡ overlay m (overlay l words)
overlay-append [] m words = refl
overlay-append (p ∷ l) m words = overlay-append l m (replaced words p.address p.word)

module _ (w : ℕ → Bool) where
  pub nothing_made : (s : State) → Accounts w [] s s
  nothing_made s = record { cells = refl; writable = tt; number = omega arith }

  pub both_made : (l m : List Pair) (s t u : State) → Accounts w l s t → Accounts w m t u → Accounts w (l ++ m) s u
  both_made l m s t u A B = record {
    cells = B.cells ∙ ap (overlay m) A.cells ∙ sym (overlay-append l m s.cells);
    writable = All-append (λ p. w p.address ≡ true) l m A.writable B.writable;
    number = simp length-append (omega (arith, A.number, B.number));
  }

  -- neither cells nor store count changed
  quiet : (s t : State) → t.cells ≡ s.cells → t.stores ≡ s.stores → Accounts w (leaving s t) s t
  quiet s t c k =
      let none : leaving s t ≡ [] = ap (λ n. take (n - s.stores) s.queue) k ∙ ap (λ n. take n s.queue) (sub_self s.stores) in
      subst (λ l. Accounts w l s t) (sym none) (record { cells = c; writable = tt; number = omega arith })

  -- the store of the oldest pair
  one : (s t : State) (q : List Pair) (a v : ℕ) → s.queue ≡ q → some? q ≡ true → pair? (first q) a v ≡ true → w a ≡ true → t.cells ≡ replaced s.cells a v → t.stores ≡ suc s.stores →
      Accounts w (leaving s t) s t
  one s t [] a v e h k r c n = absurd (false≢true h)
  one s t (p ∷ q) a v e h k r c n =
      let both = and_parts (eqb p.address a) (eqb p.word v) k in
      let pa : p.address ≡ a = eqb-true _ _ both.0 in
      let pv : p.word ≡ v = eqb-true _ _ both.1 in
      let up : t.stores - s.stores ≡ 1 = omega arith in
      let left : leaving s t ≡ p ∷ [] = ap (λ m. take m s.queue) up ∙ ap (take 1) e in
      subst (λ l. Accounts w l s t) (sym left) (record {
        cells = c ∙ (λ i. replaced s.cells (sym pa i) (sym pv i));
        writable = (ap w pa ∙ r, tt);
        number = omega arith;
      })

  -- where a step goes on, the stores that it made account for it
  abbrev pub Fair : State → Outcome → Type 0
  Fair s (stop e) = Unit {0}
  Fair s (go t) = Accounts w (leaving s t) s t

  need_fair : (s : State) (b : Bool) (r : Report) (o : Outcome) → (b ≡ true → Fair s o) → Fair s (need b r o)
  need_fair s true r o h = h refl
  need_fair s false r o h = tt

  either_fair : (s : State) (b : Bool) (o p : Outcome) → (b ≡ true → Fair s o) → Fair s p → Fair s (cond b o p)
  either_fair s true o p h k = h refl
  either_fair s false o p h k = k

  commit_fair : (s : State) (a v : ℕ) → Fair s (commit w s a v)
  commit_fair s a v =
      let t : State = with_place (with_store (with_queue s (rest s.queue)) a v) (suc s.green) (suc s.blue) s.destination in
      need_fair s (some? s.queue) Queue (need (pair? (first s.queue) a v) StoreDiffers (cond (w a) (go t) (stop NoSuchCell))) λ h.
      need_fair s (pair? (first s.queue) a v) StoreDiffers (cond (w a) (go t) (stop NoSuchCell)) λ k.
      either_fair s (w a) (go t) (stop NoSuchCell) (λ r. one s t s.queue a v refl h k r refl refl) tt

  aim_fair : (s : State) (x : ℕ) → Fair s (aim s x)
  aim_fair s x = need_fair s (zero? s.destination) Destination (fall x s) λ _. quiet s _ refl refl

  land_fair : (s : State) (x : ℕ) → Fair s (land s x)
  land_fair s x =
      need_fair s (not (zero? s.destination)) Destination (need (eqb s.destination x) Destination (go (at s.destination 0 s))) λ _.
      need_fair s (eqb s.destination x) Destination (go (at s.destination 0 s)) λ _. quiet s _ refl refl

  jump_fair : (c : Colour) (s : State) (x : ℕ) → Fair s (jump c s x)
  jump_fair Green s x = aim_fair s x
  jump_fair Blue s x = land_fair s x

  exec_fair : (k : Kind) (s : State) → Fair s (exec w k s)
  exec_fair (Move c a n) s = quiet s _ refl refl
  exec_fair (Copy a b) s = quiet s _ refl refl
  exec_fair (Arith o a b c) s = quiet s _ refl refl
  exec_fair (Load c a b) s = quiet s _ refl refl
  exec_fair (Store Green a b) s =
      need_fair s (ltb (length s.queue) 16) Queue (fall s.destination (with_queue s (s.queue ++ (record { address = reg s a; word = reg s b } ∷ [])))) λ _. quiet s _ refl refl
  exec_fair (Store Blue a b) s = commit_fair s (reg s a) (reg s b)
  exec_fair (Jump c a) s = jump_fair c s (reg s a)
  exec_fair (Branch c a b) s = either_fair s (zero? (reg s a)) (jump c s (reg s b)) (aim s 0) (λ _. jump_fair c s (reg s b)) (aim_fair s 0)
  exec_fair Halt s =
      need_fair s (zero? s.destination) Destination (need (not (some? s.queue)) Queue (stop Halted)) λ _.
      need_fair s (not (some? s.queue)) Queue (stop Halted) λ _. tt

  module _ (code : List Kind) where
    act_fair : (s : State) → Fair s (act w code s)
    act_fair s =
        let here : Outcome = exec w (get_or code s.green Halt) s in
        need_fair s (eqb s.green s.blue) CountersDiffer (need (ltb s.green (length code)) Outside here) λ _.
        need_fair s (ltb s.green (length code)) Outside here λ _. exec_fair (get_or code s.green Halt) s

    settled_accounts : (s : State) (o : Outcome) → Fair s o → Accounts w (leaving s (settled s o).1) s (settled s o).1
    settled_accounts s (stop e) h = quiet s s refl refl
    settled_accounts s (go t) h = h

    step_accounts : (x : Run) → Accounts w (leaving x.state (step w code x).state) x.state (step w code x).state
    step_accounts x = by (going? x.end)
      where
        on : Run
        on = counted x (settled x.state (act w code x.state))

        by : (b : Bool) → Accounts w (leaving x.state (cond b on x).state) x.state (cond b on x).state
        by true = settled_accounts x.state (act w code x.state) (act_fair x.state)
        by false = quiet x.state x.state refl refl

    after_accounts : (x : Run) (n : ℕ) → Accounts w (made w code x n) x.state (after w code x n).state
    after_accounts x zero = nothing_made x.state
    after_accounts x (suc n) =
        both_made (made w code x n) (leaving (after w code x n).state (after w code x (suc n)).state) x.state (after w code x n).state (after w code x (suc n)).state
        (after_accounts x n) (step_accounts (after w code x n))

    -- the stores of n steps and then m
    made_further : (x : Run) (n m : ℕ) → made w code x (n + m) ≡ made w code x n ++ made w code (after w code x n) m
    made_further x n zero = ap (made w code x) (add-zero n) ∙ sym (append-nil (made w code x n))
    made_further x n (suc m) =
        ap (made w code x) (add-suc n m)
        ∙ (λ i. made_further x n m i ++ leaving (sym (further w code x n m) i).state (step w code (sym (further w code x n m) i)).state)
        ∙ append_assoc (made w code x n) (made w code (after w code x n) m) (leaving (after w code (after w code x n) m).state (after w code (after w code x n) (suc m)).state)

    pub lawful : (x : Run) → Lawful w code x
    lawful x = record {
      further = further w code x;
      made_further = made_further x;
      stays = λ n m h. sym (further w code x n m) ∙ stays w code (after w code x n) h m;
      steps = λ n h. one_more w code (after w code x n) h ∙ ap suc (steps_going w code x n h) ∙ sym (add-suc x.steps n);
      accounts = after_accounts x;
    }
