-- Runs of many steps.
use Rattle.std.proofs.Common.{◌≡◌, ℕ, zero, suc, ◌+◌, ◌-◌, ◌≤◌, Bool, true, false, cond, List, sym, refl, ap, ◌∙◌, true≢false, add-zero, add-suc, arith}
use Rattle.isa.specs.declared.kinds.Kind.{Kind}
use Rattle.machine.specs.Ends.{going?}
use Rattle.machine.specs.Machine.{Run, counted, settled, act, step, after}

module _ (w : ℕ → Bool) (code : List Kind) where
  -- an ended run stays
  pub stays : (x : Run) → going? x.end ≡ false → (n : ℕ) → after w code x n ≡ x
  stays x h zero = refl
  stays x h (suc n) = ap (step w code) (stays x h n) ∙ ap (λ b. cond b (counted x (settled x.state (act w code x.state))) x) h

  -- n steps and then m
  pub further : (x : Run) (n m : ℕ) → after w code (after w code x n) m ≡ after w code x (n + m)
  further x n zero = ap (after w code x) (sym (add-zero n))
  further x n (suc m) = ap (step w code) (further x n m) ∙ ap (after w code x) (sym (add-suc n m))

  -- a run that has ended after k steps is then where n steps lead
  pub stopped : (x : Run) (k n : ℕ) → k ≤ n → going? (after w code x k).end ≡ false → after w code x k ≡ after w code x n
  stopped x k n l h =
      let all : k + (n - k) ≡ n = omega arith in
      sym (stays (after w code x k) h (n - k)) ∙ further x k (n - k) ∙ ap (after w code x) all

  -- a step of a run that goes on is counted
  pub one_more : (x : Run) → going? x.end ≡ true → (step w code x).steps ≡ suc x.steps
  one_more x h = ap (λ b. (cond b (counted x (settled x.state (act w code x.state))) x).steps) h

  was_going : (x : Run) → going? (step w code x).end ≡ true → (b : Bool) → going? x.end ≡ b → going? x.end ≡ true
  was_going x h true e = e
  was_going x h false e = absurd (true≢false (sym h ∙ ap (λ y. going? y.end) (stays x e 1) ∙ e))

  pub steps_going : (x : Run) (n : ℕ) → going? (after w code x n).end ≡ true → (after w code x n).steps ≡ x.steps + n
  steps_going x zero h = sym (add-zero x.steps)
  steps_going x (suc n) h =
      let before = was_going (after w code x n) h (going? (after w code x n).end) refl in
      one_more (after w code x n) before ∙ ap suc (steps_going x n before) ∙ sym (add-suc x.steps n)
