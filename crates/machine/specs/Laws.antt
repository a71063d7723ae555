-- What holds of every run, whatever its code, its latches and its cells.
use Rattle.std.specs.Prelude.{◌≡◌, ℕ, suc, ◌+◌, Bool, true, false, List, ◌++◌, length}
use Rattle.std.specs.List.{AllByRecursion}
use Rattle.isa.specs.declared.kinds.Kind.{Kind}
use Rattle.machine.specs.declared.queue.Pair.{Pair}
use Rattle.machine.specs.Ends.{going?}
use Rattle.machine.specs.Pairs.{overlay}
use Rattle.machine.specs.Machine.{State, Run, after, made}

-- these stores, made in their order, account for all that became of the cells and of the store count from s to t
pub record Accounts (w : ℕ → Bool) (stores : List Pair) (s t : State) : Type 0 where
  pub cells : t.cells ≡ overlay stores s.cells
  pub writable : AllByRecursion (λ p. w p.address ≡ true) stores
  pub number : t.stores ≡ s.stores + length stores

-- the run from x, where the cells at which w is true are writable
pub record Lawful (w : ℕ → Bool) (code : List Kind) (x : Run) : Type 0 where
  -- n steps and then m are n + m steps
  pub further : (n m : ℕ) → after w code (after w code x n) m ≡ after w code x (n + m)
  -- so are their stores
  pub made_further : (n m : ℕ) → made w code x (n + m) ≡ made w code x n ++ made w code (after w code x n) m
  -- a run that has ended stays
  pub stays : (n m : ℕ) → going? (after w code x n).end ≡ false → after w code x (n + m) ≡ after w code x n
  -- a step of a run that goes on is counted, the ending one too
  pub steps : (n : ℕ) → going? (after w code x n).end ≡ true → (after w code x (suc n)).steps ≡ x.steps + suc n
  -- no cell changes except by the stores made, each of which was writable; the store count is their number
  pub accounts : (n : ℕ) → Accounts w (made w code x n) x.state (after w code x n).state
