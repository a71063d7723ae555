-- What holds of a step's outcome: where it goes on, where it makes no report, and where a second one follows it.
use Rattle.std.proofs.Common.{◌≡◌, Bool, true, false, cond, refl}
use Rattle.std.proofs.lemmas.Bool.{true≢false, false≢true}
use Rattle.machine.specs.declared.ends.Report.{Report}
use Rattle.machine.specs.declared.ends.End.TheVariants.{Going, Halted, NoSuchCell, Reported}
use Rattle.machine.specs.Machine.{State, Outcome, stop, go, need}

-- P holds where the step goes on
abbrev pub Goes : (State → Type 0) → Outcome → Type 0
Goes P (stop e) = Unit {0}
Goes P (go s) = P s

pub goes-need : (P : State → Type 0) (b : Bool) (r : Report) (o : Outcome) → (b ≡ true → Goes P o) → Goes P (need b r o)
goes-need P true r o h = h refl
goes-need P false r o h = tt

pub goes-cond : (P : State → Type 0) (b : Bool) (o p : Outcome) → Goes P o → Goes P p → Goes P (cond b o p)
goes-cond P true o p h k = h
goes-cond P false o p h k = k

-- the step makes no report, and P holds where it goes on
abbrev pub Fine : (State → Type 0) → Outcome → Type 0
Fine P (stop Going) = ⊥
Fine P (stop Halted) = Unit {0}
Fine P (stop NoSuchCell) = Unit {0}
Fine P (stop (Reported r)) = ⊥
Fine P (go s) = P s

pub fine-need : (P : State → Type 0) (b : Bool) (r : Report) (o : Outcome) → b ≡ true → Fine P o → Fine P (need b r o)
fine-need P true r o t h = h
fine-need P false r o t h = absurd (false≢true t)

pub fine-cond : (P : State → Type 0) (b : Bool) (o : Outcome) → Fine P o → Fine P (cond b o (stop NoSuchCell))
fine-cond P true o h = h
fine-cond P false o h = tt

-- the step makes no report
abbrev pub Quiet : Outcome → Type 0
Quiet o = Fine (λ s. Unit {0}) o

pub fine-quiet : (P : State → Type 0) (o : Outcome) → Fine P o → Quiet o
fine-quiet P (stop Going) h = h
fine-quiet P (stop Halted) h = tt
fine-quiet P (stop NoSuchCell) h = tt
fine-quiet P (stop (Reported r)) h = h
fine-quiet P (go s) h = tt

-- the first step goes on too, to a state that is in the relation A to f
abbrev pub Beside : (State → State → Type 0) → Outcome → State → Type 0
Beside A (stop e) f = ⊥
Beside A (go u) f = A u f

-- the second step reports, or ends as the first does, or goes on beside it
abbrev pub Follow : (State → State → Type 0) → Outcome → Outcome → Type 0
Follow A o (stop Going) = ⊥
Follow A o (stop Halted) = o ≡ stop Halted
Follow A o (stop NoSuchCell) = o ≡ stop NoSuchCell
Follow A o (stop (Reported r)) = Unit {0}
Follow A o (go f) = Beside A o f

-- a test of both: the first one passes, since it makes no report
pub follow_need : (A : State → State → Type 0) (x y : Bool) (r : Report) (o p : Outcome) → Quiet (need x r o) →
    (x ≡ true → y ≡ true → Quiet o → Follow A o p) → Follow A (need x r o) (need y r p)
follow_need A true true r o p n h = h refl refl n
follow_need A true false r o p n h = tt
follow_need A false y r o p n h = absurd n

pub follow_cond : (A : State → State → Type 0) (x y : Bool) (o p : Outcome) → x ≡ y → Follow A o p →
    Follow A (cond x o (stop NoSuchCell)) (cond y p (stop NoSuchCell))
follow_cond A true true o p e h = h
follow_cond A true false o p e h = absurd (true≢false e)
follow_cond A false true o p e h = absurd (false≢true e)
follow_cond A false false o p e h = refl
