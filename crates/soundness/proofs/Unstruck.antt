-- The unstruck run of a module that passed, over cells that are words: while it is going it is typed, and it never reports.
use Rattle.std.proofs.Common.{◌≡◌, ℕ, zero, suc, ◌<◌, ◌≤◌, Bool, false, cond, ◌⊎◌, List, refl, ap, ◌∙◌, subst, inl, inr, not-suc-le-zero, arith}
use mathlib.Core.Path.{subst⁻¹}
use native.Mathlib.Decide.{dec_lt}
use Rattle.machine.specs.declared.ends.End.TheVariants.{Going, Halted, NoSuchCell, Reported}
use Rattle.machine.specs.Ends.{number, going?}
use Rattle.machine.specs.Machine.{State, Outcome, stop, go, act, settled, Run, counted, step}
use Rattle.rules.specs.Limits.{Limits}
use Rattle.rules.specs.Notes.{Kind, Notes, next}
use Rattle.rules.specs.Module.{Module, instr, static}
use Rattle.soundness.specs.Finding.{unstruck, Lasts, IsReport, AreCells}
use Rattle.rules.proofs.Relations.{Sub}
use Rattle.soundness.proofs.Passed.{Passed}
use Rattle.soundness.proofs.Outcomes.{Goes, Fine}
use Rattle.soundness.proofs.Words.{Words, act-words, begin-words}
use Rattle.soundness.proofs.Typed.{Typed, Onward, act-fine, begin_typed}

-- a step of a run that is going, and of one that is not
pub step-going : (w : ℕ → Bool) (code : List Kind) (x : Run) → x.end ≡ Going → step w code x ≡ counted x (settled x.state (act w code x.state))
step-going w code x e = ap (λ z. cond (going? z) (counted x (settled x.state (act w code x.state))) x) e

pub step_ended : (w : ℕ → Bool) (code : List Kind) (x : Run) → going? x.end ≡ false → step w code x ≡ x
step_ended w code x e = ap (λ b. cond b (counted x (settled x.state (act w code x.state))) x) e

module _ (m : Module) (w : ℕ → Bool) (cells : ℕ → ℕ) where
  abbrev pub run : ℕ → Run
  run n = unstruck w m.code cells n

  -- the notes where it stands after n steps, and those behind the instruction there
  abbrev pub here : ℕ → Notes
  here n = (static m (run n).state.green).notes

  abbrev pub behind : ℕ → Notes
  behind n = (next (instr m (run n).state.green) (static m (run n).state.green)).notes

  -- it is going after n steps, and was before; it holds words and is typed
  pub record Stands (n : ℕ) : Type 0 where
    pub going : (run n).end ≡ Going
    pub holds : Words (run n).state
    pub typed : Typed m (run n).state
    pub lasts : Lasts w m.code cells n

  pub lasts_more : (n : ℕ) → Stands n → Lasts w m.code cells (suc n)
  lasts_more n U j l = one (dec_lt j n)
    where
      one : Dec (j < n) → (run j).end ≡ Going
      one (yes k) = U.lasts j k
      one (no k) = let e : j ≡ n = omega arith in subst⁻¹ (λ i. (run i).end ≡ Going) e U.going

  -- its next step comes to o
  abbrev pub Comes : ℕ → Outcome → Type 0
  Comes n o = run (suc n) ≡ counted (run n) (settled (run n).state o)

  -- where that goes on, it stands again, and no register is newly coloured
  pub advance : (n : ℕ) → Stands n → (s : State) → Comes n (go s) → Onward m (behind n) s → Words s → (Stands (suc n)) × Sub (here (suc n)) (behind n)
  advance n U s q F Z = (
    record {
      going = ap (λ (x : Run). x.end) q;
      holds = subst⁻¹ (λ (x : Run). Words x.state) q Z;
      typed = subst⁻¹ (λ (x : Run). Typed m x.state) q (F Z).0;
      lasts = lasts_more n U;
    },
    subst⁻¹ (λ (x : Run). Sub (static m x.state.green).notes (behind n)) q (F Z).1,
  )

  -- it has ended, and not in a report
  abbrev Rests : ℕ → Type 0
  Rests n = (going? (run n).end ≡ false) × (IsReport (run n).end → ⊥)

  rests : (n : ℕ) → Stands n → (o : Outcome) → Fine (Onward m (behind n)) o → Goes Words o → Comes n o → (Stands (suc n)) ⊎ (Rests (suc n))
  rests n U (stop Going) F Z q = absurd F
  rests n U (stop Halted) F Z q =
      inr (ap (λ (x : Run). going? x.end) q, λ h. let k : 3 ≤ 1 = subst (λ (x : Run). 3 ≤ number x.end) q h.0 in omega arith)
  rests n U (stop NoSuchCell) F Z q =
      inr (ap (λ (x : Run). going? x.end) q, λ h. let k : 3 ≤ 2 = subst (λ (x : Run). 3 ≤ number x.end) q h.0 in omega arith)
  rests n U (stop (Reported r)) F Z q = absurd F
  rests n U (go s) F Z q = inl (advance n U s q F Z).0

module _ (L : Limits) (room : L.queue ≤ 16) (m : Module) (P : Passed L m) (w : ℕ → Bool) (cells : ℕ → ℕ) (words : AreCells cells) where
  pub stands_first : Stands m w cells 0
  stands_first = record { going = refl; holds = begin-words cells words; typed = begin_typed L m P cells; lasts = λ j l. absurd (not-suc-le-zero l) }

  -- the step that it makes where it stands
  pub stands_fine : (n : ℕ) → Stands m w cells n → Fine (Onward m (behind m w cells n)) (act w m.code (run m w cells n).state)
  stands_fine n U = act-fine L room m P w (run m w cells n).state U.holds U.typed

  pub stands_goes : (n : ℕ) → Stands m w cells n → Goes Words (act w m.code (run m w cells n).state)
  stands_goes n U = act-words w m.code P.words (run m w cells n).state U.holds

  pub stands_comes : (n : ℕ) → Stands m w cells n → Comes m w cells n (act w m.code (run m w cells n).state)
  stands_comes n U = step-going w m.code (run m w cells n) U.going

  stands_or_rests : (n : ℕ) → (Stands m w cells n) ⊎ (Rests m w cells n)
  stands_or_rests zero = inl stands_first
  stands_or_rests (suc n) = one (stands_or_rests n)
    where
      one : (Stands m w cells n) ⊎ (Rests m w cells n) → (Stands m w cells (suc n)) ⊎ (Rests m w cells (suc n))
      one (inl U) = rests m w cells n U (act w m.code (run m w cells n).state) (stands_fine n U) (stands_goes n U) (stands_comes n U)
      one (inr h) =
          let e = step_ended w m.code (run m w cells n) h.0 in
          inr (ap (λ (x : Run). going? x.end) e ∙ h.0, subst⁻¹ (λ (x : Run). IsReport x.end → ⊥) e h.1)

  pub never_reports : (n : ℕ) → IsReport (run m w cells n).end → ⊥
  never_reports n h = one (stands_or_rests n)
    where
      one : (Stands m w cells n) ⊎ (Rests m w cells n) → ⊥
      one (inl U) = let k : 3 ≤ 0 = subst (λ e. 3 ≤ number e) U.going h.0 in omega arith
      one (inr r) = r.1 h
