-- The run of a plan's code, from its start to its end and beyond.
use Rattle.std.proofs.Common.{◌≡◌, ℕ, zero, suc, ◌+◌, ◌-◌, ◌<◌, ◌≤◌, Bool, true, false, cond, eqb, List, [], ◌++◌, sym, refl, ap, ◌∙◌, subst, arith}
use native.Mathlib.Decide.{dec_lt}
use Rattle.std.proofs.lemmas.List.{length-map}
use Rattle.std.proofs.lemmas.Bool.{true≢false}
use Rattle.rules.specs.Notes.{Kind, upd}
use Rattle.rules.specs.Module.{size}
use Rattle.machine.specs.declared.ends.End.{End}
use Rattle.machine.specs.declared.ends.End.TheVariants.{Going, Halted, NoSuchCell, Reported}
use Rattle.machine.specs.Ends.{number, going?}
use Rattle.machine.specs.Machine.{Run, after, leaving, made, started}
use Rattle.machine.proofs.Runs.{stays, further}
use Rattle.language.specs.Plans.{Plan}
use Rattle.language.specs.Meaning.{Result, fine, stuck, book_of, ending, meaning, outcome, blank}
use Rattle.language.specs.Limits.{in_force, Within}
use Rattle.translation.specs.Code.{num, set, Entry, inside}
use Rattle.translation.specs.Compile.{past, compiled}
use Rattle.translation.specs.Steps.{taken, lasting}
use Rattle.translation.specs.Runs.{pair_of, runs, last, Ran, CodeRuns}
use Rattle.translation.proofs.Values.{Word}
use Rattle.translation.proofs.Placing.{Line}
use Rattle.translation.proofs.Standing.{standing}
use Rattle.translation.proofs.Doubled.{none_left, Reach, Ends, begins, run_set, run_halt}
use Rattle.translation.proofs.Running.{pairs, Done, run_plan}

going-is : (e : End) → going? e ≡ true → e ≡ Going
going-is Going h = refl
going-is Halted h = absurd (true≢false (sym h))
going-is NoSuchCell h = absurd (true≢false (sym h))
going-is (Reported r) h = absurd (true≢false (sym h))

module _ (w : ℕ → Bool) (code : List Kind) (x : Run) where
  -- a run that has ended by then is the same later
  ended_stays : (n k : ℕ) → going? (after w code x n).end ≡ false → n ≤ k → after w code x k ≡ after w code x n
  ended_stays n k h l =
      let z : k ≡ n + (k - n) = omega arith in
      ap (after w code x) z ∙ sym (further w code x n (k - n)) ∙ stays w code (after w code x n) h (k - n)

  -- a run that goes on went on before
  going_before : (n k : ℕ) → (after w code x n).end ≡ Going → k ≤ n → (after w code x k).end ≡ Going
  going_before n k h l = one (going? (after w code x k).end) refl
    where
      one : (b : Bool) → going? (after w code x k).end ≡ b → (after w code x k).end ≡ Going
      one true g = going-is (after w code x k).end g
      one false g = ap (λ (r : Run). r.end) (sym (ended_stays k n g l)) ∙ h

  -- and makes no store more once it has ended
  made_stays : (n k : ℕ) → going? (after w code x n).end ≡ false → n ≤ k → made w code x k ≡ made w code x n
  made_stays n zero h l = let z : zero ≡ n = omega arith in ap (made w code x) z
  made_stays n (suc k) h l = one (dec_lt k n) λ y. made_stays n k h y
    where
      one : Dec (k < n) → (n ≤ k → made w code x k ≡ made w code x n) → made w code x (suc k) ≡ made w code x n
      one (yes y) earlier = let z : suc k ≡ n = omega arith in ap (made w code x) z
      one (no y) earlier =
          (λ j. earlier (omega arith) j ++ leaving (ended_stays n k h (omega arith) j).state (ended_stays n (suc k) h l j).state)
          ∙ none_left (made w code x n) (after w code x n).state (after w code x n).state refl

-- how the run of a plan ends
abbrev end_of : Result → End
end_of (fine s) = Halted
end_of (stuck s) = NoSuchCell

end-number : (d : Result) → number (end_of d) ≡ ending d
end-number (fine s) = refl
end-number (stuck s) = refl

end_low : (d : Result) → number (end_of d) < 3
end_low (fine s) = omega arith
end_low (stuck s) = omega arith

end-over : (d : Result) → going? (end_of d) ≡ false
end-over (fine s) = refl
end-over (stuck s) = refl

zero_upd : (a : ℕ) → upd {A = ℕ} (λ i. 0) a 0 ≡ λ i. 0
zero_upd a j i = one (eqb i a) j
  where
    one : (b : Bool) → ◌≡◌ {A = ℕ} (cond b 0 0) 0
    one true = refl
    one false = refl

module _ (w : ℕ → Bool) (P : Plan) (cells : ℕ → ℕ) (ok : Within in_force P) where
  short : Word (size (compiled P))
  short = omega (arith, (standing P).size_is, ok.small)

  concluded : (d : Result) (n : ℕ) (R : ℕ → ℕ) → Done w (compiled P) cells short d n (past P 6) 6 R →
      Ends w (compiled P) cells (lasting d n) (end_of d) (book_of d).cells (pairs (book_of d))
  concluded (fine s) n R D = run_halt w (compiled P) cells D.1 (standing P).end.1 (standing P).end.2
  concluded (stuck s) n R D = D

  -- the six variables are set to 0, and then comes the plan
  whole_run : ((a : ℕ) → Word a → Word (cells a)) → Ends w (compiled P) cells (last w P cells) (end_of (outcome w P cells)) (book_of (outcome w P cells)).cells (pairs (book_of (outcome w P cells)))
  whole_run words =
      let m = compiled P in
      let S = standing P in
      let next : (n a p : ℕ) (x : Entry) → Reach w m cells n (λ i. 0) p cells [] → Line m p x (set a (num 0)) → Reach w m cells (suc n) (λ i. 0) (suc p) cells [] =
      λ n a p x r L. subst (λ R. Reach w m cells (suc n) R (suc p) cells []) (zero_upd a) (run_set w m cells r L (omega arith)) in
      let r = next 5 5 5 _ (next 4 4 4 _ (next 3 3 3 _ (next 2 2 2 _ (next 1 1 1 _ (next 0 0 0 _ (begins w m cells words) S.zeros.0) S.zeros.1) S.zeros.2) S.zeros.3) S.zeros.4) S.zeros.5 in
      concluded (meaning w P (blank cells)) (taken w P (blank cells) 6) (λ i. 0)
      (run_plan w m cells short P 6 6 inside (omega arith) (omega (arith, ok.shallow)) ok.proper S.plan (blank cells) 6 (λ i. 0) r λ i _. refl)

  ran : ((a : ℕ) → Word a → Word (cells a)) → Ran w P cells
  ran words =
      let E = whole_run words in
      let d = outcome w P cells in
      let e : (runs w P cells (last w P cells)).end ≡ end_of d = ap (λ (r : Run). r.end) E.ended in
      let over : going? (runs w P cells (last w P cells)).end ≡ false = ap going? e ∙ end-over d in
      let before : (k : ℕ) → k < last w P cells → (runs w P cells k).end ≡ Going =
      λ k h. going_before w (compiled P).code (started cells) E.last k (ap (λ (r : Run). r.end) E.going_then) (omega (arith, E.last_is)) in
      let later : (k : ℕ) → last w P cells ≤ k → runs w P cells k ≡ runs w P cells (last w P cells) =
      λ k h. ended_stays w (compiled P).code (started cells) (last w P cells) k over h in
      record {
        going = before;
        ends = ap number e ∙ end-number d;
        stores = E.made_then;
        count = ap (λ (r : Run). r.state.stores) E.ended ∙ E.count_then ∙ length-map (book_of d).made pair_of;
        leaves = ap (λ (r : Run). r.state.cells) E.ended ∙ E.cells_then;
        stays = λ k h. (later k h, made_stays w (compiled P).code (started cells) (last w P cells) k over h);
        quiet = λ k. quiet_at k before later e (dec_lt k (last w P cells));
      }
    where
      quiet_at : (k : ℕ) → ((k : ℕ) → k < last w P cells → (runs w P cells k).end ≡ Going) → ((k : ℕ) → last w P cells ≤ k → runs w P cells k ≡ runs w P cells (last w P cells)) →
          (runs w P cells (last w P cells)).end ≡ end_of (outcome w P cells) → Dec (k < last w P cells) → number (runs w P cells k).end < 3
      quiet_at k before later e (yes h) = omega (arith, ap number (before k h))
      quiet_at k before later e (no h) = omega (arith, ap (λ (r : Run). number r.end) (later k (omega arith)), ap number e, end_low (outcome w P cells))

pub code_runs : CodeRuns
code_runs P ok w cells words = ran w P cells ok words
