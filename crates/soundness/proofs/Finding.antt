-- Strikes of one colour leave a run as it would be, or end it by a report.
use Rattle.std.proofs.Common.{◌≡◌, ℕ, zero, suc, ◌<◌, ◌≤◌, Bool, false, List, [], ◌∷◌, length, Some, None, Option, sym, refl, ap, ◌∙◌, subst, inl, inr, le_of_suc-le-suc, not-suc-le-zero, zero-add, arith, lit≤, length-append}
use mathlib.Core.Path.{subst⁻¹}
use Rattle.std.proofs.lemmas.List.{take_at}
use Rattle.std.proofs.lemmas.Bool.{false≢true}
use Rattle.machine.specs.declared.queue.Pair.{Pair}
use Rattle.machine.specs.declared.ends.Report.{Report}
use Rattle.machine.specs.declared.ends.Report.TheVariants.{CountersDiffer, StoreDiffers, Destination, Queue, Outside}
use Rattle.machine.specs.declared.ends.End.{End}
use Rattle.machine.specs.declared.ends.End.TheVariants.{Going, Halted, NoSuchCell, Reported}
use Rattle.machine.specs.Ends.{going?}
use Rattle.machine.specs.Pairs.{overlay}
use Rattle.machine.specs.Machine.{Outcome, stop, go, act, settled, Run, counted, step, after, leaving, begin, started}
use Rattle.machine.proofs.Accounts.{lawful}
use Rattle.rules.specs.Limits.{Limits}
use Rattle.rules.specs.Notes.{Colour, green, Kind}
use Rattle.rules.specs.Module.{Module, size, instr, static}
use Rattle.rules.specs.Words.{module_of}
use Rattle.soundness.specs.Strikes.{Place, struck_at, Strike, Reached, begun, stepped, struck}
use Rattle.soundness.specs.Finding.{stores, IsReport, Undisturbed, Caught, Found, strike_colour, Of, AllOf, AreCells, Outcomes, Finding}
use Rattle.rules.proofs.Relations.{rule_is}
use Rattle.soundness.proofs.Passed.{Passed, passes_passed}
use Rattle.soundness.proofs.Outcomes.{Goes, Fine, fine-quiet, Follow}
use Rattle.soundness.proofs.Words.{Words, reached_words}
use Rattle.soundness.proofs.Typed.{Onward}
use Rattle.soundness.proofs.Agree.{Agree, act_follow}
use Rattle.soundness.proofs.Struck.{other, agree_same, agree_less, strike_agree}
use Rattle.soundness.proofs.Unstruck.{step-going, step_ended, run, here, behind, Stands, lasts_more, Comes, advance, stands_first, stands_fine, stands_goes, stands_comes, never_reports}

report_number : (r : Report) → IsReport (Reported r)
report_number CountersDiffer = (lit≤ tt, lit≤ tt)
report_number StoreDiffers = (lit≤ tt, lit≤ tt)
report_number Destination = (lit≤ tt, lit≤ tt)
report_number Queue = (lit≤ tt, lit≤ tt)
report_number Outside = (lit≤ tt, lit≤ tt)

module _ (m : Module) (w : ℕ → Bool) (cells : ℕ → ℕ) (k : Colour) where
  -- the run x, struck in colour k, is in agreement with the unstruck one after as many steps
  abbrev Agrees : Run → Type 0
  Agrees x = Agree (other k) (here m w cells x.steps) (run m w cells x.steps).state x.state

  -- it goes on beside it, or has ended as is found
  data Beside (x : Run) : Type 0 where
    along : x.end ≡ Going → Stands m w cells x.steps → Agrees x → Beside x
    ended : going? x.end ≡ false → Found w m.code cells x → Beside x

  -- both have ended alike
  alike : (x : Run) → Stands m w cells x.steps → Agrees x → (e : End) → Comes m w cells x.steps (stop e) → Undisturbed w m.code cells (counted x (e, x.state))
  alike x U A e q = record {
    lasts = lasts_more m w cells x.steps U;
    same_cells = sym (ap (λ (y : Run). y.state.cells) q ∙ A.cells);
    same_stores = sym (ap (λ (y : Run). y.state.stores) q ∙ A.stores);
    same_end = sym (ap (λ (y : Run). y.end) q);
  }

  -- the struck run has reported: its stores are those that the unstruck one had made before this step
  reported : (x : Run) → Stands m w cells x.steps → Agrees x → (r : Report) → Caught w m.code cells (counted x (Reported r, x.state))
  reported x U A r =
      let old : List Pair = stores w m.code cells x.steps in
      let new : List Pair = leaving (run m w cells x.steps).state (run m w cells (suc x.steps)).state in
      let h = (lawful w m.code (started cells)).accounts x.steps in
      let e : length old ≡ x.state.stores = sym (zero-add (length old)) ∙ sym h.number ∙ A.stores in
      record {
        lasts = lasts_more m w cells x.steps U;
        a_report = report_number r;
        few_stores = simp length-append (omega arith);
        cells_then = sym A.cells ∙ h.cells ∙ ap (λ l. overlay l cells) (sym (take_at old new x.state.stores e));
      }

  -- the unstruck step comes to o, the struck one to p
  both_step : (x : Run) → Stands m w cells x.steps → Agrees x → (o p : Outcome) → Fine (Onward m (behind m w cells x.steps)) o → Goes Words o → Comes m w cells x.steps o →
      Follow (Agree (other k) (behind m w cells x.steps)) o p → Beside (counted x (settled x.state p))
  both_step x U A o (stop Going) F Z q B = absurd B
  both_step x U A o (stop Halted) F Z q B = ended refl (inl (alike x U A Halted (subst (Comes m w cells x.steps) B q)))
  both_step x U A o (stop NoSuchCell) F Z q B = ended refl (inl (alike x U A NoSuchCell (subst (Comes m w cells x.steps) B q)))
  both_step x U A o (stop (Reported r)) F Z q B = ended refl (inr (reported x U A r))
  both_step x U A (stop e) (go f) F Z q B = absurd B
  both_step x U A (go u) (go f) F Z q B =
      let V = advance m w cells x.steps U u q F Z in
      let C = subst⁻¹ (λ (y : Run). Agree (other k) (behind m w cells x.steps) y.state f) q B in
      along refl V.0 (agree_less (other k) (behind m w cells x.steps) _ _ f V.1 C)

  strike-beside : (x : Run) (p : Place) (v : ℕ) → x.end ≡ Going → Of k (strike_colour w m cells (record { steps = x.steps; place = p })) → Beside x → Beside (struck_at p v x)
  strike-beside x p v g o (along h U A) = along h U (strike_agree k _ _ x.state A p v o)
  strike-beside x p v g o (ended e F) = absurd (false≢true (sym e ∙ ap going? g))

  beside_found : (x : Run) → Beside x → Found w m.code cells x
  beside_found x (along g U A) = inl (record { lasts = U.lasts; same_cells = sym A.cells; same_stores = sym A.stores; same_end = g ∙ sym U.going })
  beside_found x (ended e F) = F

-- one strike has one colour, or none
colour_of : (c : Option Colour) → (k : Colour) × Of k c
colour_of None = (green, tt)
colour_of (Some k) = (k, refl)

abbrev NotNone : List Strike → Type 0
NotNone [] = ⊥
NotNone (s ∷ l) = Unit {0}

module _ (L : Limits) (room : L.queue ≤ 16) (m : Module) (P : Passed L m) (w : ℕ → Bool) (cells : ℕ → ℕ) (words : AreCells cells) where
  step_beside : (k : Colour) (x : Run) → Beside m w cells k x → Beside m w cells k (step w m.code x)
  step_beside k x (ended e F) = subst⁻¹ (Beside m w cells k) (step_ended w m.code x e) (ended e F)
  step_beside k x (along g U A) =
      let n : ℕ = x.steps in
      let o : Outcome = act w m.code (run m w cells n).state in
      let fine = stands_fine L room m P w cells words n U in
      let rules = λ (p : ℕ) (l : p < size m). rule_is L m p (instr m p) (static m p) (P.kept p l) in
      let B = act_follow L m rules w (other k) (run m w cells n).state x.state A (fine-quiet (Onward m (behind m w cells n)) o fine) in
      subst⁻¹ (Beside m w cells k) (step-going w m.code x g)
      (both_step m w cells k x U A o (act w m.code x.state) fine (stands_goes L room m P w cells words n U) (stands_comes L room m P w cells words n U) B)

  beside : (k : Colour) {l : List Strike} {x : Run} → Reached w m.code cells l x → AllOf k (strike_colour w m cells) l → Beside m w cells k x
  beside k begun a = along refl (stands_first L room m P w cells words) (agree_same (other k) _ (begin cells))
  beside k (stepped {x = x} r) a = step_beside k x (beside k r a)
  beside k (struck {x = x} r g p v t q) a = strike-beside m w cells k x p v g a.0 (beside k r a.1)

  -- any number of strikes of one colour
  one_colour : (k : Colour) (l : List Strike) (x : Run) → Reached w m.code cells l x → AllOf k (strike_colour w m cells) l → Found w m.code cells x
  one_colour k l x r a = beside_found m w cells k x (beside k r a)

  -- one strike, which has one colour
  single : (l : List Strike) (x : Run) → Reached w m.code cells l x → length l ≤ 1 → Found w m.code cells x
  single [] x r h = one_colour green [] x r tt
  single (s ∷ []) x r h = let k = colour_of (strike_colour w m cells s) in one_colour k.0 (s ∷ []) x r (k.1, tt)
  single (s ∷ (s' ∷ l)) x r h = absurd (not-suc-le-zero (le_of_suc-le-suc h))

  -- without a strike a run is the unstruck one
  unstruck_is : {l : List Strike} {x : Run} → Reached w m.code cells l x → l ≡ [] → (n : ℕ) × (x ≡ run m w cells n)
  unstruck_is begun e = (0, refl)
  unstruck_is (stepped r) e = let h = unstruck_is r e in (suc h.0, ap (step w m.code) h.1)
  unstruck_is (struck r g p v t q) e = absurd (subst NotNone e tt)

  calm : (l : List Strike) (x : Run) → Reached w m.code cells l x → l ≡ [] → (Undisturbed w m.code cells x) × (IsReport x.end → ⊥)
  calm l x r e = (one (one_colour green l x r (subst⁻¹ (AllOf green (strike_colour w m cells)) e tt)), quiet)
    where
      quiet : IsReport x.end → ⊥
      quiet h = let u = unstruck_is r e in never_reports L room m P w cells words u.0 (subst (λ (y : Run). IsReport y.end) u.1 h)

      one : Found w m.code cells x → Undisturbed w m.code cells x
      one (inl a) = a
      one (inr b) = absurd (quiet b.a_report)

  pub outcomes : (l : List Strike) (x : Run) → Reached w m.code cells l x → Outcomes w m cells l x
  outcomes l x r = record {
    calm = calm l x r;
    single = single l x r;
    one_colour = λ k. one_colour k l x r;
    restartable = (reached_words P.words words r).cells;
  }

-- many steps of a run
pub reached_after : {w : ℕ → Bool} {code : List Kind} {cells : ℕ → ℕ} {l : List Strike} {x : Run} (n : ℕ) → Reached w code cells l x → Reached w code cells l (after w code x n)
reached_after zero r = r
reached_after (suc n) r = stepped (reached_after n r)

pub finding : Finding 16
finding L room ws wide H w cells words l x r = outcomes L room (module_of ws) (passes_passed L ws wide H) w cells words l x r
