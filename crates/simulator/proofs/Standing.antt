-- What stands of a simulator after any list of calls.
use Rattle.std.proofs.Common.{◌≡◌, ℕ, zero, suc, ◌+◌, ◌≤◌, Bool, true, cond, ◌||◌, eqb, ltb, List, [], ◌∷◌, length, Some, None, Ok, Err, Option, sym, refl, ap, ◌∙◌, subst, subst₂, le_refl, arith}
use Rattle.std.proofs.Math.Numerals.{suc-eq-add-one}
use Rattle.std.proofs.lemmas.Option.{none-some}
use Rattle.std.proofs.lemmas.Bool.{false≢true, cond_both}
use Rattle.std.proofs.lemmas.List.{nil_from_length}
use mathlib.Core.Path.{subst⁻¹}
use Rattle.memory.specs.Cells.{Cells, replaced, stored}
use Rattle.isa.specs.declared.kinds.Kind.{Kind}
use Rattle.machine.specs.declared.ends.End.{End}
use Rattle.machine.specs.declared.ends.End.TheVariants.{Going, Halted, NoSuchCell, Reported}
use Rattle.machine.specs.Ends.{going?}
use Rattle.machine.specs.Machine as machine
use Rattle.machine.specs.Machine.{State, counted, settled, act, step, after, started}
use Rattle.checker.specs.Passing.{Judged}
use Rattle.rules.specs.Limits.{in_force}
use Rattle.rules.specs.Words.{module_of, Passes}
use Rattle.soundness.specs.Strikes as strikes
use Rattle.soundness.specs.Strikes.{Word as IsWord, Reached, begun, stepped, struck_at}
use Rattle.soundness.specs.Finding.{AreWords, AreCells, Outcomes}
use Rattle.soundness.proofs.Passed.{passes_passed}
use Rattle.soundness.proofs.Words.{reached_words}
use Rattle.soundness.proofs.Finding.{finding}
use Rattle.simulator.specs.declared.call.Reply.TheVariants.{Ran, Struck}
use Rattle.simulator.specs.declared.call.Call.{Call}
use Rattle.simulator.specs.declared.call.Call.TheVariants.{Load, Put, Run, Strike, Look, Probe, Show, Clear}
use Rattle.simulator.specs.declared.place.Place.{Place}
use Rattle.simulator.specs.declared.refusal.Refusal.{Refusal}
use Rattle.simulator.specs.declared.refusal.Refusal.TheVariants as refusal
use Rattle.simulator.specs.Calls.{Answered, puts, goes, runs, hit, strikes_place, strikes as striking, clears}
use Rattle.simulator.specs.Model.{Loaded, Model}
use Rattle.simulator.specs.Places.{place_of, latch, struck, Low}
use Rattle.simulator.specs.Replay.{Answer, Verdict, verdict, answered, load_words, respond, JudgedCall, Sized, Responds, Replays}
use Rattle.simulator.specs.Replay.Replays.{none, more}
use Rattle.simulator.specs.Since.{Since, nothing, at_load, at_run, at_strike, entered, since, RunFound, FoundIn, FoundAfter}
use Rattle.simulator.proofs.Striking.{placed, struck-is, cells-kept, LowIf, place-low}

-- what stands of a module that is loaded, over these cells
record Held (w : ℕ → Bool) (l : Since) (cells : Cells) (x : Loaded) : Type 0 where
  wide : AreWords l.words
  passes : Passes in_force l.words
  words : AreCells l.cells
  code : x.code ≡ (module_of l.words).code
  hits : List strikes.Strike
  count : length hits ≡ l.strikes
  reached : Reached w (module_of l.words).code l.cells hits x.run
  steps : x.run.steps ≡ l.steps
  looked : x.run.state.cells ≡ cells.word

abbrev Holds : (ℕ → Bool) → Since → Cells → Option Loaded → Type 0
Holds w l cells None = Unit {0}
Holds w l cells (Some x) = Held w l cells x

record Stands (w : ℕ → Bool) (l : Since) (t : Model) : Type 0 where
  same : t.cells.writable ≡ w
  words : AreCells t.cells.word
  held : Holds w l t.cells t.loaded

-- steps of a run that strikes may have hit
reached_after : {w : ℕ → Bool} {code : List Kind} {cells : ℕ → ℕ} {hits : List strikes.Strike} {x : machine.Run} → Reached w code cells hits x → (n : ℕ) → Reached w code cells hits (after w code x n)
reached_after r zero = r
reached_after r (suc n) = stepped (reached_after r n)

step_counts : (w : ℕ → Bool) (code : List Kind) (x : machine.Run) → x.steps ≤ (step w code x).steps
step_counts w code x =
    cond_both (going? x.end) (counted x (settled x.state (act w code x.state))) x (λ (y : machine.Run). x.steps ≤ y.steps) (λ _. omega arith) (λ _. le_refl _)

after_counts : (w : ℕ → Bool) (code : List Kind) (x : machine.Run) (n : ℕ) → x.steps ≤ (after w code x n).steps
after_counts w code x zero = le_refl _
after_counts w code x (suc n) = omega (arith, after_counts w code x n, step_counts w code (after w code x n))

is-going : (e : End) → going? e ≡ true → e ≡ Going
is-going Going h = refl
is-going Halted h = absurd (false≢true h)
is-going NoSuchCell h = absurd (false≢true h)
is-going (Reported r) h = absurd (false≢true h)

cells-words : (w : ℕ → Bool) (l : Since) (hits : List strikes.Strike) (x : machine.Run) → AreWords l.words → Passes in_force l.words → AreCells l.cells →
    Reached w (module_of l.words).code l.cells hits x → AreCells x.state.cells
cells-words w l hits x wide passes words r = (reached_words (passes_passed in_force l.words wide passes).words words r).cells

module _ (w : ℕ → Bool) (l : Since) (mine : Cells) (same : mine.writable ≡ w) (words : AreCells mine.word) where
  abbrev at : Option Loaded → Model
  at o = record { cells = mine; loaded = o }

  still : (o : Option Loaded) → Holds w l mine o → Stands w l (at o)
  still o h = record { same = same; words = words; held = h }

  load_stands : (v : Verdict) (ws : List ℕ) → AreWords ws → Judged ws v → (o : Option Loaded) → Holds w l mine o →
      Stands w (at_load ws mine.word l (load_words v ws (at o)).0) (load_words v ws (at o)).1
  load_stands (Err f) ws a j o h = still o h
  load_stands (Ok u) ws a j (Some x) h = still (Some x) h
  load_stands (Ok u) ws a j None h = record {
    same = same;
    words = words;
    held = record { wide = a; passes = j; words = words; code = refl; hits = []; count = refl; reached = begun; steps = refl; looked = refl };
  }

  -- a word stored leaves words
  stored_words : (a v : ℕ) → IsWord v → (b : Bool) → AreCells (cond b (replaced mine.word a v) mine.word)
  stored_words a v k b x h =
      cond_both b (replaced mine.word a v) mine.word (λ (f : ℕ → ℕ). IsWord (f x)) (λ _. cond_both (eqb x a) v (mine.word x) IsWord (λ _. k) (λ _. words x h)) (λ _. words x h)

  put_stands : (a v : ℕ) → IsWord v → (o : Option Loaded) → Holds w l mine o → Stands w l (puts a v (at o)).1
  put_stands a v k (Some x) h = still (Some x) h
  put_stands a v k None h =
      cond_both (mine.writable a) (Ok tt, record { cells = stored mine a v; loaded = None }) (Err refusal.NoSuchCell, at None) (λ (r : Answered (Unit {0})). Stands w l r.1)
      (λ _. record { same = same; words = stored_words a v k (mine.writable a); held = tt }) (λ _. still None tt)

  abbrev AfterRun : Answered (ℕ × End) → Type 0
  AfterRun r = Stands w (at_run l (answered (λ t. Ran t.0 t.1) r).0) r.1

  gone : (n : ℕ) (x : Loaded) → Held w l mine x → AfterRun (goes n (at (Some x)) x)
  gone n x h =
      let y : machine.Run = after mine.writable x.code x.run n in
      let r : Reached w (module_of l.words).code l.cells h.hits y =
      subst₂ (λ u c. Reached w (module_of l.words).code l.cells h.hits (after u c x.run n)) (sym same) (sym h.code) (reached_after h.reached n) in
      let rises : x.run.steps ≤ y.steps = after_counts mine.writable x.code x.run n in
      record {
        same = same;
        words = cells-words w l h.hits y h.wide h.passes h.words r;
        held = record {
          wide = h.wide;
          passes = h.passes;
          words = h.words;
          code = h.code;
          hits = h.hits;
          count = h.count;
          reached = r;
          steps = omega (arith, h.steps, rises);
          looked = refl;
        };
      }

  run_stands : (n : ℕ) (o : Option Loaded) → Holds w l mine o → AfterRun (runs n (at o))
  run_stands n None h = still None tt
  run_stands n (Some x) h =
      let s : Model = at (Some x) in
      let no : (e : Refusal) → AfterRun (Err e, s) = λ e. still (Some x) h in
      let far : Answered (ℕ × End) = cond (ltb 1000000000 (x.run.steps + n)) (Err refusal.TooManySteps, s) (goes n s x) in
      let near : Answered (ℕ × End) = cond (eqb n 0 || ltb 1000000 n) (Err refusal.BadCount, s) far in
      cond_both (going? x.run.end) near (Err refusal.NotUnderWay, s) AfterRun
      (λ _. cond_both (eqb n 0 || ltb 1000000 n) (Err refusal.BadCount, s) far AfterRun (λ _. no refusal.BadCount)
      (λ _. cond_both (ltb 1000000000 (x.run.steps + n)) (Err refusal.TooManySteps, s) (goes n s x) AfterRun (λ _. no refusal.TooManySteps) (λ _. gone n x h)))
      (λ _. no refusal.NotUnderWay)

  abbrev AfterStrike : Answered ℕ → Type 0
  AfterStrike r = Stands w (at_strike l (answered Struck r).0) r.1

  hit_stands : (p : Place) (v : ℕ) (x : Loaded) → IsWord v → Low p → x.run.end ≡ Going → Held w l mine x → (o : Option ℕ) → latch p x.run.state ≡ o → AfterStrike (hit p v (at (Some x)) x o)
  hit_stands p v x k low g h None e = still (Some x) h
  hit_stands p v x k low g h (Some old) e =
      let f = struck-is p v old x.run.state low e in
      let now : strikes.Strike = record { steps = x.run.steps; place = placed p } in
      let with-state : State → machine.Run = λ s. record { state = s; end = x.run.end; steps = x.run.steps } in
      let r : Reached w (module_of l.words).code l.cells (now ∷ h.hits) (with-state (struck p v x.run.state)) =
      subst⁻¹ (λ (s : State). Reached w (module_of l.words).code l.cells (now ∷ h.hits) (with-state s)) f.1 (strikes.struck h.reached g (placed p) v f.0 k) in
      record {
        same = same;
        words = words;
        held = record {
          wide = h.wide;
          passes = h.passes;
          words = h.words;
          code = h.code;
          hits = now ∷ h.hits;
          count = ap suc h.count ∙ suc-eq-add-one l.strikes;
          reached = r;
          steps = h.steps;
          looked = cells-kept p v x.run.state ∙ h.looked;
        };
      }

  place_stands : (v : ℕ) (x : Loaded) → IsWord v → x.run.end ≡ Going → Held w l mine x → (p : Option Place) → LowIf p → AfterStrike (strikes_place v (at (Some x)) x p)
  place_stands v x k g h None low = still (Some x) h
  place_stands v x k g h (Some p) low = hit_stands p v x k low g h (latch p x.run.state) refl

  strike_stands : (n v : ℕ) → IsWord v → (o : Option Loaded) → Holds w l mine o → AfterStrike (striking n v (at o))
  strike_stands n v k None h = still None tt
  strike_stands n v k (Some x) h =
      cond_both (going? x.run.end) (strikes_place v (at (Some x)) x (place_of n)) (Err refusal.NotUnderWay, at (Some x)) AfterStrike
      (λ e. place_stands v x k (is-going x.run.end e) h (place_of n) (place-low n)) (λ _. still (Some x) h)

  clear_stands : (o : Option Loaded) → Holds w l mine o → Stands w l (clears (at o)).1
  clear_stands None h = still None tt
  clear_stands (Some x) h = still None tt

one_call : (w : ℕ → Bool) (l : Since) (v : Verdict) (c : Call) (s : Model) → Sized c → JudgedCall c v → Stands w l s → Stands w (entered l s c (respond v c s).0) (respond v c s).1
one_call w l v (Load ws) s z j h = load_stands w l s.cells h.same h.words v ws.now z j s.loaded h.held
one_call w l v (Put a x) s z j h = put_stands w l s.cells h.same h.words a x z s.loaded h.held
one_call w l v (Run n) s z j h = run_stands w l s.cells h.same h.words n s.loaded h.held
one_call w l v (Strike p x) s z j h = strike_stands w l s.cells h.same h.words p x z s.loaded h.held
one_call w l v (Look a) s z j h = h
one_call w l v (Probe p) s z j h = h
one_call w l v Show s z j h = h
one_call w l v Clear s z j h = clear_stands w l s.cells h.same h.words s.loaded h.held

one_more : {w : ℕ → Bool} {l : Since} {c : Call} {s m : Model} {a : Answer} → Stands w l s → Responds c s a m → Stands w (entered l s c a) m
one_more {w} {l} {c} {s} {m} {a} h r =
    subst₂ (λ b u. Stands w (entered l s c b) u) (sym r.answer) (sym r.after) (one_call w l (verdict a) c s r.sized r.judged h)

stands_on : {w : ℕ → Bool} {s t : Model} {cs : List Call} {answers : List Answer} (l : Since) → Stands w l s → Replays s cs answers t → Stands w (since l s cs answers) t
stands_on l h none = h
stands_on {w} {t = t} l h (more {s = s} {m = m} {c = c} {a = a} {cs = cs} {rest = rest} r rs) =
    subst (λ (u : Model). Stands w (since (entered l s c a) u cs rest) t) r.after (stands_on (entered l s c a) (one_more h r) rs)

-- what stands is found, by the theorem on strikes
found_run : (w : ℕ → Bool) (l : Since) (t : Model) (x : Loaded) → Held w l t.cells x → RunFound w l t x
found_run w l t x h =
    let o : Outcomes w (module_of l.words) l.cells h.hits x.run = finding in_force (le_refl 16) l.words h.wide h.passes w l.cells h.words h.hits x.run h.reached in
    record {
      code = h.code;
      looked = h.looked;
      steps = h.steps;
      calm = λ z. o.calm (nil_from_length h.hits (h.count ∙ z));
      single = λ z. o.single (subst⁻¹ (λ n. n ≤ 1) h.count z);
    }

found_in : (w : ℕ → Bool) (l : Since) (t : Model) (o : Option Loaded) → Holds w l t.cells o → FoundIn w l t o
found_in w l t None h = tt
found_in w l t (Some x) h = found_run w l t x h

idle_held : (w : ℕ → Bool) (l : Since) (cells : Cells) (o : Option Loaded) → o ≡ None → Holds w l cells o
idle_held w l cells None e = tt
idle_held w l cells (Some x) e = absurd (none-some x (sym e))

pub found_after : {s t : Model} {cs : List Call} {answers : List Answer} → Replays s cs answers t → FoundAfter s cs answers t
found_after {s} {t} {cs} {answers} r idle words =
    let w : ℕ → Bool = s.cells.writable in
    let first : Stands w nothing s = record { same = refl; words = words; held = idle_held w nothing s.cells s.loaded idle } in
    found_in w (since nothing s cs answers) t t.loaded (stands_on nothing first r).held
