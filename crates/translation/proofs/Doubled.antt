-- Doubled code runs as its single copy does, two steps for one.
use Rattle.std.proofs.Common.{◌≡◌, ℕ, suc, ◌-◌, ◌<◌, Bool, true, false, cond, not, ◌&&◌, eqb, List, [], ◌∷◌, ◌++◌, length, take, sym, refl, ap, ◌∙◌, subst, arith, length-append}
use Rattle.std.specs.Cmp.Derive.{both_true}
use lib.Dec.{eqb-suc-zero}
use Rattle.std.proofs.lemmas.Bool.{lt-ltb}
use Rattle.std.proofs.lemmas.List.{append-nil}
use Rattle.isa.specs.Words.{alu}
use Rattle.rules.specs.Notes.{Colour, green, blue, Kind, halt, upd}
use Rattle.rules.specs.Module.{Module, size, instr}
use Rattle.machine.specs.declared.queue.Pair.{Pair}
use Rattle.machine.specs.declared.ends.End.{End}
use Rattle.machine.specs.declared.ends.End.TheVariants.{Going, Halted, NoSuchCell}
use Rattle.machine.specs.declared.ends.Report.TheVariants.{CountersDiffer, StoreDiffers, Destination, Outside}
use Rattle.machine.specs.Machine.{State, Outcome, stop, go, need, zero?, at, aim, land, exec, settled, Run, counted, step, after, leaving, made, started}
use Rattle.translation.specs.Code.{Source, num, copy, calc, fetch, Single, set, store, jump, branch, twice, place, dye}
use Rattle.translation.proofs.Twins.{eqb_same, spread, spread_at, upd_twin, upd_green}
use Rattle.translation.proofs.Values.{Word, get, WordIn, get_word, upd-word}
use Rattle.translation.proofs.Placing.{Line}

-- a state with both counters at q, the destination d and the queue u
abbrev pub state : (ℕ → ℕ) → ℕ → ℕ → List Pair → (ℕ → ℕ) → ℕ → State
state f q d u cs n = record { regs = f; green = q; blue = q; destination = d; queue = u; cells = cs; stores = n }

abbrev pub same : Colour → ℕ → ℕ
same c x = x

-- twin i holds R i, the next line is p, the stores made are l
abbrev pub both : (ℕ → ℕ) → ℕ → (ℕ → ℕ) → List Pair → State
both R p cs l = state (spread same R) (twice p) 0 [] cs (length l)

-- a run that goes on, after k steps
abbrev pub going : State → ℕ → Run
going s k = record { state = s; end = Going; steps = k }

abbrev pub pair : ℕ → ℕ → Pair
pair a v = record { address = a; word = v }

-- no store leaves
pub none_left : (l : List Pair) (s t : State) → s.stores ≡ t.stores → l ++ leaving s t ≡ l
none_left l s t e =
    let z : t.stores - s.stores ≡ 0 = omega arith in
    ap (λ n. l ++ take n s.queue) z ∙ append-nil l

module _ (w : ℕ → Bool) (m : Module) where
  step_at : (s : State) (k : ℕ) (i : Kind) → eqb s.green s.blue ≡ true → s.green < size m → instr m s.green ≡ i →
      step w m.code (going s k) ≡ counted (going s k) (settled s (exec w i s))
  step_at s k i e l h j =
      counted (going s k) (settled s (need (e j) CountersDiffer (need (lt-ltb s.green (size m) l j) Outside (exec w (h j) s))))

  -- one colour's half of a setting, the registers of that colour holding R
  set_step : (c : Colour) (a : ℕ) (x : Source) (f : ℕ → ℕ) (q k : ℕ) (cs : ℕ → ℕ) (n : ℕ) (R : ℕ → ℕ) → ((j : ℕ) → f (place c j) ≡ R j) → q < size m → instr m q ≡ dye c (set a x) →
      step w m.code (going (state f q 0 [] cs n) k) ≡ going (state (upd f (place c a) (get x R cs)) (suc q) 0 [] cs n) (suc k)
  set_step c a x f q k cs n R h l e =
      step_at (state f q 0 [] cs n) k _ (eqb_same q) l e ∙ ap (λ o. counted (going (state f q 0 [] cs n) k) (settled (state f q 0 [] cs n) o)) (one c x h)
    where
      one : (c : Colour) (x : Source) → ((j : ℕ) → f (place c j) ≡ R j) →
          exec w (dye c (set a x)) (state f q 0 [] cs n) ≡ go (state (upd f (place c a) (get x R cs)) (suc q) 0 [] cs n)
      one c (num k) h = refl
      one c (copy b) h = λ j. go (state (upd f (place c a) (h b j)) (suc q) 0 [] cs n)
      one c (calc o b d) h = λ j. go (state (upd f (place c a) (alu o (h b j) (h d j))) (suc q) 0 [] cs n)
      one green (fetch b) h = λ j. go (state (upd f (place green a) (cs (h b j))) (suc q) 0 [] cs n)
      one blue (fetch b) h = λ j. go (state (upd f (place blue a) (cs (h b j))) (suc q) 0 [] cs n)

  module _ (c₀ : ℕ → ℕ) where
    -- after k steps the run is at s and has made the stores l
    record Raw (k : ℕ) (s : State) (l : List Pair) : Type 0 where
      at_k : after w m.code (started c₀) k ≡ going s k
      made_k : made w m.code (started c₀) k ≡ l

    -- a step after which the run is x
    made_next : {k : ℕ} {s : State} {l : List Pair} (x : Run) → Raw k s l → step w m.code (going s k) ≡ x →
        (after w m.code (started c₀) (suc k) ≡ x) × (made w m.code (started c₀) (suc k) ≡ l ++ leaving s x.state)
    made_next x r h =
        let u = ap (step w m.code) r.at_k ∙ h in
        (u, λ j. r.made_k j ++ leaving (r.at_k j).state (u j).state)

    raw_step : {k : ℕ} {s : State} {l : List Pair} (t : State) → Raw k s l → step w m.code (going s k) ≡ going t (suc k) → s.stores ≡ t.stores → Raw (suc k) t l
    raw_step {k} {s} {l} t r h e =
        let n = made_next (going t (suc k)) r h in
        record { at_k = n.0; made_k = n.1 ∙ none_left l s t e }

    -- after n lines
    pub record Reach (n : ℕ) (R : ℕ → ℕ) (p : ℕ) (cs : ℕ → ℕ) (l : List Pair) : Type 0 where
      raw : Raw (twice n) (both R p cs l) l
      pub regs : (i : ℕ) → Word (R i)
      pub cells : (a : ℕ) → Word a → Word (cs a)

    -- the run goes on for one step less than k, and then ends
    pub record Ends (k : ℕ) (e : End) (cs : ℕ → ℕ) (l : List Pair) : Type 0 where
      pub final : State
      pub last : ℕ
      pub last_is : k ≡ suc last
      pub going_then : after w m.code (started c₀) last ≡ going final last
      pub ended : after w m.code (started c₀) k ≡ record { state = final; end = e; steps = k }
      pub cells_then : final.cells ≡ cs
      pub count_then : final.stores ≡ length l
      pub made_then : made w m.code (started c₀) k ≡ l

    raw-end : {k : ℕ} {s : State} {l : List Pair} (e : End) → Raw k s l → step w m.code (going s k) ≡ record { state = s; end = e; steps = suc k } → s.stores ≡ length l →
        Ends (suc k) e s.cells l
    raw-end {k} {s} {l} e r h c =
        let n = made_next (record { state = s; end = e; steps = suc k }) r h in
        record { final = s; last = k; last_is = refl; going_then = r.at_k; ended = n.0; cells_then = refl; count_then = c; made_then = n.1 ∙ none_left l s s refl }

    pub begins : ((a : ℕ) → Word a → Word (c₀ a)) → Reach 0 (λ i. 0) 0 c₀ []
    begins h = record { raw = record { at_k = refl; made_k = refl }; regs = λ i. omega arith; cells = h }

    module _ {n : ℕ} {R : ℕ → ℕ} {p : ℕ} {cs : ℕ → ℕ} {l : List Pair} (r : Reach n R p cs l) where
      pub run_set : {x : _} {a : ℕ} {s : Source} → Line m p x (set a s) → WordIn s → Reach (suc n) (upd R a (get s R cs)) (suc p) cs l
      run_set {a = a} {s = s} L k =
          let v = get s R cs in
          let f = spread same R in
          let r₁ = raw_step (state (upd f (place green a) v) (suc (twice p)) 0 [] cs (length l)) r.raw
          (set_step green a s f (twice p) (twice n) cs (length l) R (λ j. spread_at same R green j) (omega (arith, L.room)) L.first) refl in
          let r₂ = raw_step (state (upd (upd f (place green a) v) (place blue a) v) (suc (suc (twice p))) 0 [] cs (length l)) r₁
          (set_step blue a s (upd f (place green a) v) (suc (twice p)) (suc (twice n)) cs (length l) R (λ j. upd_green same R a v j) (omega (arith, L.room)) L.second) refl in
          record {
            raw = subst (λ h. Raw (twice (suc n)) (state h (twice (suc p)) 0 [] cs (length l)) l) (upd_twin same R a v) r₂;
            regs = λ i. upd-word R a v i (r.regs i) (get_word s R cs k r.regs r.cells);
            cells = r.cells;
          }

      green_is : (a : ℕ) → spread same R (twice a) ≡ R a
      green_is a = spread_at same R green a

      blue_is : (a : ℕ) → spread same R (suc (twice a)) ≡ R a
      blue_is a = spread_at same R blue a

      -- what a step from s comes to
      abbrev comes : State → ℕ → Outcome → Run
      comes s k o = counted (going s k) (settled s o)

      -- the green half of an instruction that sets no register
      first_half : {x : _} {i : Single} (t : State) → Line m p x i → exec w (dye green i) (both R p cs l) ≡ go t → t.stores ≡ length l → Raw (suc (twice n)) t l
      first_half t L e h =
          raw_step t r.raw (step_at (both R p cs l) (twice n) _ (eqb_same (twice p)) (omega (arith, L.room)) L.first ∙ ap (comes (both R p cs l) (twice n)) e) (sym h)

      -- the pair of a store is queued
      abbrev waiting : ℕ → ℕ → State
      waiting va vb = state (spread same R) (suc (twice p)) 0 (pair va vb ∷ []) cs (length l)

      queued : {x : _} {a b : ℕ} (va vb : ℕ) → R a ≡ va → R b ≡ vb → Line m p x (store a b) → Raw (suc (twice n)) (waiting va vb) l
      queued {a = a} {b = b} va vb ea eb L = first_half (waiting va vb) L (λ j. go (waiting ((green_is a ∙ ea) j) ((green_is b ∙ eb) j))) refl

      -- the store is made
      abbrev stored : ℕ → ℕ → ℕ → State
      stored va vb k = state (spread same R) (suc (suc (twice p))) 0 [] (upd cs va vb) k

      -- its blue half
      second_half : {x : _} {a b : ℕ} (va vb : ℕ) → R a ≡ va → R b ≡ vb → Line m p x (store a b) →
          step w m.code (going (waiting va vb) (suc (twice n))) ≡ comes (waiting va vb) (suc (twice n)) (cond (w va) (go (stored va vb (suc (length l)))) (stop NoSuchCell))
      second_half {a = a} {b = b} va vb ea eb L =
          step_at (waiting va vb) (suc (twice n)) _ (eqb_same (suc (twice p))) (omega (arith, L.room)) L.second
          ∙ (λ j. comes (waiting va vb) (suc (twice n)) (need (eqb va ((blue_is a ∙ ea) j) && eqb vb ((blue_is b ∙ eb) j)) StoreDiffers
          (cond (w ((blue_is a ∙ ea) j)) (go (stored ((blue_is a ∙ ea) j) ((blue_is b ∙ eb) j) (suc (length l)))) (stop NoSuchCell))))
          ∙ (λ j. comes (waiting va vb) (suc (twice n)) (need (both_true (eqb_same va) (eqb_same vb) j) StoreDiffers
          (cond (w va) (go (stored va vb (suc (length l)))) (stop NoSuchCell))))

      pub run_store : {x : _} {a b : ℕ} (va vb : ℕ) → R a ≡ va → R b ≡ vb → w va ≡ true → Line m p x (store a b) →
          Reach (suc n) R (suc p) (upd cs va vb) (l ++ (pair va vb ∷ []))
      run_store {b = b} va vb ea eb t L =
          let e : suc (length l) ≡ length (l ++ (pair va vb ∷ [])) = omega (arith, length-append l (pair va vb ∷ [])) in
          let k = length (l ++ (pair va vb ∷ [])) in
          let x = going (stored va vb k) (suc (suc (twice n))) in
          let u : made w m.code (started c₀) (suc (twice n)) ≡ l = (queued va vb ea eb L).made_k in
          let h = made_next x (queued va vb ea eb L) (second_half va vb ea eb L ∙ λ j. comes (waiting va vb) (suc (twice n)) (cond (t j) (go (stored va vb (e j))) (stop NoSuchCell))) in
          let one : k - length l ≡ 1 = omega arith in
          record {
            raw = record { at_k = h.0; made_k = h.1 ∙ ap (λ i. l ++ take i (pair va vb ∷ [])) one };
            regs = r.regs;
            cells = λ i h. upd-word cs va vb i (r.cells i h) (subst Word eb (r.regs b));
          }

      pub run_stuck : {x : _} {a b : ℕ} (va vb : ℕ) → R a ≡ va → R b ≡ vb → w va ≡ false → Line m p x (store a b) → Ends (twice (suc n)) NoSuchCell cs l
      run_stuck va vb ea eb t L =
          raw-end NoSuchCell (queued va vb ea eb L)
          (second_half va vb ea eb L ∙ λ j. comes (waiting va vb) (suc (twice n)) (cond (t j) (go (stored va vb (suc (length l)))) (stop NoSuchCell))) refl

      -- a jump to line q + 1 is under way
      abbrev aimed : ℕ → State
      aimed d = state (spread same R) (suc (twice p)) d [] cs (length l)

      -- both counters come there
      landed : (q : ℕ) → Raw (suc (twice n)) (aimed (twice (suc q))) l →
          step w m.code (going (aimed (twice (suc q))) (suc (twice n))) ≡ comes (aimed (twice (suc q))) (suc (twice n)) (land (aimed (twice (suc q))) (twice (suc q))) →
          Reach (suc n) R (suc q) cs l
      landed q k h =
          let s = aimed (twice (suc q)) in
          record {
            raw = raw_step (both R (suc q) cs l) k
                (h ∙ λ j. comes s (suc (twice n)) (need (not (eqb-suc-zero (suc (twice q)) j)) Destination (need (eqb_same (twice (suc q)) j) Destination (go (at (twice (suc q)) 0 s))))) refl;
            regs = r.regs;
            cells = r.cells;
          }

      pub run_jump : {x : _} {a : ℕ} (q : ℕ) → R a ≡ twice (suc q) → Line m p x (jump a) → Reach (suc n) R (suc q) cs l
      run_jump {a = a} q e L =
          let s = aimed (twice (suc q)) in
          landed q (first_half s L (λ j. go (aimed ((green_is a ∙ e) j))) refl)
          (step_at s (suc (twice n)) _ (eqb_same (suc (twice p))) (omega (arith, L.room)) L.second ∙ ap (λ y. comes s (suc (twice n)) (land s y)) (blue_is a ∙ e))

      pub run_taken : {x : _} {a b : ℕ} (q : ℕ) → R a ≡ 0 → R b ≡ twice (suc q) → Line m p x (branch a b) → Reach (suc n) R (suc q) cs l
      run_taken {a = a} {b = b} q e h L =
          let s = aimed (twice (suc q)) in
          landed q (first_half s L (λ j. cond (zero? ((green_is a ∙ e) j)) (go (aimed ((green_is b ∙ h) j))) (aim (both R p cs l) 0)) refl)
          (step_at s (suc (twice n)) _ (eqb_same (suc (twice p))) (omega (arith, L.room)) L.second
          ∙ λ j. comes s (suc (twice n)) (cond (zero? ((blue_is a ∙ e) j)) (land s ((blue_is b ∙ h) j)) (aim s 0)))

      pub run_passed : {x : _} {a b k : ℕ} → R a ≡ suc k → Line m p x (branch a b) → Reach (suc n) R (suc p) cs l
      run_passed {a = a} {b = b} {k = k} e L =
          let s = aimed 0 in
          let z : (y : ℕ) → y ≡ R a → zero? y ≡ false = λ y h. ap zero? (h ∙ e) ∙ eqb-suc-zero k in
          record {
            raw = raw_step (both R (suc p) cs l)
                (first_half s L (λ j. cond (z (spread same R (twice a)) (green_is a) j) (aim (both R p cs l) (spread same R (twice b))) (go s)) refl)
                (step_at s (suc (twice n)) _ (eqb_same (suc (twice p))) (omega (arith, L.room)) L.second
                ∙ λ j. comes s (suc (twice n)) (cond (z (spread same R (suc (twice a))) (blue_is a) j) (land s (spread same R (suc (twice b)))) (aim s 0))) refl;
            regs = r.regs;
            cells = r.cells;
          }

      -- the halt
      pub run_halt : instr m (twice p) ≡ halt → size m ≡ suc (twice p) → Ends (suc (twice n)) Halted cs l
      run_halt h e = raw-end Halted r.raw (step_at (both R p cs l) (twice n) halt (eqb_same (twice p)) (omega (arith, e)) h) refl
