-- The run without strikes: what the check knows stays true, and no step reports.
use Rattle.std.proofs.Common.{◌≡◌, ℕ, zero, suc, ◌+◌, ◌<◌, ◌≤◌, Bool, true, false, cond, not, eqb, ltb, ◌≢◌, [], ◌∷◌, ◌++◌, length, get_or, sym, refl, ap, ◌∙◌, subst, ap₂, le_refl, arith, Some, None}
use mathlib.Core.Path.{subst⁻¹}
use Rattle.std.proofs.lemmas.Bool.{and_from, eq-eqb, ne_eqb, lt-ltb, not_from_false}
use Rattle.memory.specs.Cells.{replaced}
use Rattle.isa.specs.Words.{alu, second_word}
use Rattle.machine.specs.declared.queue.Pair.{Pair}
use Rattle.machine.specs.declared.ends.Report.TheVariants.{CountersDiffer, StoreDiffers, Destination, Queue, Outside}
use Rattle.machine.specs.declared.ends.End.TheVariants.{NoSuchCell, Halted}
use Rattle.machine.specs.Pairs.{first, rest, some?, overlay}
use Rattle.machine.specs.Machine.{State, Outcome, stop, go, need, reg, with_regs, with_place, with_queue, with_store, at, fall, zero?, pair?, aim, land, exec, act, begin}
use Rattle.rules.specs.Limits.{Limits}
use Rattle.rules.specs.Expressions.{Arithmetic, Expr, load}
use Rattle.rules.specs.Notes.{Colour, green, blue, Register, Kind, mov, cpy, arith as arith-op, ld, st, jmp, bz, halt, upd, Note, nothing, note, Notes, Dest, clear, jump, branch, Static, note_of, expr_of, target_of, set_note, set_dest, pushed, others, popped, combine, next}
use Rattle.rules.specs.Cards.{Slot, Card, card_note, fresh, Entry, inside, start, entry, starts?}
use Rattle.rules.specs.Module.{Module, size, instr, enter, static}
use Rattle.soundness.specs.Strikes.{Word}
use Rattle.soundness.proofs.Passed.{Passed}
use Rattle.rules.proofs.Relations.{Coloured, Sub, Oldest, Has, HasNumber, Meets, Met, Enters, Arrives, Passable, Falls, Rule, rule_is}
use Rattle.soundness.proofs.Outcomes.{Fine, fine-need, fine-cond}
use Rattle.soundness.proofs.Words.{Words, overlay-word, seen}
use Rattle.rules.proofs.Updates.{upd_same, upd_other}
use Rattle.soundness.proofs.Values.{Context, val, num_val, var_val, load_val, same_val, is_val, mk_val, Upto, upto_same, Holds, NoteHolds, Matched, Chain, DestHolds, Means, chain_end, chain_head, chain_le, chain_push, chain_pop, note_more, matched_push, dest_more, matched_length, matched_none, Popped, matched_pop}

-- both counters stand at a place, and what the check knows there is true
pub record Typed (m : Module) (s : State) : Type 0 where
  pub level : s.green ≡ s.blue
  pub below : s.green < size m
  pub means : Means (static m s.green) s

-- a next state: typed, and coloured by no more than the notes N
abbrev pub Onward : Module → Notes → State → Type 0
Onward m N s = Words s → (Typed m s) × Sub (static m s.green).notes N

is_zero : (n : ℕ) → n ≡ 0 → zero? n ≡ true
is_zero n e = eq-eqb n 0 e

not_zero : (n : ℕ) → n ≢ 0 → not (zero? n) ≡ true
not_zero n h = not_from_false (zero? n) (ne_eqb n 0 h)

-- a card's entry that is met is true of the register
slot_holds : (C : Context) (k : ℕ) (c : ℕ → ℕ → ℕ) (θ : ℕ → Expr) (x : Slot) (n : Note) (v : ℕ) → Word v → Meets θ x n → NoteHolds C k n v →
    NoteHolds (record { variable = λ y. val C (θ y); cells = c }) 0 (card_note x) v
slot_holds C k c θ None n v q h H = tt
slot_holds C k c θ (Some (t, y)) nothing v q h H = absurd h
slot_holds C k c θ (Some (t, y)) (note d e) v q h H =
    let p : val C (θ y.number) ≡ v = sym (same_val C e (θ y.number) h.1) ∙ H C (upto_same k C) in
    λ D u. let r : D.variable y.number ≡ v = ap (λ f. f y.number) u.0 ∙ p in var_val D y.number (subst⁻¹ Word r q) ∙ r

slot_sub : (θ : ℕ → Expr) (x : Slot) (n : Note) → Meets θ x n → (t : Colour) → Coloured t (card_note x) → Coloured t n
slot_sub θ None n h t p = absurd p
slot_sub θ (Some (c, y)) nothing h t p = absurd h
slot_sub θ (Some (c, y)) (note d e) h t p = sym h.0 ∙ p

-- the notes S are true of the state s
module _ (S : Static) (s : State) (W : Means S s) where
  queue_none : S.pending ≡ [] → s.queue ≡ []
  queue_none h = matched_none W.context S.k_g s.queue (subst (λ x. Matched W.context S.k_g x s.queue) h W.queued)

  aimed_at : (D : Dest) → S.dest ≡ D → DestHolds W.context S.k_g D s.destination
  aimed_at D h = subst (λ x. DestHolds W.context S.k_g x s.destination) h W.aimed

  -- the state behind the test that a card is met, with the counters at g and b, and the destination clear
  met_means : (K : Card) → Words s → Met K S.notes → S.pending ≡ [] → (g b d : ℕ) → d ≡ 0 → Means (fresh K) (with_place s g b d)
  met_means K Z H h g b d e =
      let c : ℕ → ℕ → ℕ = λ k. s.cells in
      let C : Context = record { variable = λ y. val W.context (H.0 y); cells = c } in
      record {
        context = C;
        noted = λ r. slot_holds W.context S.k_g c H.0 (get_or K r None) (S.notes r) (s.regs r) (Z.regs r) (H.1 r) (W.noted r);
        queued = subst⁻¹ (Matched C 0 []) (queue_none h) tt;
        chain = subst⁻¹ (λ q. Chain C 0 s.cells q 0) (queue_none h) (refl, refl);
        aimed = e;
      }

  met_sub : (K : Card) (H : Met K S.notes) → Sub (fresh K).notes S.notes
  met_sub K H t r = slot_sub H.0 (get_or K r None) (S.notes r) (H.1 r) t

  -- the next place
  pass_means : (e : Entry) → Words s → Passable e S → (Means (enter e S) s) × Sub (enter e S).notes S.notes
  pass_means inside Z h = (W, λ t r p. p)
  pass_means (start K) Z h = (met_means K Z h.2 h.0 s.green s.blue s.destination (aimed_at clear h.1), met_sub K h.2)

  -- a block that is jumped to
  enter_means : (m : Module) (t : ℕ) → t ≢ 0 → Words s → Arrives m.blocks t S → (Means (static m t) (at t 0 s)) × Sub (static m t).notes S.notes
  enter_means m zero n Z h = absurd (n refl)
  enter_means m (suc p) n Z h = one (entry m.blocks (suc p)) h.1
    where
      before : Static
      before = next (instr m p) (static m p)

      one : (e : Entry) → Enters e S.notes → (Means (enter e before) (at (suc p) 0 s)) × Sub (enter e before).notes S.notes
      one inside h' = absurd h'
      one (start K) h' = (met_means K Z h' h.0 (suc p) (suc p) 0 refl, met_sub K h')

  held : (r : Register) (c : Colour) → Has S r c → Holds W.context S.k_g (expr_of (note_of S r)) (reg s r)
  held r c h = subst (λ n. NoteHolds W.context S.k_g n (reg s r)) h (W.noted r.number)

  value : (r : Register) (c : Colour) → Has S r c → val W.context (expr_of (note_of S r)) ≡ reg s r
  value r c h = held r c h W.context (upto_same S.k_g W.context)

  number : (r : Register) (c : Colour) → HasNumber S r c → reg s r ≡ target_of (note_of S r)
  number r c h = sym (value r c h.0) ∙ is_val W.context (expr_of (note_of S r)) (target_of (note_of S r)) h.1

  -- an expression that is the same as a register's has its value
  same_value : (r : Register) (c : Colour) (x : Expr) (v : ℕ) → Has S r c → val W.context (expr_of (note_of S r)) ≡ val W.context x →
      Holds W.context S.k_g x v → v ≡ reg s r
  same_value r c x v h e H = sym (H W.context (upto_same S.k_g W.context)) ∙ sym e ∙ value r c h

  -- a register is set
  put_means : (a : Register) (n : Note) (v g b : ℕ) → NoteHolds W.context S.k_g n v →
      Means (set_note S a n) (with_place (with_regs s (replaced s.regs a.number v)) g b s.destination)
  put_means a n v g b H = record { context = W.context; noted = λ r. one r (eqb r a.number); queued = W.queued; chain = W.chain; aimed = W.aimed }
    where
      one : (r : ℕ) (z : Bool) → NoteHolds W.context S.k_g (cond z n (S.notes r)) (cond z v (s.regs r))
      one r true = H
      one r false = W.noted r

  arith_holds : (o : Arithmetic) (b c : Register) (k : Colour) → Has S b k → Has S c k →
      NoteHolds W.context S.k_g (combine o (note_of S b) (note_of S c)) (alu o (reg s b) (reg s c))
  arith_holds o b c k hb hc =
      subst⁻¹ (λ n. NoteHolds W.context S.k_g (combine o n (note_of S c)) (alu o (reg s b) (reg s c))) hb
      λ D u. mk_val D o (expr_of (note_of S b)) (expr_of (note_of S c)) ∙ ap₂ (alu o) (held b k hb D u) (held c k hc D u)

  load_holds : (c : Colour) (k : ℕ) (b : Register) (cells : ℕ → ℕ) → Has S b c → k ≤ S.k_g → W.context.cells k ≡ cells → Word (cells (reg s b)) →
      Holds W.context S.k_g (load k (expr_of (note_of S b))) (cells (reg s b))
  load_holds c k b cells hb le hc q =
      λ D u. let p : D.cells k (val D (expr_of (note_of S b))) ≡ cells (reg s b) = λ i. (u.1 k le ∙ hc) i (held b c hb D u i) in
      load_val D k (expr_of (note_of S b)) (subst⁻¹ Word p q) ∙ p

  -- a pair is queued
  push_means : (a b : Register) (g c : ℕ) → Has S a green → Has S b green →
      Means (pushed S (expr_of (note_of S a)) (expr_of (note_of S b))) (with_place (with_queue s (s.queue ++ (record { address = reg s a; word = reg s b } ∷ []))) g c s.destination)
  push_means a b g c ha hb =
      let C : Context = W.context in
      let p : Pair = record { address = reg s a; word = reg s b } in
      let D : Context = record { variable = C.variable; cells = upd C.cells (S.k_g + 1) (replaced (overlay s.queue s.cells) (reg s a) (reg s b)) } in
      let u : Upto S.k_g C D = (refl, λ j l. upd_other C.cells (S.k_g + 1) _ j (omega arith)) in
      record {
        context = D;
        noted = λ r. note_more C D S.k_g u (S.notes r) (s.regs r) (W.noted r);
        queued = matched_push C D S.k_g u S.pending s.queue (expr_of (note_of S a), expr_of (note_of S b)) p (held a green ha) (held b green hb) W.queued;
        chain = chain_push C D S.k_b s.cells s.queue S.k_g p u (upd_same C.cells (S.k_g + 1) _) W.chain;
        aimed = dest_more C D S.k_g u S.dest s.destination W.aimed;
      }

  oldest : (e f : Expr) (O : Oldest S.pending e f) → Popped W.context S.k_g (O.address, O.word) O.later s.queue
  oldest e f O =
      matched_pop W.context S.k_g (O.address, O.word) O.later s.queue (subst (λ l. Matched W.context S.k_g l s.queue) O.begins W.queued)

  -- the oldest pair leaves, and is stored
  pop_means : (a v g b : ℕ) (e f : Expr) → Oldest S.pending e f → (first s.queue).address ≡ a → (first s.queue).word ≡ v →
      Means (popped S) (with_place (with_store (with_queue s (rest s.queue)) a v) g b s.destination)
  pop_means a v g b e f O ea ev =
      let P = oldest e f O in
      record {
        context = W.context;
        noted = W.noted;
        queued = subst⁻¹ (λ l. Matched W.context S.k_g (others l) (rest s.queue)) O.begins P.later;
        chain = rw (ea, ev) at (chain_pop W.context S.k_b s.cells s.queue S.k_g P.there W.chain);
        aimed = W.aimed;
      }

  -- the destination is set or cleared
  aim_means : (D : Dest) (g b d : ℕ) → DestHolds W.context S.k_g D d → Means (set_dest S D) (with_place s g b d)
  aim_means D g b d H = record { context = W.context; noted = W.noted; queued = W.queued; chain = W.chain; aimed = H }

-- one instruction i of the unstruck run at a place of a module that passed, S being what is known before it
module _ (L : Limits) (room : L.queue ≤ 16) (m : Module) (P : Passed L m) (S : Static) (s : State) (W : Means S s) (Z : Words s) (level : s.green ≡ s.blue) where
  -- to the next place
  fall_fine : (i : Kind) → static m (suc s.green) ≡ enter (entry m.blocks (suc s.green)) (next i S) → Falls m s.green (next i S) →
      (t : State) → t.green ≡ suc s.green → t.blue ≡ suc s.blue → Means (next i S) t → Onward m (next i S).notes t
  fall_fine i known F t eg eb V Y =
      let e = ap (static m) eg ∙ known in
      let z = pass_means (next i S) t V (entry m.blocks (suc s.green)) Y F.1 in (
        record { level = eg ∙ ap suc level ∙ sym eb; below = subst⁻¹ (λ x. x < size m) eg F.0; means = subst⁻¹ (λ x. Means x t) e z.0 },
        subst⁻¹ (λ x. Sub x.notes (next i S).notes) e z.1,
      )

  starts : (e : Entry) (N : Notes) → Enters e N → starts? e ≡ true
  starts inside N h = absurd h
  starts (start K) N h = refl

  -- to the block at t
  land_fine : (x t : ℕ) → x ≡ t → s.destination ≡ t → t ≢ 0 → Arrives m.blocks t S → Fine (Onward m S.notes) (land s x)
  land_fine x t ex ed n A =
      let there : Outcome = go (at s.destination 0 s) in
      let Q : State → Type 0 = Onward m S.notes in
      let z = enter_means S s W m t n Z A in
      let typed : Onward m S.notes (at t 0 s) = λ _. (record { level = refl; below = P.below t (starts (entry m.blocks t) S.notes A.1); means = z.0 }, z.1) in
      fine-need Q (not (zero? s.destination)) Destination (need (eqb s.destination x) Destination there) (not_zero s.destination (λ h. n (sym ed ∙ h)))
      (fine-need Q (eqb s.destination x) Destination there (eq-eqb _ _ (ed ∙ sym ex)) (subst⁻¹ (λ p. Onward m S.notes (at p 0 s)) ed typed))

  aim_fine : (i : Kind) → static m (suc s.green) ≡ enter (entry m.blocks (suc s.green)) (next i S) → Falls m s.green (next i S) →
      s.destination ≡ 0 → (x : ℕ) → Means (next i S) (with_place s (suc s.green) (suc s.blue) x) → Fine (Onward m (next i S).notes) (aim s x)
  aim_fine i known F e x V =
      fine-need (Onward m (next i S).notes) (zero? s.destination) Destination (fall x s) (is_zero s.destination e)
      (fall_fine i known F (with_place s (suc s.green) (suc s.blue) x) refl refl V)

  exec_fine : (w : ℕ → Bool) (i : Kind) → static m (suc s.green) ≡ enter (entry m.blocks (suc s.green)) (next i S) → Word (second_word i) →
      Rule L m s.green i S → Fine (Onward m (next i S).notes) (exec w i s)
  exec_fine w (mov c a n) k q R =
      fall_fine (mov c a n) k (R.falls refl) _ refl refl (put_means S s W a _ n (suc s.green) (suc s.blue) (λ D u. num_val D n q))
  exec_fine w (cpy a b) k q R = fall_fine (cpy a b) k (R.falls refl) _ refl refl (put_means S s W a _ (reg s b) (suc s.green) (suc s.blue) (W.noted b.number))
  exec_fine w (arith-op o a b c) k q R =
      fall_fine (arith-op o a b c) k (R.falls refl) _ refl refl
      (put_means S s W a _ (alu o (reg s b) (reg s c)) (suc s.green) (suc s.blue) (arith_holds S s W o b c R.own.0 R.own.1 R.own.2))
  exec_fine w (ld green a b) k q R =
      fall_fine (ld green a b) k (R.falls refl) _ refl refl
      (put_means S s W a (note green (load S.k_g (expr_of (note_of S b)))) (overlay s.queue s.cells (reg s b)) (suc s.green) (suc s.blue)
      (load_holds S s W green S.k_g b (overlay s.queue s.cells) R.own (le_refl _) (chain_end W.context S.k_b s.cells s.queue S.k_g W.chain)
      (overlay-word s.queue s.cells Z.queue (reg s b) (seen s Z b))))
  exec_fine w (ld blue a b) k q R =
      fall_fine (ld blue a b) k (R.falls refl) _ refl refl
      (put_means S s W a (note blue (load S.k_b (expr_of (note_of S b)))) (s.cells (reg s b)) (suc s.green) (suc s.blue)
      (load_holds S s W blue S.k_b b s.cells R.own (chain_le W.context S.k_b s.cells s.queue S.k_g W.chain)
      (chain_head W.context S.k_b s.cells s.queue S.k_g W.chain) (seen s Z b)))
  exec_fine w (st green a b) k q R =
      let t : State = with_place (with_queue s (s.queue ++ (record { address = reg s a; word = reg s b } ∷ []))) (suc s.green) (suc s.blue) s.destination in
      let e = matched_length W.context S.k_g S.pending s.queue W.queued in
      let few : length s.queue < 16 = omega (arith, R.own.2, e, room) in
      fine-need (Onward m (next (st green a b) S).notes) (ltb (length s.queue) 16) Queue (go t) (lt-ltb _ _ few)
      (fall_fine (st green a b) k (R.falls refl) t refl refl (push_means S s W a b (suc s.green) (suc s.blue) R.own.0 R.own.1))
  exec_fine w (st blue a b) k q R =
      let Q : State → Type 0 = Onward m (next (st blue a b) S).notes in
      let O = R.own.2 in
      let T = oldest S s W (expr_of (note_of S a)) (expr_of (note_of S b)) O in
      let ea = same_value S s W a blue O.address (first s.queue).address R.own.0 (same_val W.context (expr_of (note_of S a)) O.address O.same_address) T.address in
      let eb = same_value S s W b blue O.word (first s.queue).word R.own.1 (same_val W.context (expr_of (note_of S b)) O.word O.same_word) T.word in
      let t : State = with_place (with_store (with_queue s (rest s.queue)) (reg s a) (reg s b)) (suc s.green) (suc s.blue) s.destination in
      let made : Outcome = cond (w (reg s a)) (go t) (stop NoSuchCell) in
      let same : Bool = pair? (first s.queue) (reg s a) (reg s b) in
      fine-need Q (some? s.queue) Queue (need same StoreDiffers made) T.there
      (fine-need Q same StoreDiffers made (and_from _ _ (eq-eqb _ _ ea) (eq-eqb _ _ eb))
      (fine-cond Q (w (reg s a)) (go t)
      (fall_fine (st blue a b) k (R.falls refl) t refl refl
      (pop_means S s W (reg s a) (reg s b) (suc s.green) (suc s.blue) (expr_of (note_of S a)) (expr_of (note_of S b)) O ea eb))))
  exec_fine w (jmp green a) k q R =
      aim_fine (jmp green a) k (R.falls refl) (aimed_at S s W clear R.own.0) (reg s a)
      (aim_means S s W _ (suc s.green) (suc s.blue) (reg s a) (number S s W a green R.own.1.0, R.own.1.1))
  exec_fine w (jmp blue a) k q R =
      let D = aimed_at S s W (jump (target_of (note_of S a))) R.own.1 in
      land_fine (reg s a) (target_of (note_of S a)) (number S s W a blue R.own.0) D.0 D.1 R.own.2
  exec_fine w (bz green a b) k q R = one (zero? (reg s a)) refl
    where
      aims : (x : ℕ) → x ≡ cond (zero? (reg s a)) (target_of (note_of S b)) 0 → Fine (Onward m S.notes) (aim s x)
      aims x e =
          aim_fine (bz green a b) k (R.falls refl) (aimed_at S s W clear R.own.2) x
          (aim_means S s W _ (suc s.green) (suc s.blue) x (reg s a, held S s W a green R.own.0, e, R.own.1.1))

      one : (z : Bool) → zero? (reg s a) ≡ z → Fine (Onward m S.notes) (cond z (aim s (reg s b)) (aim s 0))
      one true e = aims (reg s b) (number S s W b green R.own.1.0 ∙ ap (λ z. cond z (target_of (note_of S b)) 0) (sym e))
      one false e = aims 0 (ap (λ z. cond z (target_of (note_of S b)) 0) (sym e))
  exec_fine w (bz blue a b) k q R = one (zero? (reg s a)) refl
    where
      f : Expr
      f = R.own.2.0

      t : ℕ
      t = target_of (note_of S b)

      D : DestHolds W.context S.k_g (branch f t) s.destination
      D = aimed_at S s W (branch f t) R.own.2.2

      word_is : D.0 ≡ reg s a
      word_is = same_value S s W a blue f D.0 R.own.0 (sym (same_val W.context f (expr_of (note_of S a)) R.own.2.1)) D.1

      aimed : (z : Bool) → zero? (reg s a) ≡ z → s.destination ≡ cond z t 0
      aimed z e = D.2 ∙ ap (λ x. cond (zero? x) t 0) word_is ∙ ap (λ y. cond y t 0) e

      one : (z : Bool) → zero? (reg s a) ≡ z → Fine (Onward m S.notes) (cond z (land s (reg s b)) (aim s 0))
      one true e = land_fine (reg s b) t (number S s W b blue R.own.1) (aimed true e) D.3 R.own.3
      one false e =
          aim_fine (bz blue a b) k (R.falls refl) (aimed false e) 0 (aim_means S s W clear (suc s.green) (suc s.blue) 0 refl)
  exec_fine w halt k q R =
      let Q : State → Type 0 = Onward m S.notes in
      let empty : not (some? s.queue) ≡ true = ap (λ l. not (some? l)) (queue_none S s W R.own.0) in
      fine-need Q (zero? s.destination) Destination (need (not (some? s.queue)) Queue (stop Halted)) (is_zero s.destination (aimed_at S s W clear R.own.1))
      (fine-need Q (not (some? s.queue)) Queue (stop Halted) empty tt)

-- one step of the unstruck run
pub act-fine : (L : Limits) → L.queue ≤ 16 → (m : Module) → Passed L m → (w : ℕ → Bool) (s : State) → Words s → Typed m s →
    Fine (Onward m (next (instr m s.green) (static m s.green)).notes) (act w m.code s)
act-fine L room m P w s Z t =
    let i : Kind = instr m s.green in
    let S : Static = static m s.green in
    let Q : State → Type 0 = Onward m (next i S).notes in
    fine-need Q (eqb s.green s.blue) CountersDiffer (need (ltb s.green (size m)) Outside (exec w i s)) (eq-eqb _ _ t.level)
    (fine-need Q (ltb s.green (size m)) Outside (exec w i s) (lt-ltb _ _ t.below)
    (exec_fine L room m P S s t.means Z t.level w i refl (P.words s.green t.below) (rule_is L m s.green i S (P.kept s.green t.below))))

pub begin_typed : (L : Limits) (m : Module) → Passed L m → (c : ℕ → ℕ) → Typed m (begin c)
begin_typed L m P c =
    let C : Context = record { variable = λ _. 0; cells = λ _. c } in
    record {
      level = refl;
      below = P.some;
      means = subst⁻¹ (λ e. Means (enter e (fresh [])) (begin c)) P.opens (record {
        context = C;
        noted = λ r. subst⁻¹ (λ x. NoteHolds C 0 (card_note x) 0) (P.all_free r) tt;
        queued = tt;
        chain = (refl, refl);
        aimed = refl;
      });
    }
