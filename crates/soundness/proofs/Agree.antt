-- Two runs of one module, the second one struck in one colour only: a step keeps what the other colour holds, or the second
-- run reports. Of the struck colour nothing is assumed, not even the queue's length.
use Rattle.std.proofs.Common.{◌≡◌, ℕ, suc, ◌<◌, Bool, true, false, cond, not, eqb, ltb, [], ◌∷◌, ◌++◌, length, sym, refl, ap, ◌∙◌, subst, ap₂}
use mathlib.Core.Path.{subst⁻¹}
use Rattle.std.proofs.lemmas.Bool.{true≢false, false≢true, both_ways, not-true, and_parts, eqb-true, ltb-true}
use Rattle.memory.specs.Cells.{replaced}
use Rattle.isa.specs.Words.{alu}
use Rattle.machine.specs.declared.ends.Report.TheVariants.{CountersDiffer, StoreDiffers, Destination, Queue, Outside}
use Rattle.machine.specs.declared.ends.End.TheVariants.{NoSuchCell, Halted}
use Rattle.machine.specs.Pairs.{first, rest, some?, overlay}
use Rattle.machine.specs.Machine.{State, Outcome, stop, go, need, reg, with_queue, with_store, at, fall, put, zero?, pair?, enqueue, commit, aim, land, exec, act}
use Rattle.machine.specs.Machine as machine
use Rattle.rules.specs.Limits.{Limits}
use Rattle.rules.specs.Expressions.{load}
use Rattle.rules.specs.Notes.{Colour, green, blue, Register, Kind, mov, cpy, arith, ld, st, jmp, bz, halt, upd, Note, note, Notes, Static, note_of, expr_of, combine, next}
use Rattle.rules.specs.Module.{Module, size, instr, static}
use Rattle.rules.proofs.Relations.{Coloured, Rule}
use Rattle.soundness.proofs.Outcomes.{Quiet, Follow, follow_need, follow_cond}

-- cells, stores and all that colour t holds are the same in both
pub record Agree (t : Colour) (N : Notes) (u f : State) : Type 0 where
  pub cells : u.cells ≡ f.cells
  pub stores : u.stores ≡ f.stores
  pub regs : (r : ℕ) → Coloured t (N r) → u.regs r ≡ f.regs r
  pub green_counter : t ≡ green → u.green ≡ f.green
  pub destination : t ≡ green → u.destination ≡ f.destination
  pub queue : t ≡ green → u.queue ≡ f.queue
  pub blue_counter : t ≡ blue → u.blue ≡ f.blue

pub green≢blue : green ≡ blue → ⊥
green≢blue e = subst code e tt
  where
    code : Colour → Type 0
    code green = Unit {0}
    code blue = ⊥

has : (t : Colour) (n : Note) (c : Colour) → n ≡ note c (expr_of n) → c ≡ t → Coloured t n
has t n c h p = subst⁻¹ (Coloured t) h p

module _ (t : Colour) (N : Notes) (u f : State) (A : Agree t N u f) where
  -- the destination is the same where both have tested it against what blue holds
  same_destination : (x y : ℕ) → (t ≡ blue → x ≡ y) → u.destination ≡ x → f.destination ≡ y → u.destination ≡ f.destination
  same_destination x y h p q = one t refl
    where
      one : (k : Colour) → t ≡ k → u.destination ≡ f.destination
      one green e = A.destination e
      one blue e = p ∙ h e ∙ sym q

  land_follow : (x y : ℕ) → (t ≡ blue → x ≡ y) → Quiet (land u x) → Follow (Agree t N) (land u x) (land f y)
  land_follow x y h n =
      let there : State → Outcome = λ s. go (at s.destination 0 s) in
      follow_need (Agree t N) (not (zero? u.destination)) (not (zero? f.destination)) Destination
      (need (eqb u.destination x) Destination (there u)) (need (eqb f.destination y) Destination (there f)) n λ _ _ n'.
      follow_need (Agree t N) (eqb u.destination x) (eqb f.destination y) Destination (there u) (there f) n' λ p q _.
      let e : u.destination ≡ f.destination = same_destination x y h (eqb-true _ _ p) (eqb-true _ _ q) in
      record { cells = A.cells; stores = A.stores; regs = A.regs; green_counter = λ _. e; destination = λ _. refl; queue = A.queue; blue_counter = λ _. e }

  halt_follow : Quiet (machine.halt u) → Follow (Agree t N) (machine.halt u) (machine.halt f)
  halt_follow n =
      let rest : State → Outcome = λ s. need (not (some? s.queue)) Queue (stop Halted) in
      follow_need (Agree t N) (zero? u.destination) (zero? f.destination) Destination (rest u) (rest f) n λ _ _ n'.
      follow_need (Agree t N) (not (some? u.queue)) (not (some? f.queue)) Queue (stop Halted) (stop Halted) n' λ _ _ _. refl

  -- what both have compared with the oldest pair is the same
  same_pair : (a v b x : ℕ) → (t ≡ blue → (a ≡ b) × (v ≡ x)) → pair? (first u.queue) a v ≡ true → pair? (first f.queue) b x ≡ true → (a ≡ b) × (v ≡ x)
  same_pair a v b x h p q = one t refl
    where
      one : (k : Colour) → t ≡ k → (a ≡ b) × (v ≡ x)
      one green e =
          let p' = and_parts _ _ p in
          let q' = and_parts _ _ q in (
            sym (eqb-true _ _ p'.0) ∙ ap (λ l. (first l).address) (A.queue e) ∙ eqb-true _ _ q'.0,
            sym (eqb-true _ _ p'.1) ∙ ap (λ l. (first l).word) (A.queue e) ∙ eqb-true _ _ q'.1,
          )
      one blue e = h e

  -- the same counters in both
  module _ (eg : u.green ≡ f.green) (eb : u.blue ≡ f.blue) where
    put_follow : (a : Register) (n : Note) (v x : ℕ) → (Coloured t n → v ≡ x) → Follow (Agree t (upd N a.number n)) (put u a v) (put f a x)
    put_follow a n v x k = record {
      cells = A.cells;
      stores = A.stores;
      regs = λ r. one r (eqb r a.number);
      green_counter = λ _. ap suc eg;
      destination = A.destination;
      queue = A.queue;
      blue_counter = λ _. ap suc eb;
    }
      where
        one : (r : ℕ) (b : Bool) → Coloured t (cond b n (N r)) → cond b v (u.regs r) ≡ cond b x (f.regs r)
        one r true p = k p
        one r false p = A.regs r p

    enqueue_follow : (a v b x : ℕ) → (t ≡ green → (a ≡ b) × (v ≡ x)) → Quiet (enqueue u a v) → Follow (Agree t N) (enqueue u a v) (enqueue f b x)
    enqueue_follow a v b x h n =
        let more : State → ℕ → ℕ → Outcome = λ s a v. fall s.destination (with_queue s (s.queue ++ (record { address = a; word = v } ∷ []))) in
        follow_need (Agree t N) (ltb (length u.queue) 16) (ltb (length f.queue) 16) Queue (more u a v) (more f b x) n λ _ _ _. record {
          cells = A.cells;
          stores = A.stores;
          regs = A.regs;
          green_counter = λ _. ap suc eg;
          destination = A.destination;
          queue = λ e i. A.queue e i ++ (record { address = (h e).0 i; word = (h e).1 i } ∷ []);
          blue_counter = λ _. ap suc eb;
        }

    commit_follow : (w : ℕ → Bool) (a v b x : ℕ) → (t ≡ blue → (a ≡ b) × (v ≡ x)) → Quiet (commit w u a v) → Follow (Agree t N) (commit w u a v) (commit w f b x)
    commit_follow w a v b x h n =
        let stored : State → ℕ → ℕ → Outcome = λ s a v. fall s.destination (with_store (with_queue s (rest s.queue)) a v) in
        let made : State → ℕ → ℕ → Outcome = λ s a v. cond (w a) (stored s a v) (stop NoSuchCell) in
        let same : State → ℕ → ℕ → Bool = λ s a v. pair? (first s.queue) a v in
        follow_need (Agree t N) (some? u.queue) (some? f.queue) Queue
        (need (same u a v) StoreDiffers (made u a v)) (need (same f b x) StoreDiffers (made f b x)) n λ _ _ n'.
        follow_need (Agree t N) (same u a v) (same f b x) StoreDiffers (made u a v) (made f b x) n' λ p q _.
        let e : (a ≡ b) × (v ≡ x) = same_pair a v b x h p q in
        follow_cond (Agree t N) (w a) (w b) (stored u a v) (stored f b x) (ap w e.0) (record {
          cells = λ i. replaced (A.cells i) (e.0 i) (e.1 i);
          stores = ap suc A.stores;
          regs = A.regs;
          green_counter = λ _. ap suc eg;
          destination = A.destination;
          queue = λ g. ap rest (A.queue g);
          blue_counter = λ _. ap suc eb;
        })

    aim_follow : (x y : ℕ) → (t ≡ green → x ≡ y) → Quiet (aim u x) → Follow (Agree t N) (aim u x) (aim f y)
    aim_follow x y h n = follow_need (Agree t N) (zero? u.destination) (zero? f.destination) Destination (fall x u) (fall y f) n λ _ _ _. record {
      cells = A.cells;
      stores = A.stores;
      regs = A.regs;
      green_counter = λ _. ap suc eg;
      destination = h;
      queue = A.queue;
      blue_counter = λ _. ap suc eb;
    }

    -- green's half of a branch, with both ways of either run
    aims_follow : (x y : ℕ) → (t ≡ green → x ≡ y) → (z k : Bool) → (t ≡ green → z ≡ k) → Quiet (cond z (aim u x) (aim u 0)) →
        Follow (Agree t N) (cond z (aim u x) (aim u 0)) (cond k (aim f y) (aim f 0))
    aims_follow x y h true true e n = aim_follow x y h n
    aims_follow x y h true false e n = aim_follow x 0 (λ g. absurd (true≢false (e g))) n
    aims_follow x y h false true e n = aim_follow 0 y (λ g. absurd (false≢true (e g))) n
    aims_follow x y h false false e n = aim_follow 0 0 (λ _. refl) n

    -- blue's half: where only one run lands, the destinations differ
    lands_follow : (x y : ℕ) → (t ≡ blue → x ≡ y) → (z k : Bool) → (t ≡ blue → z ≡ k) → Quiet (cond z (land u x) (aim u 0)) →
        Follow (Agree t N) (cond z (land u x) (aim u 0)) (cond k (land f y) (aim f 0))
    lands_follow x y h true true e n = land_follow x y h n
    lands_follow x y h true false e n =
        let there : State → ℕ → Outcome = λ s x. need (eqb s.destination x) Destination (go (at s.destination 0 s)) in
        follow_need (Agree t N) (not (zero? u.destination)) (zero? f.destination) Destination (there u x) (fall 0 f) n λ p q _. absurd (one p q t refl)
      where
        one : not (zero? u.destination) ≡ true → zero? f.destination ≡ true → (c : Colour) → t ≡ c → ⊥
        one p q green g = both_ways (zero? u.destination) (not-true _ p) (ap zero? (A.destination g) ∙ q)
        one p q blue g = true≢false (e g)
    lands_follow x y h false true e n =
        let there : State → ℕ → Outcome = λ s x. need (eqb s.destination x) Destination (go (at s.destination 0 s)) in
        follow_need (Agree t N) (zero? u.destination) (not (zero? f.destination)) Destination (fall 0 u) (there f y) n λ p q _. absurd (one p q t refl)
      where
        one : zero? u.destination ≡ true → not (zero? f.destination) ≡ true → (c : Colour) → t ≡ c → ⊥
        one p q green g = both_ways (zero? f.destination) (not-true _ q) (ap zero? (sym (A.destination g)) ∙ p)
        one p q blue g = false≢true (e g)
    lands_follow x y h false false e n = aim_follow 0 0 (λ _. refl) n

-- one instruction, with the same counters in both
module _ (L : Limits) (m : Module) (p : ℕ) (S : Static) (t : Colour) (u f : State) (A : Agree t S.notes u f) (eg : u.green ≡ f.green) (eb : u.blue ≡ f.blue) where
  -- a register of colour t
  same : (r : Register) (c : Colour) → note_of S r ≡ note c (expr_of (note_of S r)) → c ≡ t → reg u r ≡ reg f r
  same r c h e = A.regs r.number (has t (note_of S r) c h e)

  exec_follow : (w : ℕ → Bool) (i : Kind) → Rule L m p i S → Quiet (exec w i u) → Follow (Agree t (next i S).notes) (exec w i u) (exec w i f)
  exec_follow w (mov c a n) R k = put_follow t S.notes u f A eg eb a _ n n λ _. refl
  exec_follow w (cpy a b) R k = put_follow t S.notes u f A eg eb a (note_of S b) (reg u b) (reg f b) (A.regs b.number)
  exec_follow w (arith o a b c) R k =
      put_follow t S.notes u f A eg eb a (combine o (note_of S b) (note_of S c)) (alu o (reg u b) (reg u c)) (alu o (reg f b) (reg f c)) λ e.
      let q : R.own.0 ≡ t = subst (λ n. Coloured t (combine o n (note_of S c))) R.own.1 e in
      ap₂ (alu o) (same b R.own.0 R.own.1 q) (same c R.own.0 R.own.2 q)
  exec_follow w (ld green a b) R k =
      put_follow t S.notes u f A eg eb a (note green (load S.k_g (expr_of (note_of S b)))) (overlay u.queue u.cells (reg u b)) (overlay f.queue f.cells (reg f b))
      λ e i. overlay (A.queue (sym e) i) (A.cells i) (same b green R.own e i)
  exec_follow w (ld blue a b) R k =
      put_follow t S.notes u f A eg eb a (note blue (load S.k_b (expr_of (note_of S b)))) (u.cells (reg u b)) (f.cells (reg f b))
      λ e i. A.cells i (same b blue R.own e i)
  exec_follow w (st green a b) R k =
      enqueue_follow t S.notes u f A eg eb (reg u a) (reg u b) (reg f a) (reg f b) (λ e. (same a green R.own.0 (sym e), same b green R.own.1 (sym e))) k
  exec_follow w (st blue a b) R k =
      commit_follow t S.notes u f A eg eb w (reg u a) (reg u b) (reg f a) (reg f b) (λ e. (same a blue R.own.0 (sym e), same b blue R.own.1 (sym e))) k
  exec_follow w (jmp green a) R k = aim_follow t S.notes u f A eg eb (reg u a) (reg f a) (λ e. same a green R.own.1.0.0 (sym e)) k
  exec_follow w (jmp blue a) R k = land_follow t S.notes u f A (reg u a) (reg f a) (λ e. same a blue R.own.0.0 (sym e)) k
  exec_follow w (bz green a b) R k =
      aims_follow t S.notes u f A eg eb (reg u b) (reg f b) (λ e. same b green R.own.1.0.0 (sym e))
      (zero? (reg u a)) (zero? (reg f a)) (λ e. ap zero? (same a green R.own.0 (sym e))) k
  exec_follow w (bz blue a b) R k =
      lands_follow t S.notes u f A eg eb (reg u b) (reg f b) (λ e. same b blue R.own.1.0 (sym e))
      (zero? (reg u a)) (zero? (reg f a)) (λ e. ap zero? (same a blue R.own.0 (sym e))) k
  exec_follow w halt R k = halt_follow t S.notes u f A k

same_counters : (t : Colour) (N : Notes) (u f : State) → Agree t N u f → u.green ≡ u.blue → f.green ≡ f.blue → (u.green ≡ f.green) × (u.blue ≡ f.blue)
same_counters green N u f A p q = (A.green_counter refl, sym p ∙ A.green_counter refl ∙ q)
same_counters blue N u f A p q = (p ∙ A.blue_counter refl ∙ sym q, A.blue_counter refl)

-- one step
pub act_follow : (L : Limits) (m : Module) → ((p : ℕ) → p < size m → Rule L m p (instr m p) (static m p)) → (w : ℕ → Bool) (t : Colour) (u f : State) →
    Agree t (static m u.green).notes u f → Quiet (act w m.code u) →
    Follow (Agree t (next (instr m u.green) (static m u.green)).notes) (act w m.code u) (act w m.code f)
act_follow L m R w t u f A n =
    let B : State → State → Type 0 = Agree t (next (instr m u.green) (static m u.green)).notes in
    let does : State → Outcome = λ s. exec w (instr m s.green) s in
    let inside : State → Outcome = λ s. need (ltb s.green (size m)) Outside (does s) in
    follow_need B (eqb u.green u.blue) (eqb f.green f.blue) CountersDiffer (inside u) (inside f) n λ p q n'.
    follow_need B (ltb u.green (size m)) (ltb f.green (size m)) Outside (does u) (does f) n' λ l _ n''.
    let e : (u.green ≡ f.green) × (u.blue ≡ f.blue) = same_counters t _ u f A (eqb-true _ _ p) (eqb-true _ _ q) in
    subst (λ x. Follow B (does u) (exec w (instr m x) f)) e.0
    (exec_follow L m u.green (static m u.green) t u f A e.0 e.1 w (instr m u.green) (R u.green (ltb-true _ _ l)) n'')
