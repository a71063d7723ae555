-- Values of expressions, and what it is for the check's notes to be true of a state.
use Rattle.std.proofs.Common.{◌≡◌, ℕ, suc, ◌+◌, ◌≤◌, true, cond, ◌≢◌, List, [], ◌∷◌, ◌++◌, length, sym, refl, ap, ◌∙◌, subst, ap₂, arith}
use Rattle.std.proofs.lemmas.Bool.{false≢true}
use Rattle.memory.specs.Cells.{replaced}
use Rattle.isa.specs.Words.{alu}
use Rattle.machine.specs.declared.queue.Pair.{Pair}
use Rattle.machine.specs.Pairs.{first, rest, some?, overlay}
use Rattle.machine.specs.Machine.{State, zero?}
use Rattle.rules.specs.Expressions.{Arithmetic, Expr, num, var, op, load, Numeral, none, is, num_of, or_zero, fold, mk}
use Rattle.rules.specs.Notes.{Note, nothing, note, Dest, clear, jump, branch, Pending, Static}
use Rattle.rules.proofs.Sameness.{same_eq}
use Rattle.soundness.specs.Strikes.{Word}
use Rattle.rules.proofs.Relations.{Same}

-- what expressions are valued in: the word of each variable, and the cells after the first k of the block's stores
pub record Context : Type 0 where
  pub variable : ℕ → ℕ
  pub cells : ℕ → ℕ → ℕ

pub val : Context → Expr → ℕ
val C (num n) = n
val C (var v) = C.variable v
val C (op o e f) = alu o (val C e) (val C f)
val C (load k e) = C.cells k (val C e)

-- the laws of expressions that the rest goes by: nothing outside this file looks inside a value
pub num_val : (C : Context) (n : ℕ) → Word n → val C (num n) ≡ n
unfolding val
num_val C n h = refl

pub var_val : (C : Context) (v : ℕ) → Word (C.variable v) → val C (var v) ≡ C.variable v
unfolding val
var_val C v h = refl

pub load_val : (C : Context) (k : ℕ) (e : Expr) → Word (C.cells k (val C e)) → val C (load k e) ≡ C.cells k (val C e)
unfolding val
load_val C k e h = refl

pub same_val : (C : Context) (e f : Expr) → Same e f → val C e ≡ val C f
same_val C e f h = ap (val C) (same_eq e f h)

abbrev IsNone : Numeral → Type 0
IsNone none = Unit {0}
IsNone (is n) = ⊥

pub is_val : (C : Context) (e : Expr) (n : ℕ) → num_of e ≡ is n → val C e ≡ n
unfolding val
is_val C (num k) n p = ap or_zero p
is_val C (var v) n p = absurd (subst IsNone p tt)
is_val C (op o e f) n p = absurd (subst IsNone p tt)
is_val C (load k e) n p = absurd (subst IsNone p tt)

pub mk_val : (C : Context) (o : Arithmetic) (e f : Expr) → val C (mk o e f) ≡ alu o (val C e) (val C f)
unfolding val
mk_val C o e f = one (num_of e) (num_of f) refl refl
  where
    one : (x y : Numeral) → num_of e ≡ x → num_of f ≡ y → val C (fold o e f x y) ≡ alu o (val C e) (val C f)
    one none y p q = refl
    one (is m) none p q = refl
    one (is m) (is n) p q = ap₂ (alu o) (sym (is_val C e m p)) (sym (is_val C f n q))

-- D has the variables of C, and its cells up to k stores
abbrev pub Upto : ℕ → Context → Context → Type 0
Upto k C D = (D.variable ≡ C.variable) × ((j : ℕ) → j ≤ k → D.cells j ≡ C.cells j)

pub upto_same : (k : ℕ) (C : Context) → Upto k C C
upto_same k C = (refl, λ j l. refl)

-- e has the value v, whatever the cells are after more than k stores
abbrev pub Holds : Context → ℕ → Expr → ℕ → Type 0
Holds C k e v = (D : Context) → Upto k C D → val D e ≡ v

-- a note is true of a register that holds v
abbrev pub NoteHolds : Context → ℕ → Note → ℕ → Type 0
NoteHolds C k nothing v = Unit {0}
NoteHolds C k (note c e) v = Holds C k e v

-- the queued pairs have the values of the pending ones
abbrev pub Matched : Context → ℕ → Pending → List Pair → Type 0
Matched C k [] [] = Unit {0}
Matched C k [] (p ∷ q) = ⊥
Matched C k (x ∷ ps) [] = ⊥
Matched C k (x ∷ ps) (p ∷ q) = (Holds C k x.0 p.address) × (Holds C k x.1 p.word) × Matched C k ps q

-- the cells c, and the cells behind each queued pair, are those after k up to n stores
abbrev pub Chain : Context → ℕ → (ℕ → ℕ) → List Pair → ℕ → Type 0
Chain C k c [] n = (C.cells k ≡ c) × (k ≡ n)
Chain C k c (p ∷ q) n = (C.cells k ≡ c) × Chain C (k + 1) (replaced c p.address p.word) q n

-- the destination d is what the check takes it for
abbrev pub DestHolds : Context → ℕ → Dest → ℕ → Type 0
DestHolds C k clear d = d ≡ 0
DestHolds C k (jump t) d = (d ≡ t) × (t ≢ 0)
DestHolds C k (branch e t) d = (v : ℕ) × (Holds C k e v) × (d ≡ cond (zero? v) t 0) × (t ≢ 0)

-- all that the check knows is true of the state
pub record Means (S : Static) (s : State) : Type 0 where
  pub context : Context
  pub noted : (r : ℕ) → NoteHolds context S.k_g (S.notes r) (s.regs r)
  pub queued : Matched context S.k_g S.pending s.queue
  pub chain : Chain context S.k_b s.cells s.queue S.k_g
  pub aimed : DestHolds context S.k_g S.dest s.destination

pub chain_end : (C : Context) (k : ℕ) (c : ℕ → ℕ) (q : List Pair) (n : ℕ) → Chain C k c q n → C.cells n ≡ overlay q c
chain_end C k c [] n h = ap C.cells (sym h.1) ∙ h.0
chain_end C k c (p ∷ q) n h = chain_end C (k + 1) (replaced c p.address p.word) q n h.1

pub chain_head : (C : Context) (k : ℕ) (c : ℕ → ℕ) (q : List Pair) (n : ℕ) → Chain C k c q n → C.cells k ≡ c
chain_head C k c [] n h = h.0
chain_head C k c (p ∷ q) n h = h.0

pub chain_le : (C : Context) (k : ℕ) (c : ℕ → ℕ) (q : List Pair) (n : ℕ) → Chain C k c q n → k ≤ n
chain_le C k c [] n h = omega (arith, h.1)
chain_le C k c (p ∷ q) n h = omega (arith, chain_le C (k + 1) (replaced c p.address p.word) q n h.1)

pub chain_push : (C D : Context) (k : ℕ) (c : ℕ → ℕ) (q : List Pair) (n : ℕ) (p : Pair) → Upto n C D →
    D.cells (n + 1) ≡ replaced (overlay q c) p.address p.word → Chain C k c q n → Chain D k c (q ++ (p ∷ [])) (n + 1)
chain_push C D k c [] n p u e h = (u.1 k (omega (arith, h.1)) ∙ h.0, (ap (λ j. D.cells (j + 1)) h.1 ∙ e, ap (λ j. j + 1) h.1))
chain_push C D k c (x ∷ q) n p u e h =
    (u.1 k (chain_le C k c (x ∷ q) n h) ∙ h.0, chain_push C D (k + 1) (replaced c x.address x.word) q n p u e h.1)

pub chain_pop : (C : Context) (k : ℕ) (c : ℕ → ℕ) (q : List Pair) (n : ℕ) → some? q ≡ true → Chain C k c q n →
    Chain C (k + 1) (replaced c (first q).address (first q).word) (rest q) n
chain_pop C k c [] n t h = absurd (false≢true t)
chain_pop C k c (p ∷ q) n t h = h.1

-- one store more
module _ (C D : Context) (k : ℕ) (u : Upto k C D) where
  holds_more : (e : Expr) (v : ℕ) → Holds C k e v → Holds D (k + 1) e v
  holds_more e v H E d = H E (d.0 ∙ u.0, λ j l. d.1 j (omega arith) ∙ u.1 j l)

  pub note_more : (n : Note) (v : ℕ) → NoteHolds C k n v → NoteHolds D (k + 1) n v
  note_more nothing v H = tt
  note_more (note c e) v H = holds_more e v H

  pub matched_push : (ps : Pending) (q : List Pair) (x : Expr × Expr) (p : Pair) → Holds C k x.0 p.address → Holds C k x.1 p.word →
      Matched C k ps q → Matched D (k + 1) (ps ++ (x ∷ [])) (q ++ (p ∷ []))
  matched_push [] [] x p a b H = (holds_more _ _ a, holds_more _ _ b, tt)
  matched_push [] (y ∷ q) x p a b H = absurd H
  matched_push (z ∷ ps) [] x p a b H = absurd H
  matched_push (z ∷ ps) (y ∷ q) x p a b H = (holds_more _ _ H.0, holds_more _ _ H.1, matched_push ps q x p a b H.2)

  pub dest_more : (x : Dest) (d : ℕ) → DestHolds C k x d → DestHolds D (k + 1) x d
  dest_more clear d H = H
  dest_more (jump t) d H = H
  dest_more (branch e t) d H = (H.0, holds_more e H.0 H.1, H.2, H.3)

pub matched_length : (C : Context) (k : ℕ) (ps : Pending) (q : List Pair) → Matched C k ps q → length ps ≡ length q
matched_length C k [] [] H = refl
matched_length C k [] (p ∷ q) H = absurd H
matched_length C k (x ∷ ps) [] H = absurd H
matched_length C k (x ∷ ps) (p ∷ q) H = ap suc (matched_length C k ps q H.2)

pub matched_none : (C : Context) (k : ℕ) (q : List Pair) → Matched C k [] q → q ≡ []
matched_none C k [] H = refl
matched_none C k (p ∷ q) H = absurd H

-- the oldest queued pair, x being the oldest pending one and ps the later ones
pub record Popped (C : Context) (k : ℕ) (x : Expr × Expr) (ps : Pending) (q : List Pair) : Type 0 where
  pub there : some? q ≡ true
  pub address : Holds C k x.0 (first q).address
  pub word : Holds C k x.1 (first q).word
  pub later : Matched C k ps (rest q)

pub matched_pop : (C : Context) (k : ℕ) (x : Expr × Expr) (ps : Pending) (q : List Pair) → Matched C k (x ∷ ps) q → Popped C k x ps q
matched_pop C k x ps [] H = absurd H
matched_pop C k x ps (p ∷ q) H = record { there = refl; address = H.0; word = H.1; later = H.2 }
