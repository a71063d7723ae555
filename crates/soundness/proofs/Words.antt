-- A run over words holds words, under strikes by words too.
use Rattle.std.proofs.Common.{ℕ, zero, suc, ◌<◌, Bool, true, false, cond, not, eqb, ltb, List, [], ◌∷◌, ◌++◌, length, get_or, set, arith}
use Rattle.std.proofs.lemmas.Bool.{ltb-true}
use Rattle.memory.specs.Cells.{replaced}
use Rattle.isa.specs.Words.{alu, second_word}
use Rattle.isa.specs.declared.kinds.Colour.TheVariants.{Green, Blue}
use Rattle.isa.specs.declared.kinds.Arithmetic.{Arithmetic}
use Rattle.isa.specs.declared.kinds.Arithmetic.TheVariants.{Add, Sub, Mul, Lt}
use Rattle.isa.specs.declared.kinds.Register.{Register}
use Rattle.isa.specs.declared.kinds.Kind.{Kind}
use Rattle.isa.specs.declared.kinds.Kind.TheVariants.{Move, Copy, Arith, Load, Store, Jump, Branch, Halt}
use Rattle.machine.specs.declared.queue.Pair.{Pair}
use Rattle.machine.specs.declared.ends.Report.TheVariants.{CountersDiffer, StoreDiffers, Destination, Queue, Outside}
use Rattle.machine.specs.declared.ends.End.TheVariants.{NoSuchCell, Halted}
use Rattle.machine.specs.Ends.{going?}
use Rattle.machine.specs.Pairs.{first, rest, some?, overlay}
use Rattle.machine.specs.Machine.{State, Outcome, stop, go, need, reg, at, fall, put, zero?, pair?, with_store, with_queue, enqueue, commit, aim, land, halt, exec, act, settled, Run, counted, step, begin}
use Rattle.soundness.specs.Strikes.{Word, Place, register, counter, destination, address, word, pair_at, strike, Strike, Reached, begun, stepped, struck}
use Rattle.soundness.specs.Finding.{AreCells}
use Rattle.soundness.proofs.Outcomes.{Goes, goes-need, goes-cond}

abbrev pub AllWords : List Pair → Type 0
AllWords [] = Unit {0}
AllWords (p ∷ q) = (Word p.word) × AllWords q

pub record Words (s : State) : Type 0 where
  pub regs : (r : ℕ) → Word (s.regs r)
  pub cells : AreCells s.cells
  pub queue : AllWords s.queue

replaced-word : (f : ℕ → ℕ) (a v : ℕ) → Word v → (r : ℕ) → Word (f r) → Word (replaced f a v r)
replaced-word f a v k r h = one (eqb r a)
  where
    one : (b : Bool) → Word (cond b v (f r))
    one true = k
    one false = h

pub overlay-word : (q : List Pair) (c : ℕ → ℕ) → AllWords q → (a : ℕ) → Word (c a) → Word (overlay q c a)
overlay-word [] c h a k = k
overlay-word (p ∷ q) c h a k = overlay-word q (replaced c p.address p.word) h.1 a (replaced-word c p.address p.word h.0 a k)

push-words : (q : List Pair) (p : Pair) → AllWords q → Word p.word → AllWords (q ++ (p ∷ []))
push-words [] p h k = (k, tt)
push-words (x ∷ q) p h k = (h.0, push-words q p h.1 k)

rest-words : (q : List Pair) → AllWords q → AllWords (rest q)
rest-words [] h = tt
rest-words (p ∷ q) h = h.1

set_words : (q : List Pair) (i : ℕ) (p : Pair) → Word p.word → AllWords q → AllWords (set q i p)
set_words [] zero p k h = tt
set_words [] (suc i) p k h = tt
set_words (x ∷ q) zero p k h = (k, h.1)
set_words (x ∷ q) (suc i) p k h = (h.0, set_words q i p k h.1)

get_word : (q : List Pair) (i : ℕ) → AllWords q → Word (get_or q i (record { address = 0; word = 0 })).word
get_word [] zero h = omega arith
get_word [] (suc i) h = omega arith
get_word (p ∷ q) zero h = h.0
get_word (p ∷ q) (suc i) h = get_word q i h.1

alu-word : (o : Arithmetic) (x y : ℕ) → Word (alu o x y)
alu-word Add x y = omega arith
alu-word Sub x y = omega arith
alu-word Mul x y = omega arith
alu-word Lt x y = one (ltb x y)
  where
    one : (b : Bool) → Word (cond b 1 0)
    one true = omega arith
    one false = omega arith

module _ (s : State) (W : Words s) where
  put_words : (a : Register) (v : ℕ) → Word v → Goes Words (put s a v)
  put_words a v k = record { regs = λ r. replaced-word s.regs a.number v k r (W.regs r); cells = W.cells; queue = W.queue }

  enqueue_words : (a v : ℕ) → Word v → Goes Words (enqueue s a v)
  enqueue_words a v k =
      let pair : Pair = record { address = a; word = v } in
      goes-need Words (ltb (length s.queue) 16) Queue (fall s.destination (with_queue s (s.queue ++ (pair ∷ []))))
      λ _. record { regs = W.regs; cells = W.cells; queue = push-words s.queue pair W.queue k }

  commit_words : (w : ℕ → Bool) (a v : ℕ) → Word v → Goes Words (commit w s a v)
  commit_words w a v k =
      let stored : Outcome = fall s.destination (with_store (with_queue s (rest s.queue)) a v) in
      let made : Outcome = cond (w a) stored (stop NoSuchCell) in
      let same : Bool = pair? (first s.queue) a v in
      goes-need Words (some? s.queue) Queue (need same StoreDiffers made) λ _.
      goes-need Words same StoreDiffers made λ _.
      goes-cond Words (w a) stored (stop NoSuchCell)
      (record { regs = W.regs; cells = λ b l. replaced-word s.cells a v k b (W.cells b l); queue = rest-words s.queue W.queue }) tt

  aim_words : (x : ℕ) → Goes Words (aim s x)
  aim_words x = goes-need Words (zero? s.destination) Destination (fall x s) λ _. record { regs = W.regs; cells = W.cells; queue = W.queue }

  land_words : (x : ℕ) → Goes Words (land s x)
  land_words x =
      let there : Outcome = go (at s.destination 0 s) in
      goes-need Words (not (zero? s.destination)) Destination (need (eqb s.destination x) Destination there) λ _.
      goes-need Words (eqb s.destination x) Destination there λ _. record { regs = W.regs; cells = W.cells; queue = W.queue }

  halt_words : Goes Words (halt s)
  halt_words =
      goes-need Words (zero? s.destination) Destination (need (not (some? s.queue)) Queue (stop Halted)) λ _.
      goes-need Words (not (some? s.queue)) Queue (stop Halted) λ _. tt

  -- a register's value is an address
  pub seen : (b : Register) → Word (s.cells (reg s b))
  seen b = W.cells (reg s b) (W.regs b.number)

  exec_words : (w : ℕ → Bool) (i : Kind) → Word (second_word i) → Goes Words (exec w i s)
  exec_words w (Move c a n) k = put_words a n k
  exec_words w (Copy a b) k = put_words a (reg s b) (W.regs b.number)
  exec_words w (Arith o a b c) k = put_words a _ (alu-word o (reg s b) (reg s c))
  exec_words w (Load Green a b) k = put_words a _ (overlay-word s.queue s.cells W.queue (reg s b) (seen b))
  exec_words w (Load Blue a b) k = put_words a _ (seen b)
  exec_words w (Store Green a b) k = enqueue_words (reg s a) (reg s b) (W.regs b.number)
  exec_words w (Store Blue a b) k = commit_words w (reg s a) (reg s b) (W.regs b.number)
  exec_words w (Jump Green a) k = aim_words (reg s a)
  exec_words w (Jump Blue a) k = land_words (reg s a)
  exec_words w (Branch Green a b) k = goes-cond Words (zero? (reg s a)) (aim s (reg s b)) (aim s 0) (aim_words (reg s b)) (aim_words 0)
  exec_words w (Branch Blue a b) k = goes-cond Words (zero? (reg s a)) (land s (reg s b)) (aim s 0) (land_words (reg s b)) (aim_words 0)
  exec_words w Halt k = halt_words

-- each constant of the code is a word
abbrev pub Constants : List Kind → Type 0
Constants code = (p : ℕ) → p < length code → Word (second_word (get_or code p Halt))

-- one step
pub act-words : (w : ℕ → Bool) (code : List Kind) → Constants code → (s : State) → Words s → Goes Words (act w code s)
act-words w code h s W =
    let does : Outcome = exec w (get_or code s.green Halt) s in
    goes-need Words (eqb s.green s.blue) CountersDiffer (need (ltb s.green (length code)) Outside does) λ _.
    goes-need Words (ltb s.green (length code)) Outside does λ l. exec_words s W w (get_or code s.green Halt) (h s.green (ltb-true _ _ l))

pub begin-words : (c : ℕ → ℕ) → AreCells c → Words (begin c)
begin-words c h = record { regs = λ r. omega arith; cells = h; queue = tt }

strike-words : (p : Place) (v : ℕ) (s : State) → Word v → Words s → Words (strike p v s)
strike-words (register r) v s k W = record { regs = λ x. replaced-word s.regs r v k x (W.regs x); cells = W.cells; queue = W.queue }
strike-words (counter Green) v s k W = record { regs = W.regs; cells = W.cells; queue = W.queue }
strike-words (counter Blue) v s k W = record { regs = W.regs; cells = W.cells; queue = W.queue }
strike-words destination v s k W = record { regs = W.regs; cells = W.cells; queue = W.queue }
strike-words (address i) v s k W =
    record { regs = W.regs; cells = W.cells; queue = set_words s.queue i (record { address = v; word = (pair_at s i).word }) (get_word s.queue i W.queue) W.queue }
strike-words (word i) v s k W =
    record { regs = W.regs; cells = W.cells; queue = set_words s.queue i (record { address = (pair_at s i).address; word = v }) k W.queue }

settled-words : (s : State) (o : Outcome) → Words s → Goes Words o → Words (settled s o).1
settled-words s (stop e) W h = W
settled-words s (go t) W h = h

step_words : (w : ℕ → Bool) (code : List Kind) → Constants code → (x : Run) → Words x.state → Words (step w code x).state
step_words w code h x W = one (going? x.end)
  where
    one : (b : Bool) → Words (cond b (counted x (settled x.state (act w code x.state))) x).state
    one true = settled-words x.state (act w code x.state) W (act-words w code h x.state W)
    one false = W

-- so the cells that a run leaves are words, on which the next run may start
pub reached_words : {w : ℕ → Bool} {code : List Kind} {cells : ℕ → ℕ} {l : List Strike} {x : Run} → Constants code → AreCells cells → Reached w code cells l x → Words x.state
reached_words {cells = cells} h k begun = begin-words cells k
reached_words {w} {code} h k (stepped {x = x} r) = step_words w code h x (reached_words h k r)
reached_words h k (struck {x = x} r g p v t q) = strike-words p v x.state q (reached_words h k r)
