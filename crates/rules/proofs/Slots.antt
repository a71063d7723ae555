-- A card's byte and its entry.
use Rattle.std.proofs.Common.{◌≡◌, ℕ, ◌+◌, ◌-◌, ◌%◌, ◌<◌, true, false, eqb, leb, List, length, get_or, sym, refl, ap, ◌∙◌, subst, mod-lt, mod-eq_of_lt, arith, lit<, Some, None}
use native.Mathlib.Bridge.{le_prop}
use native.Mathlib.Nat.{ℕ_set}
use Rattle.std.proofs.lemmas.List.FromFn.{fill_by_all}
use Rattle.std.proofs.lemmas.Bool.{ne_eqb, le-leb, lt-leb, cond-true, cond-false, and_from}
use Rattle.isa.specs.Layout.{slot_byte, card_byte, start_at}
use Rattle.rules.specs.Notes.{green, blue}
use Rattle.rules.specs.Cards.{Variable, Slot, Block, Card}
use Rattle.rules.specs.Words.{variable, slot_of, card_of, block_of}

-- variables with one number are one
variable-is : (n : ℕ) (p : n < 32) (v : Variable) → n ≡ v.number → ◌≡◌ {A = Variable} (record { number = n; low = p }) v
variable-is n p v e =
    let P : ℕ → Type 0 = λ k. (q : k < 32) → ◌≡◌ {A = Variable} (record { number = k; low = q }) v in
    subst P (sym e) (λ q. ap (λ (r : v.number < 32). let w : Variable = record { number = v.number; low = r } in w) (le_prop q v.low)) p

variable_back : (m : ℕ) (v : Variable) → m ≡ v.number → variable m ≡ v
variable_back m v e =
    let l = v.low in
    let k : m < 32 = omega arith in
    variable-is (m % 32) (mod-lt m (lit< tt)) v (mod-eq_of_lt k ∙ e)

-- an entry is that of its byte
pub slot_back : (s : Slot) → slot_of (slot_byte s) ≡ s
slot_back None = refl
slot_back (Some (green, v)) =
    let l = v.low in
    let z : eqb (v.number + 1) 0 ≡ false = ne_eqb _ _ (λ e. omega arith) in
    let g : leb (v.number + 1) 32 ≡ true = le-leb _ _ (omega arith) in
    cond-false _ _ _ z ∙ cond-true _ _ _ g ∙ ap (λ y. let s : Slot = Some (green, y) in s) (variable_back (v.number + 1 - 1) v (omega arith))
slot_back (Some (blue, v)) =
    let l = v.low in
    let z : eqb (v.number + 129) 0 ≡ false = ne_eqb _ _ (λ e. omega arith) in
    let g : leb (v.number + 129) 32 ≡ false = lt-leb _ _ (omega arith) in
    let x : leb 129 (v.number + 129) ≡ true = le-leb _ _ (omega arith) in
    let y : leb (v.number + 129) 160 ≡ true = le-leb _ _ (omega arith) in
    let b = and_from (leb 129 (v.number + 129)) (leb (v.number + 129) 160) x y in
    cond-false _ _ _ z ∙ cond-false _ _ _ g ∙ cond-true _ _ _ b ∙ ap (λ y. let s : Slot = Some (blue, y) in s) (variable_back (v.number + 129 - 129) v (omega arith))

-- a card whose entries have the bytes of the words
card_back : (ws : List ℕ) (n b : ℕ) (K : Card) → length K ≡ 32 → ((k : ℕ) → k < 32 → slot_byte (get_or K k None) ≡ card_byte ws n b k) → K ≡ card_of ws n b
card_back ws n b K l h =
    fill_by_all (λ r. slot_of (card_byte ws n b r)) K 32 None l (λ k g. sym (slot_back (get_or K k None)) ∙ ap slot_of (h k g))

block_is : (s : ℕ) (K : Card) (f : length K ≡ 32) (B : Block) → B.start ≡ s → B.card ≡ K → ◌≡◌ {A = Block} B (record { start = s; card = K; full = f })
block_is s K f B p q =
    let P : ℕ → Type 0 = λ t. (J : Card) → B.card ≡ J → (g : length J ≡ 32) → ◌≡◌ {A = Block} B (record { start = t; card = J; full = g }) in
    let Q : Card → Type 0 = λ J. (g : length J ≡ 32) → ◌≡◌ {A = Block} B (record { start = B.start; card = J; full = g }) in
    subst P p (λ J e. subst Q e (λ g. ap (λ (x : length B.card ≡ 32). let y : Block = record { start = B.start; card = B.card; full = x } in y) (ℕ_set _ _ _ _))) K q f

-- a block with the start and the card bytes of the words
pub block_back : (ws : List ℕ) (n b : ℕ) (B : Block) → B.start ≡ start_at ws n b → ((k : ℕ) → k < 32 → slot_byte (get_or B.card k None) ≡ card_byte ws n b k) → B ≡ block_of ws n b
block_back ws n b B s h = block_is _ _ _ B s (card_back ws n b B.card B.full h)
