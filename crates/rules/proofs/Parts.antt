-- The blocks of the module that words are: the rules at their places are the rules of the blocks judged by themselves.
use Rattle.std.proofs.Common.{◌≡◌, ℕ, zero, suc, ◌+◌, ◌-◌, ◌*◌, ◌/◌, ◌<◌, ◌≤◌, true, ◌⊎◌, List, [], ◌∷◌, length, get_or, Some, None, Ok, Err, Option, Result, sym, refl, ap, ◌∙◌, subst, inl, inr, arith}
use Rattle.std.specs.List.{between}
use Rattle.std.proofs.lemmas.List.FromFn.{length-map-range_with_len, get_or-map-range_with_len}
use Rattle.std.proofs.lemmas.List.Edits.{length-between, get_or-between}
use Rattle.std.proofs.lemmas.Bool.{cases_lt, cases_eq, cases_order, cond-true, cond-false, lt-ltb, le-ltb}
use Rattle.isa.specs.Words.{kind_of}
use Rattle.isa.specs.Layout.{word, kind_at, start_at, card_byte, slot_byte, slotted, block_fits, every, LaidOut}
use Rattle.rules.specs.Limits.{Limits}
use Rattle.rules.specs.Notes.{Kind, halt}
use Rattle.rules.specs.Cards.{Block, Card, entry, inside, start}
use Rattle.rules.specs.Module.{size, instr, kept_at, Keeps, BreaksAt}
use Rattle.rules.specs.Block.{behind, or_free, card_at, kept?, BlockPasses, BlockBreaks, BlockJudged}
use Rattle.rules.specs.Part.{Behind, Part}
use Rattle.rules.specs.Words.{edge, kind_in, kinds_of, card_of, block_of, module_of}
use Rattle.rules.proofs.Starts.{entry_found, entry-inside}
use Rattle.rules.proofs.Layouts.{long, few, start_below, start_first, start_order, slots}
use Rattle.rules.proofs.Slots.{block_back}
use Rattle.rules.proofs.Modules.{part_kept}

pub edge-start : (ws : List ℕ) (b : ℕ) → b < word ws 1 → edge ws b ≡ start_at ws (word ws 0) b
edge-start ws b h = cond-true _ _ _ (lt-ltb b (word ws 1) h)

pub edge-end : (ws : List ℕ) (b : ℕ) → word ws 1 ≤ b → edge ws b ≡ word ws 0
edge-end ws b h = cond-false _ _ _ (le-ltb b (word ws 1) h)

pub behind-at : (bs : List Block) (j : ℕ) (d : Block) → j < length bs → behind bs j ≡ Some (get_or bs j d).card
behind-at [] j d h = absurd (omega arith)
behind-at (b ∷ bs) zero d h = refl
behind-at (b ∷ bs) (suc j) d h = behind-at bs j d (omega arith)

pub behind-none : (bs : List Block) (j : ℕ) → length bs ≤ j → behind bs j ≡ None
behind-none [] j h = refl
behind-none (b ∷ bs) zero h = absurd (omega arith)
behind-none (b ∷ bs) (suc j) h = behind-none bs j (omega arith)

module _ (ws : List ℕ) (good : every (word ws 1) (block_fits ws (word ws 0)) ≡ true) where
  many : length (module_of ws).blocks ≡ word ws 1
  many = length-map-range_with_len (block_of ws (word ws 0)) 0 (word ws 1)

  block : (i : ℕ) → i < word ws 1 → get_or (module_of ws).blocks i (block_of ws 0 0) ≡ block_of ws (word ws 0) i
  block i h = get_or-map-range_with_len (block_of ws (word ws 0)) 0 (word ws 1) i i (block_of ws 0 0) h (omega arith)

  start_of : (i : ℕ) → i < word ws 1 → (get_or (module_of ws).blocks i (block_of ws 0 0)).start ≡ start_at ws (word ws 0) i
  start_of i h = ap (λ (b : Block). b.start) (block i h)

  -- a block starts where it does, and no other one does
  pub entry_start : (b : ℕ) → b < word ws 1 → entry (module_of ws).blocks (start_at ws (word ws 0) b) ≡ start (card_of ws (word ws 0) b)
  entry_start b h =
      let m = many in
      entry_found (module_of ws).blocks b (start_at ws (word ws 0) b) (block_of ws 0 0) (omega arith)
      (λ i g e. let o = start_order ws good i b g h in let s = start_of i (omega arith) in omega arith)
      (start_of b h)
      ∙ ap (λ (x : Block). start x.card) (block b h)

  -- no block starts strictly between two edges
  pub entry_between : (b p : ℕ) → b < word ws 1 → start_at ws (word ws 0) b < p → p < edge ws (b + 1) → entry (module_of ws).blocks p ≡ inside
  entry_between b p h l r = entry-inside (module_of ws).blocks p (block_of ws 0 0) none
    where
      none : (i : ℕ) → i < length (module_of ws).blocks → (get_or (module_of ws).blocks i (block_of ws 0 0)).start ≡ p → ⊥
      none i g e =
          let m = many in
          let k : i < word ws 1 = omega arith in
          let q : start_at ws (word ws 0) i ≡ p = sym (start_of i k) ∙ e in
          go k q (cases_order i b)
        where
          later : i < word ws 1 → b + 1 < i → start_at ws (word ws 0) (b + 1) < start_at ws (word ws 0) i
          later k o = start_order ws good (b + 1) i o k

          go : i < word ws 1 → start_at ws (word ws 0) i ≡ p → (i ≡ b) ⊎ ((i < b) ⊎ (b < i)) → ⊥
          go k q (inl o) = let t = ap (start_at ws (word ws 0)) o in omega arith
          go k q (inr (inl o)) = let t = start_order ws good i b o h in omega arith
          go k q (inr (inr o)) = let t = edge-start ws (b + 1) (omega arith) in past (cases_eq i (b + 1)) t
            where
              past : (i ≡ b + 1) ⊎ (i ≡ b + 1 → ⊥) → edge ws (b + 1) ≡ start_at ws (word ws 0) (b + 1) → ⊥
              past (inl u) t = let v = ap (start_at ws (word ws 0)) u in omega arith
              past (inr u) t = let v = later k (omega arith) in omega arith

  -- a block ends behind its start, within the module
  pub edge_rises : (b : ℕ) → b < word ws 1 → (start_at ws (word ws 0) b < edge ws (b + 1)) × (edge ws (b + 1) ≤ word ws 0)
  edge_rises b h = go (cases_lt (b + 1) (word ws 1))
    where
      go : (b + 1 < word ws 1) ⊎ (word ws 1 ≤ b + 1) → (start_at ws (word ws 0) b < edge ws (b + 1)) × (edge ws (b + 1) ≤ word ws 0)
      go (inl l) =
          let t = edge-start ws (b + 1) l in let o = start_order ws good b (b + 1) (omega arith) l in let u = start_below ws good (b + 1) l in
          (omega arith, omega arith)
      go (inr l) = let t = edge-end ws (b + 1) l in let u = start_below ws good b h in (omega arith, omega arith)

-- block b and its words
pub record Cut (ws : List ℕ) (b : ℕ) (part : List ℕ) : Type 0 where
  pub there : b < word ws 1
  pub long : length part ≡ 2 * (edge ws (b + 1) - start_at ws (word ws 0) b)
  pub words : (j : ℕ) → j < length part → word part j ≡ word ws (2 + 2 * start_at ws (word ws 0) b + j)

module _ (ws : List ℕ) (good : every (word ws 1) (block_fits ws (word ws 0)) ≡ true) (b : ℕ) (part : List ℕ) (cut : Cut ws b part) where
  count : length (kinds_of part) + start_at ws (word ws 0) b ≡ edge ws (b + 1)
  count =
      let l = length-map-range_with_len (kind_in part) 0 (length part / 2) in
      let r = edge_rises ws good b cut.there in
      let c = cut.long in
      omega arith

  sized : size (module_of ws) ≡ word ws 0
  sized = length-map-range_with_len (kind_at ws) 0 (word ws 0)

  code : (k : ℕ) → k < length (kinds_of part) → instr (module_of ws) (start_at ws (word ws 0) b + k) ≡ get_or (kinds_of part) k halt
  code k h =
      let s = start_at ws (word ws 0) b in
      let l = length-map-range_with_len (kind_in part) 0 (length part / 2) in
      let r = edge_rises ws good b cut.there in
      let c = count in
      let g : k < length part / 2 = omega arith in
      let one : 2 * k < length part = omega arith in
      let two : 2 * k + 1 < length part = omega arith in
      let i : 2 + 2 * s + 2 * k ≡ 2 + 2 * (s + k) = omega arith in
      let j : 2 + 2 * s + (2 * k + 1) ≡ 2 + 2 * (s + k) + 1 = omega arith in
      let x = cut.words (2 * k) one ∙ ap (word ws) i in
      let y = cut.words (2 * k + 1) two ∙ ap (word ws) j in
      get_or-map-range_with_len (kind_at ws) 0 (word ws 0) (s + k) (s + k) halt (omega arith) (omega arith)
      ∙ sym (get_or-map-range_with_len (kind_in part) 0 (length part / 2) k k halt g (omega arith) ∙ ap (λ w. kind_of w (word part (2 * k + 1))) x ∙ ap (kind_of (word ws (2 + 2 * (s + k)))) y)

  behind_is : Behind (module_of ws) (start_at ws (word ws 0) b + length (kinds_of part)) (behind (module_of ws).blocks (b + 1))
  behind_is = go (cases_lt (b + 1) (word ws 1))
    where
      P : Option Card → Type 0
      P o = Behind (module_of ws) (start_at ws (word ws 0) b + length (kinds_of part)) o

      go : (b + 1 < word ws 1) ⊎ (word ws 1 ≤ b + 1) → Behind (module_of ws) (start_at ws (word ws 0) b + length (kinds_of part)) (behind (module_of ws).blocks (b + 1))
      go (inl l) =
          let m = many ws good in
          let c = count in
          let z = sized in
          let t = edge-start ws (b + 1) l in
          let u = start_below ws good (b + 1) l in
          let e : start_at ws (word ws 0) b + length (kinds_of part) ≡ start_at ws (word ws 0) (b + 1) = omega arith in
          let o = behind-at (module_of ws).blocks (b + 1) (block_of ws 0 0) (omega arith) ∙ ap (λ (x : Block). Some x.card) (block ws good (b + 1) l) in
          subst P (sym o) (omega arith, ap (entry (module_of ws).blocks) e ∙ entry_start ws good (b + 1) l)
      go (inr l) =
          let m = many ws good in
          let c = count in
          let z = sized in
          let t = edge-end ws (b + 1) l in
          subst P (sym (behind-none (module_of ws).blocks (b + 1) (omega arith))) (omega arith)

  pub part_of : Part (module_of ws) (start_at ws (word ws 0) b) (card_of ws (word ws 0) b) (kinds_of part) (behind (module_of ws).blocks (b + 1))
  part_of =
      let c = count in
      let z = sized in
      let r = edge_rises ws good b cut.there in
      record {
        here = entry_start ws good b cut.there;
        within = λ k h. entry_between ws good b (start_at ws (word ws 0) b + (k + 1)) cut.there (omega arith) (omega arith);
        code = code;
        fits = omega arith;
        behind = behind_is;
      }

  module _ (L : Limits) (before : (q : ℕ) → q < edge ws b → kept_at L (module_of ws) q ≡ true) where
    begins : edge ws b ≡ start_at ws (word ws 0) b
    begins = edge-start ws b cut.there

    here : (k : ℕ) → k < length (kinds_of part)
        → kept_at L (module_of ws) (start_at ws (word ws 0) b + k) ≡ kept? L (module_of ws).blocks (behind (module_of ws).blocks (b + 1)) (card_of ws (word ws 0) b) (kinds_of part) k
    here k h = part_kept L (module_of ws) _ _ _ _ part_of k h

    -- a block that passes: the rules are kept before the next one
    pub passes_more : BlockPasses L (module_of ws).blocks (behind (module_of ws).blocks (b + 1)) (card_of ws (word ws 0) b) (kinds_of part)
        → (q : ℕ) → q < edge ws (b + 1) → kept_at L (module_of ws) q ≡ true
    passes_more p q h = go (cases_lt q (edge ws b))
      where
        go : (q < edge ws b) ⊎ (edge ws b ≤ q) → kept_at L (module_of ws) q ≡ true
        go (inl l) = before q l
        go (inr l) =
            let e = begins in
            let c = count in
            let i : q ≡ start_at ws (word ws 0) b + (q - start_at ws (word ws 0) b) = omega arith in
            let j : q - start_at ws (word ws 0) b < length (kinds_of part) = omega arith in
            ap (kept_at L (module_of ws)) i ∙ here (q - start_at ws (word ws 0) b) j ∙ p (q - start_at ws (word ws 0) b) j

    -- a block that breaks a rule: it is the module's first
    pub breaks_here : (k : ℕ) → BlockBreaks L (module_of ws).blocks (behind (module_of ws).blocks (b + 1)) (card_of ws (word ws 0) b) (kinds_of part) k
        → BreaksAt L (module_of ws) (start_at ws (word ws 0) b + k)
    breaks_here k x =
        let h = x.0 in
        let c = count in
        let z = sized in
        let r = edge_rises ws good b cut.there in
        record { place = omega arith; before = λ q l. go q l (cases_lt q (edge ws b)); broken = here k x.0 ∙ x.2 }
      where
        go : (q : ℕ) → q < start_at ws (word ws 0) b + k → (q < edge ws b) ⊎ (edge ws b ≤ q) → kept_at L (module_of ws) q ≡ true
        go q l (inl g) = before q g
        go q l (inr g) =
            let e = begins in
            let h = x.0 in
            let i : q ≡ start_at ws (word ws 0) b + (q - start_at ws (word ws 0) b) = omega arith in
            let j : q - start_at ws (word ws 0) b < k = omega arith in
            ap (kept_at L (module_of ws)) i ∙ here (q - start_at ws (word ws 0) b) (omega arith) ∙ x.1 (q - start_at ws (word ws 0) b) j

-- the words of a block, cut out of the middle
pub cut_is : (ws : List ℕ) (b from to : ℕ) (part : List ℕ) → b < word ws 1 → from ≡ edge ws b → to ≡ edge ws (b + 1) → from ≤ to → 2 + 2 * to ≤ length ws
    → part ≡ between (2 + 2 * from) (2 + 2 * to) ws → Cut ws b part
cut_is ws b from to part h f t o w e =
    let s = edge-start ws b h in
    let l = ap length e ∙ length-between ws (2 + 2 * from) (2 + 2 * to) w in
    record {
      there = h;
      long = omega arith;
      words = λ j g.
          let i : 2 + 2 * from + j ≡ 2 + 2 * start_at ws (word ws 0) b + j = omega arith in
          ap (λ x. word x j) e ∙ get_or-between ws (2 + 2 * from) (2 + 2 * to) j 0 (omega arith) ∙ ap (word ws) i;
    }

-- where the words of a block lie
pub record Lies (ws : List ℕ) (b from to : ℕ) : Type 0 where
  pub order : from < to
  pub below : to ≤ word ws 0
  pub within : 2 + 2 * to ≤ length ws
  pub few : word ws 0 ≤ 1024
  pub start : from ≡ start_at ws (word ws 0) b

pub lies : (ws : List ℕ) (laid : LaidOut ws) (b from to : ℕ) → b < word ws 1 → from ≡ edge ws b → to ≡ edge ws (b + 1) → Lies ws b from to
lies ws laid b from to h f t =
    let s = edge-start ws b h in
    let r = edge_rises ws laid.blocks b h in
    let l = long ws laid.code in
    let w = few ws laid.code in
    record { order = omega arith; below = omega arith; within = omega arith; few = omega arith; start = omega arith }

-- block b as it was read from words that are laid out well, with n instructions
pub read_block : (ws : List ℕ) (good : every (word ws 1) (block_fits ws (word ws 0)) ≡ true) (n b : ℕ) (B : Block) → n ≡ word ws 0 → b < word ws 1 → B.start ≡ start_at ws n b
    → ((k : ℕ) → k < 32 → slotted (card_byte ws n b k) ≡ true → slot_byte (get_or B.card k None) ≡ card_byte ws n b k) → B ≡ block_of ws (word ws 0) b
read_block ws good n b B e h =
    let P : ℕ → Type 0 =
    λ m. B.start ≡ start_at ws m b → ((k : ℕ) → k < 32 → slotted (card_byte ws m b k) ≡ true → slot_byte (get_or B.card k None) ≡ card_byte ws m b k)
    → B ≡ block_of ws (word ws 0) b in
    subst P (sym e) (λ s c. block_back ws (word ws 0) b B s (λ k l. c k l (slots ws good b k h l)))

-- a block's card as it was read
card_read : (bs : List Block) (b : ℕ) (x : Block) → b < length bs → x ≡ get_or bs b x → x.card ≡ card_at bs b
card_read bs b x h e = sym (ap or_free (behind-at bs b x h) ∙ ap (λ (y : Block). y.card) (sym e))

-- what was answered of a block as it was read, among the blocks as they were read
pub judged_read : (L : Limits) (bs cs : List Block) (next b : ℕ) (x : Block) (C : List Kind) (r : Result (Unit {0}) ℕ) → cs ≡ bs → b < length bs → x ≡ get_or bs b x
    → BlockJudged L cs (behind cs next) x.card C r → BlockJudged L bs (behind bs next) (card_at bs b) C r
judged_read L bs cs next b x C r p h e j =
    let P : List Block → Type 0 = λ l. BlockJudged L l (behind l next) x.card C r in
    let Q : Card → Type 0 = λ K. BlockJudged L bs (behind bs next) K C r in
    subst Q (card_read bs b x h e) (subst P p j)

-- what was answered of block b, the blocks being those of the module
pub judged_in : (L : Limits) (ws : List ℕ) (good : every (word ws 1) (block_fits ws (word ws 0)) ≡ true) (b : ℕ) (bs : List Block) (C : List Kind) (r : Result (Unit {0}) ℕ)
    → b < word ws 1 → bs ≡ (module_of ws).blocks → BlockJudged L bs (behind bs (b + 1)) (card_at bs b) C r
    → BlockJudged L (module_of ws).blocks (behind (module_of ws).blocks (b + 1)) (card_of ws (word ws 0) b) C r
judged_in L ws good b bs C r h e j =
    let P : List Block → Type 0 = λ l. BlockJudged L l (behind l (b + 1)) (card_at l b) C r in
    let Q : Card → Type 0 = λ K. BlockJudged L (module_of ws).blocks (behind (module_of ws).blocks (b + 1)) K C r in
    let m = many ws good in
    let k = ap or_free (behind-at (module_of ws).blocks b (block_of ws 0 0) (omega arith)) ∙ ap (λ (x : Block). x.card) (block ws good b h) in
    subst Q k (subst P e j)

-- where the first block starts, and where the last one ends
pub edge-first : (ws : List ℕ) (laid : LaidOut ws) → edge ws 0 ≡ 0
edge-first ws laid =
    let w = few ws laid.code in
    let h : 0 < word ws 1 = omega arith in
    edge-start ws 0 h ∙ start_first ws laid.blocks h

-- the rules are kept before the module's end
pub all_kept : (L : Limits) (ws : List ℕ) (b : ℕ) → word ws 1 ≤ b → ((q : ℕ) → q < edge ws b → kept_at L (module_of ws) q ≡ true) → Keeps L (module_of ws)
all_kept L ws b h k p l =
    let e = edge-end ws b h in
    let z = length-map-range_with_len (kind_at ws) 0 (word ws 0) in
    k p (omega arith)

-- one block after another: the words `part` from `from` to `to` are block b, `bs` are the module's blocks, and the rules are kept before
module _ (L : Limits) (ws : List ℕ) (laid : LaidOut ws) (b from to : ℕ) (part : List ℕ) (bs : List Block) (h : b < word ws 1) (f : from ≡ edge ws b) (t : to ≡ edge ws (b + 1))
    (p : part ≡ between (2 + 2 * from) (2 + 2 * to) ws) (e : bs ≡ (module_of ws).blocks) (before : (q : ℕ) → q < edge ws b → kept_at L (module_of ws) q ≡ true) where
  here_lies : Lies ws b from to
  here_lies = lies ws laid b from to h f t

  here_cut : Cut ws b part
  here_cut = let l = here_lies in cut_is ws b from to part h f t (omega arith) l.within p

  -- the rules are kept before the next block
  pub next_kept : BlockJudged L bs (behind bs (b + 1)) (card_at bs b) (kinds_of part) (Ok tt) → (q : ℕ) → q < edge ws (b + 1) → kept_at L (module_of ws) q ≡ true
  next_kept j = passes_more ws laid.blocks b part here_cut L before (judged_in L ws laid.blocks b bs (kinds_of part) (Ok tt) h e j)

  -- this is the first rule that is broken
  pub first_broken : (k : ℕ) → BlockJudged L bs (behind bs (b + 1)) (card_at bs b) (kinds_of part) (Err k) → BreaksAt L (module_of ws) (from + k)
  first_broken k j =
      let P : ℕ → Type 0 = λ s. BreaksAt L (module_of ws) (s + k) in
      subst P (sym here_lies.start) (breaks_here ws laid.blocks b part here_cut L before k (judged_in L ws laid.blocks b bs (kinds_of part) (Err k) h e j))

  pub broken_low : (k : ℕ) → BlockJudged L bs (behind bs (b + 1)) (card_at bs b) (kinds_of part) (Err k) → from + k < 1024
  broken_low k j =
      let x = (first_broken k j).place in
      let z = length-map-range_with_len (kind_at ws) 0 (word ws 0) in
      let w = few ws laid.code in
      omega arith
