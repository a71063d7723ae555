-- Where the instructions of built code stand.
use Rattle.std.proofs.Common.{◌≡◌, ℕ, suc, ◌+◌, ◌<◌, ◌≤◌, cond, ◌≢◌, List, [], length, get_or, refl, ap, ◌∙◌, arith}
use Rattle.std.proofs.lemmas.Bool.{ne_eqb}
use Rattle.rules.specs.Notes.{green, blue, halt}
use Rattle.rules.specs.Cards.{Block, entry}
use Rattle.rules.specs.Cards as rules
use Rattle.rules.specs.Module.{Module, size, instr}
use Rattle.translation.specs.Cards.{card}
use Rattle.translation.specs.Code.{Single, Entry, inside, start, Code, stop, line, twice, dye, doubled, block_at, blocks_from, build}
use Rattle.translation.specs.Checked.{Rising}
use Rattle.translation.proofs.Twins.{eqb_same}

-- what stands before a line, as the check has it
abbrev pub entry_of : Entry → rules.Entry
entry_of inside = rules.inside
entry_of (start n) = rules.start (card n)

-- what stands before a place
abbrev pub before : Module → ℕ → rules.Entry
before m q = entry m.blocks q

-- the instruction i over twins is line p, with x before it, and something behind it
pub record Line (m : Module) (p : ℕ) (x : Entry) (i : Single) : Type 0 where
  pub before_is : before m (twice p) ≡ entry_of x
  pub between : before m (suc (twice p)) ≡ rules.inside
  pub first : instr m (twice p) ≡ dye green i
  pub second : instr m (suc (twice p)) ≡ dye blue i
  pub room : suc (suc (twice p)) < size m

abbrev pub Laid : Module → ℕ → Code → Type 0
Laid m p (stop x) = (before m (twice p) ≡ entry_of x) × (instr m (twice p) ≡ halt) × (size m ≡ suc (twice p))
Laid m p (line x i l) = (Line m p x i) × Laid m (suc p) l

-- a block that starts at another place
block_other : (p q : ℕ) (x : Entry) (bs : List Block) → twice p ≢ q → entry (block_at p x bs) q ≡ entry bs q
unfolding entry
block_other p q inside bs h = refl
block_other p q (start n) bs h = ap (λ b. cond b (rules.start (card n)) (entry bs q)) (ne_eqb (twice p) q h)

no_blocks : (q : ℕ) → entry [] q ≡ rules.inside
unfolding entry
no_blocks q = refl

none_below : (l : Code) (p q : ℕ) → q < twice p → entry (blocks_from p l) q ≡ rules.inside
none_below (stop x) p q h = block_other p q x [] (omega arith) ∙ no_blocks q
none_below (line x i l) p q h = block_other p q x (blocks_from (suc p) l) (omega arith) ∙ none_below l (suc p) q (omega arith)

block_here : (p : ℕ) (x : Entry) (bs : List Block) → entry bs (twice p) ≡ rules.inside → entry (block_at p x bs) (twice p) ≡ entry_of x
unfolding entry
block_here p inside bs h = h
block_here p (start n) bs h = ap (λ b. cond b (rules.start (card n)) (entry bs (twice p))) (eqb_same (twice p))

some-code : (l : Code) → 0 < length (doubled l)
some-code (stop x) = omega arith
some-code (line x i l) = omega arith

laid : (m : Module) (l : Code) (p : ℕ) → ((j : ℕ) → instr m (j + twice p) ≡ get_or (doubled l) j halt) →
    ((q : ℕ) → twice p ≤ q → before m q ≡ entry (blocks_from p l) q) → size m ≡ length (doubled l) + twice p → Laid m p l
laid m (stop x) p I B n =
    let z : twice p ≡ 0 + twice p = omega arith in
    (B (twice p) (omega arith) ∙ block_here p x [] (no_blocks (twice p)), ap (instr m) z ∙ I 0, omega arith)
laid m (line x i l) p I B n =
    let z : twice p ≡ 0 + twice p = omega arith in
    let o : suc (twice p) ≡ 1 + twice p = omega arith in
    let bs = blocks_from (suc p) l in (
      record {
        before_is = B (twice p) (omega arith) ∙ block_here p x bs (none_below l (suc p) (twice p) (omega arith));
        between = B (suc (twice p)) (omega arith) ∙ block_other p (suc (twice p)) x bs (omega arith) ∙ none_below l (suc p) (suc (twice p)) (omega arith);
        first = ap (instr m) z ∙ I 0;
        second = ap (instr m) o ∙ I 1;
        room = omega (arith, some-code l);
      },
      laid m l (suc p) (λ j. let e : j + twice (suc p) ≡ suc (suc j) + twice p = omega arith in ap (instr m) e ∙ I (suc (suc j)))
          (λ q h. B q (omega arith) ∙ block_other p q x bs (omega arith)) (omega arith),
    )

pub build_laid : (l : Code) → Laid (build l) 0 l
build_laid l =
    laid (build l) l 0 (λ j. let e : j + 0 ≡ j = omega arith in ap (instr (build l)) e) (λ q h. refl) (omega arith)

-- blocks start in rising order, below the end
pub rising : (l : Code) (p low n : ℕ) → low ≤ twice p → length (doubled l) + twice p ≤ n → Rising low n (blocks_from p l)
rising (stop inside) p low n h k = tt
rising (stop (start c)) p low n h k = (h, omega arith, tt)
rising (line inside i l) p low n h k = rising l (suc p) low n (omega arith) (omega arith)
rising (line (start c) i l) p low n h k = (h, omega arith, rising l (suc p) (suc (twice p)) n (omega arith) (omega arith))
