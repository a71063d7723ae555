-- One line more of a module, and the whole of it.
use Rattle.std.proofs.Common.{◌≡◌, ℕ, suc, ◌+◌, ◌*◌, ◌<◌, ◌≤◌, List, [], ◌∷◌, length, get_or, drop, Some, None, Option, sym, refl, ap, ◌∙◌, subst, add-zero, arith}
use Rattle.isa.specs.declared.kinds.Colour.{Colour}
use Rattle.isa.specs.declared.kinds.Colour.TheVariants.{Green, Blue}
use Rattle.isa.specs.declared.kinds.Register.{Register}
use Rattle.isa.specs.declared.kinds.Kind.{Kind}
use Rattle.isa.specs.declared.kinds.Kind.TheVariants as kind
use Rattle.isa.specs.Registers.{registers}
use Rattle.rules.specs.Cards.{Block}
use Rattle.translation.specs.Code as over
use Rattle.translation.proofs.Twins.{twice-is}
use Rattle.compiler.specs.declared.twin.Twin.{Twin}
use Rattle.compiler.specs.declared.line.Source.TheVariants.{Number, Copy, Operation, Cell}
use Rattle.compiler.specs.declared.line.Single.{Single}
use Rattle.compiler.specs.declared.line.Single.TheVariants.{Set, Store, Jump, Branch}
use Rattle.compiler.specs.declared.line.Line.{Line}
use Rattle.compiler.specs.Doubling.{twin_register, dye}
use Rattle.compiler.specs.Laying.{placed, entered, lined, opens, Back}
use Rattle.compiler.specs.Listing.{single_of, entry_of, code_of}
use Rattle.std.proofs.lemmas.List.{drop_more}
use Rattle.compiler.proofs.Forming.{formed}
use Rattle.compiler.specs.Stages.{Good, Stage}
use Rattle.compiler.proofs.Staging.{lay_kind, lay_block}

twin_is : (c : Colour) (t : Twin) → over.reg c t.number ≡ twin_register c t
twin_is Green t = ap (λ n. let r : Register = record { number = n } in r) (twice-is t.number)
twin_is Blue t =
    let e = twice-is t.number in
    let g : suc (over.twice t.number) ≡ 2 * t.number + 1 = omega arith in
    ap (λ n. let r : Register = record { number = n } in r) g

-- doubling is the same over the code that lines stand for
dyed : (c : Colour) (s : Single) → over.dye c (single_of s) ≡ dye c s
dyed c (Set t (Number n)) = ap (λ r. kind.Move c r n) (twin_is c t)
dyed c (Set t (Copy u)) = ap (λ r. kind.Copy r (over.reg c u.number)) (twin_is c t) ∙ ap (kind.Copy (twin_register c t)) (twin_is c u)
dyed c (Set t (Operation o u v)) =
    ap (λ r. kind.Arith o r (over.reg c u.number) (over.reg c v.number)) (twin_is c t)
    ∙ ap (λ r. kind.Arith o (twin_register c t) r (over.reg c v.number)) (twin_is c u)
    ∙ ap (kind.Arith o (twin_register c t) (twin_register c u)) (twin_is c v)
dyed c (Set t (Cell u)) = ap (λ r. kind.Load c r (over.reg c u.number)) (twin_is c t) ∙ ap (kind.Load c (twin_register c t)) (twin_is c u)
dyed c (Store t u) = ap (λ r. kind.Store c r (over.reg c u.number)) (twin_is c t) ∙ ap (kind.Store c (twin_register c t)) (twin_is c u)
dyed c (Jump t) = ap (kind.Jump c) (twin_is c t)
dyed c (Branch t u) = ap (λ r. kind.Branch c r (over.reg c u.number)) (twin_is c t) ∙ ap (kind.Branch c (twin_register c t)) (twin_is c u)

twin_low : (c : Colour) (t : Twin) → (twin_register c t).number < 32
twin_low Green t = let l = t.low in omega arith
twin_low Blue t = let l = t.low in omega arith

dyed_low : (c : Colour) (s : Single) → registers (dye c s) ≤ 32
dyed_low c (Set t (Number n)) = twin_low c t
dyed_low c (Set t (Copy u)) = omega (arith, twin_low c t, twin_low c u)
dyed_low c (Set t (Operation o u v)) = omega (arith, twin_low c t, twin_low c u, twin_low c v)
dyed_low c (Set t (Cell u)) = omega (arith, twin_low c t, twin_low c u)
dyed_low c (Store t u) = omega (arith, twin_low c t, twin_low c u)
dyed_low c (Jump t) = twin_low c t
dyed_low c (Branch t u) = omega (arith, twin_low c t, twin_low c u)

good : (c : Colour) (s : Single) → Back (dye c s) → Good (dye c s)
good c s h = record { back = h; formed = formed (dye c s) (dyed_low c s) }

module _ (n : ℕ) (D : List Kind) (BS : List Block) (d : Block) (old : ℕ → ℕ) where
  -- the block that starts at line i, if one does
  pub lay_entry : (f : ℕ → ℕ) (i p b : ℕ) (x : Option ℕ) (ks : List Kind) (bs : List Block) → over.twice i ≡ p
      → Stage n D BS d old f p b ks (over.block_at i (entry_of x) bs) → Stage n D BS d old (entered f n b p x) p (b + opens x) ks bs
  lay_entry f i p b None ks bs e S = let P : ℕ → Type 0 = λ c. Stage n D BS d old f p c ks bs in subst P (sym (add-zero b)) S
  lay_entry f i p b (Some t) ks bs e S = lay_block n D BS d old f p b p t _ ks bs e refl S

  -- line i
  pub lay_line : (f : ℕ → ℕ) (i b : ℕ) (l : Line) (rest : over.Code) → 2 * i + 1 < n → Back (dye Green l.single) → Back (dye Blue l.single)
      → Stage n D BS d old f (2 * i) b (over.doubled (over.line (entry_of l.entry) (single_of l.single) rest)) (over.blocks_from i (over.line (entry_of l.entry) (single_of l.single) rest))
      → Stage n D BS d old (lined f n b i l) (2 * (i + 1)) (b + opens l.entry) (over.doubled rest) (over.blocks_from (i + 1) rest)
  lay_line f i b l rest h g k S =
      let s = l.single in
      let x = l.entry in
      let e : suc i ≡ i + 1 = omega arith in
      let w : 2 * i + 1 + 1 ≡ 2 * (i + 1) = omega arith in
      let P : List Kind → Type 0 = λ ks. Stage n D BS d old f (2 * i) b ks (over.block_at i (entry_of x) (over.blocks_from (suc i) rest)) in
      let c : over.doubled (over.line (entry_of x) (single_of s) rest) ≡ dye Green s ∷ dye Blue s ∷ over.doubled rest =
      ap (λ y. y ∷ over.dye Blue (single_of s) ∷ over.doubled rest) (dyed Green s) ∙ ap (λ y. dye Green s ∷ y ∷ over.doubled rest) (dyed Blue s) in
      let a = lay_entry f i (2 * i) b x (dye Green s ∷ dye Blue s ∷ over.doubled rest) (over.blocks_from (suc i) rest) (twice-is i) (subst P c S) in
      let u = lay_kind n D BS d old (entered f n b (2 * i) x) (2 * i) (b + opens x) (dye Green s) (dye Blue s ∷ over.doubled rest) (over.blocks_from (suc i) rest) (good Green s g) (omega arith) a in
      let v = lay_kind n D BS d old _ (2 * i + 1) (b + opens x) (dye Blue s) (over.doubled rest) (over.blocks_from (suc i) rest) (good Blue s k) h u in
      let Q : ℕ → Type 0 = λ p. Stage n D BS d old (lined f n b i l) p (b + opens x) (over.doubled rest) (over.blocks_from (suc i) rest) in
      let R : ℕ → Type 0 = λ p. Stage n D BS d old (lined f n b i l) (2 * (i + 1)) (b + opens x) (over.doubled rest) (over.blocks_from p rest) in
      subst R e (subst Q w v)

  -- the halt
  pub lay_end : (f : ℕ → ℕ) (i b : ℕ) (x : Option ℕ) → 2 * i < n → Stage n D BS d old f (2 * i) b (over.doubled (over.stop (entry_of x))) (over.blocks_from i (over.stop (entry_of x)))
      → Stage n D BS d old (placed (entered f n b (2 * i) x) (2 * i) kind.Halt) (2 * i + 1) (b + opens x) [] []
  lay_end f i b x h S =
      lay_kind n D BS d old (entered f n b (2 * i) x) (2 * i) (b + opens x) kind.Halt [] [] (record { back = refl; formed = refl }) h
      (lay_entry f i (2 * i) b x (kind.Halt ∷ []) [] (twice-is i) S)

-- the code from line i on
pub code_at : (ls : List Line) (x : Option ℕ) (i : ℕ) (l : Line) → i < length ls → l ≡ get_or ls i l
    → code_of (drop i ls) x ≡ over.line (entry_of l.entry) (single_of l.single) (code_of (drop (i + 1) ls) x)
code_at ls x i l h e = ap (λ zs. code_of zs x) (drop_more ls i l h) ∙ ap (λ y. code_of (y ∷ drop (i + 1) ls) x) (sym e)
