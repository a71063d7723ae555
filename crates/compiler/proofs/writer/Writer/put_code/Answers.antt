use Rattle.std.proofs.Common.{◌≡◌, ℕ, ◌+◌, ◌-◌, ◌*◌, ◌<◌, ◌≤◌, [], length, get_or, drop, vec_items, sym, refl, ap, ◌∙◌, subst, arith}
use Rattle.std.proofs.lemmas.List.{at_drop_all}
use Rattle.isa.specs.declared.kinds.Kind.TheVariants.{Halt}
use Rattle.translation.specs.Code.{Code, doubled, blocks_from}
use Rattle.compiler.specs.Laying.{opens, placed, entered, lined}
use Rattle.compiler.specs.Listing.{code_of}
use Rattle.compiler.specs.Stages.{Stage, missing}
use Rattle.compiler.specs.Writing.{laid}
use Rattle.compiler.proofs.Lining.{lay_line, lay_end, code_at}
use Rattle.compiler.proofs.writer.Writer.put_code.Goals as goal

pub loop-i-preserved : goal.loop-i-preserved
loop-i-preserved c =
    let ls = vec_items c.args.code.now.lines in
    let x = c.args.code.now.entry in
    let i = c.loop-i.i in
    let n = c.args.self.now.instructions in
    let D = doubled (code_of ls x) in
    let BS = blocks_from 0 (code_of ls x) in
    let old = laid c.args.self.now in
    let f = laid c.loop-i.self in
    let b = c.loop-i.self.blocks in
    let l = c.line-item.result in
    let value = c.deref-line-items.ensures.value in
    let h : i < length ls = subst (λ zs. i < length zs) value c.loop-i-test.true in
    let is : l ≡ get_or ls i l = subst (λ zs. l ≡ get_or zs i l) value c.line-item.is in
    let rest = code_of (drop (i + 1) ls) x in
    let a = c.loop-i.invariant in
    let w = c.put_line.ensures.writes in
    let P : Code → Type 0 = λ y. Stage n D BS missing old f (2 * i) b (doubled y) (blocks_from i y) in
    let S = subst P (code_at ls x i l h is) a.stage in
    let T = lay_line n D BS missing old f i b l rest (omega (arith, h, c.requires.instructions)) c.put_line.ensures.green c.put_line.ensures.blue S in
    let e : laid c.put_line.new.self ≡ lined f n b i l = w.words ∙ ap (λ m. lined f m b i l) a.writes.instructions in
    let Q : ℕ → Type 0 = λ y. Stage n D BS missing old (lined f n b i l) (2 * (i + 1)) y (doubled rest) (blocks_from (i + 1) rest) in
    let R : (ℕ → ℕ) → Type 0 = λ g. Stage n D BS missing old g (2 * (i + 1)) c.put_line.new.self.blocks (doubled rest) (blocks_from (i + 1) rest) in
    record {
      writes = record { lent = w.lent ∙ a.writes.lent; len = w.len ∙ a.writes.len; words = refl; instructions = w.instructions ∙ a.writes.instructions; blocks = refl };
      stage = subst R (sym e) (subst Q (sym w.blocks) T);
    }

pub returns-clause-stage : goal.returns-clause-stage
returns-clause-stage c =
    let ls = vec_items c.args.code.now.lines in
    let x = c.args.code.now.entry in
    let i = c.loop-i.i in
    let n = c.args.self.now.instructions in
    let D = doubled (code_of ls x) in
    let BS = blocks_from 0 (code_of ls x) in
    let old = laid c.args.self.now in
    let f = laid c.loop-i.self in
    let b = c.loop-i.self.blocks in
    let a = c.loop-i.invariant in
    let v = c.put_entry.ensures in
    let w = c.put_instruction.ensures.writes in
    let m = c.loop-i.self.instructions in
    let q : ℕ = m - 1 in
    let h : length ls ≤ i = subst (λ zs. length zs ≤ i) c.deref-line-items.ensures.value c.loop-i-test.false in
    let l : length ls ≡ i = omega (arith, h, c.deref-line-items.ensures.len, c.loop-i.auto.i-end) in
    let e : q ≡ 2 * i = omega (arith, a.writes.instructions, c.requires.instructions) in
    let P : Code → Type 0 = λ y. Stage n D BS missing old f (2 * i) b (doubled y) (blocks_from i y) in
    let S = subst P (at_drop_all (λ zs. code_of zs x) ls i h) a.stage in
    let T = lay_end n D BS missing old f i b x (omega (arith, c.requires.instructions)) S in
    let g : laid c.put_instruction.new.self ≡ placed (entered f n b (2 * i) x) (2 * i) Halt =
    w.words ∙ ap (λ g. placed g q Halt) v.words ∙ ap (λ k. placed (entered f k b q x) q Halt) a.writes.instructions ∙ ap (λ p. placed (entered f n b p x) p Halt) e in
    let Q : ℕ → Type 0 = λ p. Stage n D BS missing old (placed (entered f n b (2 * i) x) (2 * i) Halt) p (b + opens x) [] [] in
    let R : ℕ → Type 0 = λ y. Stage n D BS missing old (placed (entered f n b (2 * i) x) (2 * i) Halt) n y [] [] in
    let U : (ℕ → ℕ) → Type 0 = λ h. Stage n D BS missing old h n c.put_instruction.new.self.blocks [] [] in
    subst U (sym g) (subst R (sym (w.blocks ∙ v.blocks)) (subst Q (omega (arith, c.requires.instructions)) T))
