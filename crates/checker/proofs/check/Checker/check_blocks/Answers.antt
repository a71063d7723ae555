use Rattle.std.proofs.Common.{◌≡◌, Result, Err, rules, ℕ, ◌+◌, ◌*◌, ◌<◌, length, vec_items, sym, ap, ◌∙◌, subst, arith}
use Rattle.std.proofs.lemmas.List.FromFn.{length-map-range_with_len}
use Rattle.std.proofs.lemmas.List.Edits.{length-between}
use Rattle.isa.specs.Layout.{word}
use Rattle.rules.specs.Limits.{in_force}
use Rattle.rules.specs.Words.{block_of, kinds_of}
use Rattle.rules.specs.Block.{behind, card_at, BlockJudged}
use Rattle.rules.proofs.Parts.{lies, next_kept, first_broken, broken_low, edge-first, all_kept}
use Rattle.std.proofs.lemmas.Result.{err_from_is_err_and}
use Rattle.checker.specs.declared.fault.CheckFault.TheVariants.{Rule}
use Rattle.checker.specs.Passing.{Judged}
use Rattle.checker.proofs.Mapped.{made_of}
use Rattle.checker.proofs.check.Checker.check_blocks.Goals as goal

pub loop-b-init : goal.loop-b-init
loop-b-init c = let e = edge-first c.args.examined.now.layout.words.now c.args.examined.now.laid in ((λ q h. absurd (omega arith)), c.requires)

pub code-part-requires : goal.code-part-requires
code-part-requires c =
    let ws = c.args.examined.now.layout.words.now in
    let low : c.loop-b.b < word ws 1 = omega arith in
    let l = lies ws c.args.examined.now.laid c.loop-b.b _ _ low c.edge-from.ensures c.edge-to.ensures in
    record { order = omega arith; within = l.within }

pub check_part-requires : goal.check_part-requires
check_part-requires c =
    let ws = c.args.examined.now.layout.words.now in
    let low : c.loop-b.b < word ws 1 = omega arith in
    let l = lies ws c.args.examined.now.laid c.loop-b.b _ _ low c.edge-from.ensures c.edge-to.ensures in
    let n = ap length c.code-part.ensures ∙ length-between ws (2 + 2 * c.edge-from.result) (2 + 2 * c.edge-to.result) l.within in
    let m = ap length c.loop-b.invariant.1 ∙ length-map-range_with_len (block_of ws (word ws 0)) 0 (word ws 1) in
    let v = c.loop-b.self.blocks.ok.0 in
    record { there = omega arith; few = omega arith }

pub loop-b-preserved : goal.loop-b-preserved
loop-b-preserved c =
    let ws = c.args.examined.now.layout.words.now in
    let low : c.loop-b.b < word ws 1 = omega arith in (
      next_kept in_force ws c.args.examined.now.laid c.loop-b.b _ _ c.code-part.result.now (vec_items c.loop-b.self.blocks) low c.edge-from.ensures c.edge-to.ensures c.code-part.ensures
          c.loop-b.invariant.1 c.loop-b.invariant.0 (search rules),
      ap vec_items c.check_part.ensures.blocks ∙ c.loop-b.invariant.1,
    )

pub map_err-requires : goal.map_err-requires
map_err-requires c = λ e is κ m v r f u.
    let ws = c.args.examined.now.layout.words.now in
    let bs = vec_items c.loop-b.self.blocks in
    let low : c.loop-b.b < word ws 1 = omega arith in
    let P : Result (Unit {0}) ℕ → Type 0 = BlockJudged in_force bs (behind bs (c.loop-b.b + 1)) (card_at bs c.loop-b.b) (kinds_of c.code-part.result.now) in
    let k =
    broken_low in_force ws c.args.examined.now.laid c.loop-b.b _ _ c.code-part.result.now bs low c.edge-from.ensures c.edge-to.ensures c.code-part.ensures
    c.loop-b.invariant.1 c.loop-b.invariant.0 e (subst P is c.check_part.ensures.answer) in
    omega arith

pub returns-in_err-map_err : goal.returns-in_err-map_err
returns-in_err-map_err c =
    let ws = c.args.examined.now.layout.words.now in
    let bs = vec_items c.loop-b.self.blocks in
    let low : c.loop-b.b < word ws 1 = omega arith in
    let P : Result (Unit {0}) ℕ → Type 0 = BlockJudged in_force bs (behind bs (c.loop-b.b + 1)) (card_at bs c.loop-b.b) (kinds_of c.code-part.result.now) in
    let e = err_from_is_err_and c.from_residual.result c.from_residual.ensures.1 in
    let m = made_of _ c.check_part.result c.map_err.result c.in_err-map_err.field-0.0 c.map_err.ensures.cases c.in_err-map_err.was in
    let b =
    first_broken in_force ws c.args.examined.now.laid c.loop-b.b _ _ c.code-part.result.now bs low c.edge-from.ensures c.edge-to.ensures c.code-part.ensures
    c.loop-b.invariant.1 c.loop-b.invariant.0 m.0 (subst P m.1 c.check_part.ensures.answer) in
    let g : e.0 ≡ Rule (c.edge-from.result + m.0) = search rules in
    subst (Judged ws) (sym (e.1 ∙ ap Err g)) (c.args.examined.now.laid, b)

pub returns : goal.returns
returns c =
    let ws = c.args.examined.now.layout.words.now in
    (c.args.examined.now.laid.code, c.args.examined.now.laid.blocks, all_kept in_force ws c.loop-b.b (omega arith) c.loop-b.invariant.0)
