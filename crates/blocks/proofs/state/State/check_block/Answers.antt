use Rattle.std.proofs.Common.{◌≡◌, ℕ, false, Err, Result, is_some, is_ok, sym, ap, ◌∙◌, subst, arith, below_more, rules}
use Rattle.rules.specs.Limits.{in_force}
use Rattle.rules.specs.Notes.{Static}
use Rattle.rules.specs.Block.{behind, BlockJudged}
use Rattle.rules.specs.Words.{block_code}
use Rattle.rules.proofs.Befores.{before-none}
use Rattle.blocks.proofs.Blocks.{place-goes, place_kept, pairs_length, kind_at}
use Rattle.blocks.proofs.state.State.check_block.Goals as goal

pub loop-i-init : goal.loop-i-init
loop-i-init c =
    let v = c.begin.ensures.after in
    let g = ap (λ (S : Static). S.k_g) v in
    let b = ap (λ (S : Static). S.k_b) v in
    (v ∙ sym (before-none _ _), (λ k h. absurd (omega arith)), c.begin.ensures.entries, omega arith, omega arith)

pub loop-i-preserved : goal.loop-i-preserved
loop-i-preserved c =
    let p = c.place.ensures in
    let P = c.instructions_of-pairs.result.now in
    let code = c.instructions_of-pairs.ensures.code in
    let n = pairs_length P _ code in
    let x = kind_at P _ c.loop-i.i _ _ (omega arith) code c.decode-instruction.ensures.value in
    let some = sym c.ok_or.ensures.variant ∙ ap is_ok c.in_ok-ok_or.was in
    let v = c.loop-i.invariant.0 in (
      place-goes _ _ c.loop-i.i _ _ _ x v (p.after some),
      below_more _ _ c.loop-i.invariant.1 (place_kept _ in_force _ _ _ _ _ c.loop-i.i _ _ n x v p.answer ∙ some),
      omega arith,
      omega arith,
      omega arith,
    )

pub returns-in_err-ok_or : goal.returns-in_err-ok_or
returns-in_err-ok_or c =
    let P = c.instructions_of-pairs.result.now in
    let code = c.instructions_of-pairs.ensures.code in
    let n = pairs_length P _ code in
    let x = kind_at P _ c.loop-i.i _ _ (omega arith) code c.decode-instruction.ensures.value in
    let none : is_some c.place.result ≡ false = sym c.ok_or.ensures.variant ∙ ap is_ok c.in_err-ok_or.was in
    let e : c.from_residual.result ≡ Err c.loop-i.i = search rules in
    let J : Result (Unit {0}) ℕ → Type 0 = BlockJudged in_force c.args.blocks.now (behind c.args.blocks.now c.args.next) c.args.card.now (block_code in_force c.args.part.now) in
    subst J (sym e) (omega arith, c.loop-i.invariant.1, place_kept _ in_force _ _ _ _ _ c.loop-i.i _ _ n x c.loop-i.invariant.0 c.place.ensures.answer ∙ none)
