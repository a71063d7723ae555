use Rattle.std.proofs.Common.{◌<◌, cond, List, [], ◌∷◌, ◌++◌, map, length, sym, ap, ◌∙◌, arith}
use Rattle.std.specs.List.{range_with_len}
use Rattle.std.proofs.lemmas.List.FromFn.{length-map-range_with_len, map-range_with_len_more}
use Rattle.std.proofs.lemmas.Bool.{lt-ltb}
use Rattle.isa.specs.declared.kinds.Kind.{Kind}
use Rattle.isa.specs.Layout.{kind_at}
use Rattle.machine.specs.Views.{kinds}
use Rattle.simulator.proofs.fill.fill_code.Goals as goal

-- one instruction more
pub loop-place-preserved : goal.loop-place-preserved
loop-place-preserved c =
    let p = c.loop-place.place in
    let f = kind_at c.args.words.now in
    let l = kinds c.loop-place.code in
    let inv = c.loop-place.invariant in
    let k = c.instruction_at.result.kind in
    let low : length l < 1024 = omega (arith, ap length inv ∙ length-map-range_with_len f 0 p, c.loop-place-test.true, c.requires, c.instruction_count-place-end.ensures) in
    c.push.ensures.after
    ∙ ap (λ b. cond b (l ++ (k ∷ [])) l) (c.push.ensures.room ∙ lt-ltb (length l) 1024 low)
    ∙ ap (λ (x : List Kind). x ++ (k ∷ [])) inv
    ∙ ap (λ (x : Kind). map f (range_with_len 0 p) ++ (x ∷ [])) c.instruction_at.ensures
    ∙ sym (map-range_with_len_more f 0 p p (omega arith))
