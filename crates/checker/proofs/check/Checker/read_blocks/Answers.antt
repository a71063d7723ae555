use Rattle.std.proofs.Common.{◌<◌, [], ◌∷◌, ◌++◌, map, length, sym, ap, ◌∙◌, arith}
use Rattle.std.specs.List.{range_with_len}
use Rattle.std.proofs.lemmas.List.FromFn.{length-map-range_with_len, map-range_with_len_more}
use Rattle.isa.specs.Layout.{word}
use Rattle.rules.specs.Words.{block_of}
use Rattle.rules.proofs.Layouts.{few}
use Rattle.rules.proofs.Parts.{read_block}
use Rattle.checker.proofs.check.Checker.read_blocks.Goals as goal

pub push_reserved-requires : goal.push_reserved-requires
push_reserved-requires c =
    let ws = c.args.examined.now.layout.words.now in
    let f = few ws c.args.examined.now.laid.code in
    let l = ap length c.loop-b.invariant ∙ length-map-range_with_len (block_of ws (word ws 0)) 0 c.loop-b.b in
    let v = c.loop-b.self.blocks.ok.0 in
    let r = c.loop-b.self.room in
    omega arith

pub loop-b-preserved : goal.loop-b-preserved
loop-b-preserved c =
    let ws = c.args.examined.now.layout.words.now in
    let i = c.loop-b.b in
    let low : i < word ws 1 = omega arith in
    let b = read_block ws c.args.examined.now.laid.blocks c.args.examined.now.layout.instructions i c.block.result c.args.examined.now.instructions_counted low c.block.ensures.start c.block.ensures.card in
    c.push_reserved.ensures.items
    ∙ ap (λ l. l ++ (c.block.result ∷ [])) c.loop-b.invariant
    ∙ ap (λ x. map (block_of ws (word ws 0)) (range_with_len 0 i) ++ (x ∷ [])) b
    ∙ sym (map-range_with_len_more (block_of ws (word ws 0)) 0 i i (omega arith))
