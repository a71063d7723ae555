use Rattle.std.proofs.Common.{ℕ, ◌+◌, ◌<◌, List, length, vec_items, subst, arith, rules}
use Rattle.std.proofs.lemmas.List.{take_all}
use Rattle.rules.specs.Limits.{in_force}
use Rattle.rules.specs.Block.{behind, card_at, BlockJudged}
use Rattle.rules.specs.Words.{kinds_of}
use Rattle.rules.proofs.Parts.{judged_read}
use Rattle.checker.proofs.check.Checker.check_part.Goals as goal

pub returns : goal.returns
returns c =
    let bs = vec_items c.args.self.now.blocks in
    let v = c.args.self.now.blocks.ok.0 in
    let low : c.args.b < length bs = omega arith in
    let P : List ℕ → Type 0 = λ ws. BlockJudged in_force bs (behind bs (c.args.b + 1)) (card_at bs c.args.b) (kinds_of ws) c.check_block.result in
    record {
      answer = subst P (take_all 2048 c.args.part.now c.requires.few) (judged_read in_force bs _ _ c.args.b _ _ _ c.as_slice.ensures.value low c.index.ensures c.check_block.ensures);
      blocks = search rules;
    }
