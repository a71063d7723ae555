use Rattle.std.proofs.Common.{◌+◌, ap, ◌∙◌}
use Rattle.memory.specs.Cells.{replaced}
use Rattle.compiler.specs.Laying.{carded}
use Rattle.compiler.specs.Writing.{laid}
use Rattle.compiler.proofs.Filling.{carded-more}
use Rattle.compiler.proofs.writer.Writer.put_card.Goals as goal

pub loop-k-preserved : goal.loop-k-preserved
loop-k-preserved c =
    let at = c.args.at in
    let k = c.loop-k.k in
    let f = laid c.args.self.now in
    let a = c.loop-k.invariant in
    let b = c.put.ensures in
    record {
      lent = b.lent ∙ a.lent;
      len = b.len ∙ a.len;
      words = b.words ∙ ap (λ g. replaced g (at + k) c.card_word.result) a.words
          ∙ ap (λ w. replaced (carded f at c.args.twins k) (at + k) w) c.card_word.ensures ∙ carded-more f at c.args.twins k;
      instructions = b.instructions ∙ a.instructions;
      blocks = b.blocks ∙ a.blocks;
    }
