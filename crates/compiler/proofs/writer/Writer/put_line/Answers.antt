use Rattle.std.proofs.Common.{◌+◌, ◌*◌, ap, ◌∙◌}
use Rattle.isa.specs.declared.kinds.Colour.TheVariants.{Blue}
use Rattle.compiler.specs.Doubling.{dye}
use Rattle.compiler.specs.Laying.{placed, entered}
use Rattle.compiler.specs.Writing.{laid}
use Rattle.compiler.proofs.writer.Writer.put_line.Goals as goal

pub returns-clause-writes : goal.returns-clause-writes
returns-clause-writes c =
    let s = c.args.self.now in
    let at = c.args.at in
    let f = entered (laid s) s.instructions s.blocks (2 * at) c.args.line.entry in
    let k = c.half.result.kind in
    let a = c.put_entry.ensures in
    let b = c.put_instruction.ensures.writes in
    let d = c.put_instruction-2.ensures.writes in
    record {
      lent = d.lent ∙ b.lent ∙ a.lent;
      len = d.len ∙ b.len ∙ a.len;
      words = d.words ∙ ap (λ g. placed g (2 * at + 1) c.half-2.result.kind) (b.words ∙ ap (λ g. placed g (2 * at) k) a.words)
          ∙ ap (λ x. placed (placed f (2 * at) k) (2 * at + 1) x) c.half-2.ensures
          ∙ ap (λ x. placed (placed f (2 * at) x) (2 * at + 1) (dye Blue c.args.line.single)) c.half.ensures;
      instructions = d.instructions ∙ b.instructions ∙ a.instructions;
      blocks = d.blocks ∙ b.blocks ∙ a.blocks;
    }
