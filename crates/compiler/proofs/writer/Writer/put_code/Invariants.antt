use Rattle.std.proofs.Common.{◌*◌, drop, vec_items}
use Rattle.translation.specs.Code.{doubled, blocks_from}
use Rattle.compiler.specs.Listing.{code_of}
use Rattle.compiler.specs.Selecting.{code_in}
use Rattle.compiler.specs.Stages.{Stage, missing}
use Rattle.compiler.specs.Writing.{laid, Writes}
use Rattle.compiler.proofs.writer.Writer.put_code.Given as goal

abbrev pub invariant-loop-i : goal.invariant-loop-i
invariant-loop-i l = record {
  writes : Writes l.initial.self l.self (laid l.self) l.self.blocks;
  stage : Stage l.initial.self.instructions (doubled (code_in l.code)) (blocks_from 0 (code_in l.code)) missing (laid l.initial.self) (laid l.self)
      (2 * l.i) l.self.blocks (doubled (code_of (drop l.i (vec_items l.code.lines)) l.code.entry)) (blocks_from l.i (code_of (drop l.i (vec_items l.code.lines)) l.code.entry));
}
