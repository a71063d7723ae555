use Rattle.std.proofs.Common.{◌≡◌, map, vec_items}
use Rattle.std.specs.List.{range_with_len}
use Rattle.isa.specs.Layout.{word}
use Rattle.rules.specs.Words.{block_of}
use Rattle.checker.proofs.check.Checker.read_blocks.Given as goal

abbrev pub invariant-loop-b : goal.invariant-loop-b
invariant-loop-b l = vec_items l.self.blocks ≡ map (block_of l.examined.layout.words.now (word l.examined.layout.words.now 0)) (range_with_len 0 l.b)
