use Rattle.std.proofs.Common.{vec_items, ap, ◌∙◌, rules}
use Rattle.std.specs.List.{slice_get}
use Rattle.blocks.proofs.Pairs.{oldest-is}
use Rattle.blocks.proofs.state.State.is_oldest.Goals as goal

pub returns : goal.returns
returns c =
    let s = c.args.self.now in
    oldest-is (vec_items s.table.nodes) (vec_items s.pending) c.args.pair c.first.result c.is_some_and.result s.table.once (search rules) (search rules)
    (c.first.ensures.value ∙ ap (λ l. slice_get l 0) c.deref.ensures.value) (search rules)
