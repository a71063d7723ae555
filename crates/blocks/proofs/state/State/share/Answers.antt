use Rattle.std.proofs.Common.{◌≡◌, length, vec_items, vec_len, arith, rules}
use Rattle.blocks.specs.View.{known}
use Rattle.blocks.proofs.Entries.{length-trees}
use Rattle.blocks.proofs.Views.{view_kept}
use Rattle.blocks.proofs.state.State.share.Goals as goal

pub returns-clause-same : goal.returns-clause-same
returns-clause-same c =
    let s = c.args.self.now in
    let len : length (known s) ≡ vec_len s.table.nodes = search (rules, length-trees) in
    view_kept (known s) _ c.intern.ensures.kept (vec_items s.notes.all) (vec_items s.pending) s.green s.blue s.destination
    (λ r. omega (arith, s.noted r)) (λ k h. omega (arith, s.queued k h)) (omega (arith, s.bound))
