use Rattle.std.proofs.Common.{◌≡◌, eqb, vec_items, sym, ◌∙◌, rules}
use Rattle.blocks.proofs.Entries.{same-entry}
use Rattle.blocks.proofs.table.Table.same.Goals as goal

pub returns : goal.returns
returns c =
    let t = c.args.self.now in
    let e : c.eq.result ≡ eqb c.args.x.index c.args.y.index = search rules in
    e ∙ sym (same-entry (vec_items t.nodes) c.args.x c.args.y t.once (search rules) (search rules))
