use Rattle.std.proofs.Common.{◌<◌, length, vec_items, ap, ◌∙◌, rules}
use Rattle.blocks.proofs.Entries.{node_numeral, num_read, no_number}
use Rattle.blocks.proofs.table.Table.number.Goals as goal

pub returns-in-Number : goal.returns-in-Number
returns-in-Number c =
    let ns = vec_items c.args.self.now.nodes in
    let low : c.args.x.index < length ns = search rules in
    num_read ns c.args.x _ _ c.args.self.now.closed low c.index-node.ensures ∙ ap node_numeral c.in-Number.is

pub returns-in_default : goal.returns-in_default
returns-in_default c =
    let ns = vec_items c.args.self.now.nodes in
    let low : c.args.x.index < length ns = search rules in
    num_read ns c.args.x _ _ c.args.self.now.closed low c.index-node.ensures ∙ no_number _ c.in_default.not-Number
