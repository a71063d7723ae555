use Rattle.std.proofs.Common.{refl}
use Rattle.plan.proofs.Steps.{grew}
use Rattle.plan.proofs.reader.Reader.add.Goals as goal

pub returns : goal.returns
returns c =
    let q = c.add_node.ensures in
    grew c.args.self.now _ c.args.node c.add_node.result q.value refl refl q.nodes q.len q.statements q.own c.args.self.now.plan.nodes.ok.0
