use Rattle.std.proofs.Common.{◌≡◌, length, vec_items, vec_len, ap, ◌∙◌, arith}
use Rattle.translation.specs.Code.{build}
use Rattle.translation.specs.Compile.{whole}
use Rattle.compiler.specs.Selecting.{code_in}
use Rattle.compiler.proofs.Building.{selected, few-blocks, built}
use Rattle.compiler.proofs.tables.Compiler.build.Goals as goal

pub write_module-requires-clause-few : goal.write_module-requires-clause-few
write_module-requires-clause-few c =
    let nodes_are = c.nodes.ensures ∙ ap (λ t. vec_items t.nodes) c.plan-plan.ensures in
    let statements_are = c.statements.ensures ∙ ap (λ t. vec_items t.statements) c.plan-plan.ensures in
    let e : code_in c.select.new.self ≡ whole c.requires.small.0 =
    selected c.args.self.now.reader.plan c.requires.small.1 nodes_are statements_are c.select.ensures (omega arith) in
    few-blocks c.requires.small.0 (code_in c.select.new.self) c.requires.small.1.within e

pub returns-clause-built : goal.returns-clause-built
returns-clause-built c P S =
    let l = c.select.new.self in
    let w = c.write_module.ensures in
    let nodes_are = c.nodes.ensures ∙ ap (λ t. vec_items t.nodes) c.plan-plan.ensures in
    let statements_are = c.statements.ensures ∙ ap (λ t. vec_items t.statements) c.plan-plan.ensures in
    let e : code_in l ≡ whole P = selected c.args.self.now.reader.plan S nodes_are statements_are c.select.ensures (omega arith) in
    built P (code_in l) c.args.out.now c.write_module.new.out c.write_module.result
    (vec_len l.lines) (length (build (code_in l)).blocks)
    S.within e w.len c.requires.room w.count l.few (few-blocks P (code_in l) S.within e) w.written w.rest
