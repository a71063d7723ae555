use Rattle.std.proofs.Common.{◌≡◌, true, None, Some, sym, subst, arith, rules, tests}
use Rattle.isa.specs.Layout.{word, block_fits, every, LaidOut}
use Rattle.isa.proofs.Tested.{every_by_find}
use Rattle.isa.proofs.layout.examine.Goals as goal

pub invariant_of-result : goal.invariant_of-result
invariant_of-result c =
    let ws = c.args.words.now in
    let fits = block_fits ws (word ws 0) in
    let all = every_by_find c.block_count-blocks.result fits _ None _ c.in-None.ensures.ran (λ x q k. search (rules, tests)) (λ x q k. search (rules, tests)) in
    let laid : LaidOut ws = record { code = search rules; blocks = subst (λ n. every n fits ≡ true) c.block_count-blocks.ensures all } in
    record {
      laid = subst LaidOut (sym c.new-layout.ensures.words) laid;
      instructions_counted = search rules;
      blocks_counted = search rules;
    }

pub returns-in-Some : goal.returns-in-Some
returns-in-Some c =
    let ws = c.args.words.now in
    let first =
    every_by_find c.block_count-blocks.result (block_fits ws (word ws 0)) _ (Some c.in-Some.block) _ c.in-Some.ensures.ran (λ x q k. search (rules, tests)) (λ x q k. search (rules, tests)) in
    record { code = search rules; there = omega (arith, first.0); before = first.1; bad = first.2 }
