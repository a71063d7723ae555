use Rattle.std.proofs.Common.{◌≡◌, unwrap_or, sym, ap, ◌∙◌, rules}
use Rattle.std.specs.Option.{option_map}
use Rattle.std.proofs.lemmas.Iterator.Search.{find_from_yields_List}
use Rattle.std.proofs.lemmas.Iterator.Adapters.{YieldsList-from_rev_slice}
use Rattle.machine.specs.Pairs.{newest}
use Rattle.machine.specs.Queued.{queued}
use Rattle.machine.proofs.Pairs.{word, at?, newest_found, overlay_newest}
use Rattle.machine.proofs.queue.Queue.find.Goals as goal

pub returns : goal.returns
returns c =
    let q = queued c.args.self.now in
    let a = c.args.address in
    let found = find_from_yields_List (at? a) _ _ c.find-newest.result c.find-newest.ensures.ran (YieldsList-from_rev_slice q (search rules)) (λ x b f k. search rules) in
    let mapped : c.map.result ≡ word (option_map (λ p. p.now) c.find-newest.result) = search rules in
    let e : c.map.result ≡ newest q a = mapped ∙ ap word found ∙ sym (newest_found q a) in
    record { newest = e; over = λ words. overlay_newest q words a ∙ ap (λ o. unwrap_or o (words a)) (sym e) }
