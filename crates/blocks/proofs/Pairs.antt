-- Equal pairs of entries are equal pairs of trees.
use Rattle.std.proofs.Common.{◌≡◌, ◌≤◌, Bool, false, ◌&&◌, eqb, List, [], ◌∷◌, map, length, Some, None, Option, Bor, MatchOption, sym, ap, ap₂, ◌∙◌, arith}
use Rattle.std.specs.Option.{option_copied, option_map_or}
use Rattle.std.specs.List.{slice_get}
use Rattle.std.proofs.lemmas.Option.{none-some}
use Rattle.rules.specs.Rules.{oldest?}
use Rattle.blocks.specs.Trees.{Node, at, trees, Once}
use Rattle.blocks.specs.Reach.{Pair, reach_pair, PairsBelow}
use Rattle.blocks.specs.View.{pair_in}
use Rattle.blocks.proofs.Entries.{same-entry}

-- what `==` answers of two pairs
abbrev pub equal? : Pair → Pair → Bool
equal? p q = eqb p.address.index q.address.index && eqb p.word.index q.word.index

-- the oldest of these pairs is p, where the first of them equals it
pub oldest-is : (ns : List Node) (P : List Pair) (p : Pair) (o : Option (Bor Pair)) (r : Bool) → Once (trees ns) → PairsBelow (length ns) P → reach_pair p ≤ length ns
    → option_copied o ≡ slice_get P 0 → MatchOption o (r ≡ false) (λ q. r ≡ equal? p q.now) → r ≡ oldest? (map (pair_in (trees ns)) P) (at (trees ns) p.address) (at (trees ns) p.word)
oldest-is ns [] p None r u b l h m = m
oldest-is ns [] p (Some x) r u b l h m = absurd (none-some x.now (sym h))
oldest-is ns (q ∷ P) p None r u b l h m = absurd (none-some q h)
oldest-is ns (q ∷ P) p (Some x) r u b l h m =
    let k : reach_pair q ≤ length ns = b 0 (omega arith) in
    m ∙ ap (λ o. option_map_or (equal? p) o false) h
    ∙ sym (ap₂ (λ a w. a && w) (same-entry ns p.address q.address u (omega arith) (omega arith)) (same-entry ns p.word q.word u (omega arith) (omega arith)))
