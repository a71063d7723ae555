use Rattle.std.proofs.Common.{◌≡◌, ◌+◌, ◌-◌, [], ◌∷◌, ◌++◌, length, take, drop, Err, sym, ap, ◌∙◌, subst, append_assoc, append-nil, arith, rules}
use Rattle.grammar.specs.Verdict.{text_end, strange}
use Rattle.marks.specs.declared.fault.MarkFault.TheVariants.{Strange}
use Rattle.marks.specs.Endings.{ending}
use Rattle.marks.specs.Finding.{Whole, part}
use Rattle.marks.specs.Spelling.{NoMark, Spells, Scanned}
use Rattle.marks.proofs.Scanning.{part-is, front-whole, front-at, scan_blank, scan_mark, scan_strange, scan_end}
use Rattle.marks.proofs.text.Marks.scan_all.Goals as goal

pub loop-first-preserved-then-first-eq32 : goal.loop-first-preserved-then-first-eq32
loop-first-preserved-then-first-eq32 c =
    let inv = c.loop-first.invariant in
    let b = c.in-Some.first.now in
    let s = c.in-Some.behind.now in
    let e = c.in-Some.ensures.cases in
    let n = length c.args.text.now - length c.loop-first.rest.now in (
      omega (arith, inv.0, e.1),
      inv.1,
      λ ps z h. inv.2 ps z (subst (λ l. Scanned l n ps z) (sym e.0) (scan_blank b s n _ c.if-first-eq32.true (omega (arith, inv.0, e.1)) h)),
    )

pub spelled-requires : goal.spelled-requires
spelled-requires c =
    let b = c.in-Some.first.now in
    let s = c.in-Some.behind.now in
    let k = 1 + c.run_len.result in
    let q : k ≡ part (b ∷ s) = part-is b s _ _ c.of.ensures c.run_len.ensures in
    subst Whole (sym (c.split_at.ensures.front ∙ ap (take k) c.in-Some.ensures.cases.0 ∙ front-at b s k q)) (front-whole (b ∷ s) (omega arith))

pub returns-in_err-mark-clause-scanned : goal.returns-in_err-mark-clause-scanned
returns-in_err-mark-clause-scanned c =
    let inv = c.loop-first.invariant in
    let b = c.in-Some.first.now in
    let s = c.in-Some.behind.now in
    let k = 1 + c.run_len.result in
    let n = length c.args.text.now - length c.loop-first.rest.now in
    let e = c.in-Some.ensures.cases in
    let q : k ≡ part (b ∷ s) = part-is b s _ _ c.of.ensures c.run_len.ensures in
    let none : NoMark c.split_at.result.0.now = search rules in
    let h = scan_strange b s k q n c.if-first-eq32.false (subst NoMark (c.split_at.ensures.front ∙ ap (take k) e.0) none) in
    let r : c.from_residual.result ≡ Err (Strange n) = search rules in
    let z = inv.2 [] (strange n) (subst (λ l. Scanned l n [] (strange n)) (sym e.0) h) in
    subst (λ x. Scanned c.args.text.now 0 c.loop-first.self.placed.items (ending x)) (sym r) (subst (λ l. Scanned c.args.text.now 0 l (strange n)) (append-nil _) z)

pub loop-first-preserved : goal.loop-first-preserved
loop-first-preserved c =
    let inv = c.loop-first.invariant in
    let b = c.in-Some.first.now in
    let s = c.in-Some.behind.now in
    let k = 1 + c.run_len.result in
    let t = c.args.text.now in
    let n = length t - length c.loop-first.rest.now in
    let e = c.in-Some.ensures.cases in
    let q : k ≡ part (b ∷ s) = part-is b s _ _ c.of.ensures c.run_len.ensures in
    let m = c.in_ok-mark.mark in
    let spells : Spells c.split_at.result.0.now m = search rules in
    let spells-take = subst (λ l. Spells l m) (c.split_at.ensures.front ∙ ap (take k) e.0) spells in
    let l : length t - length c.split_at.result.1.now ≡ n + k = omega (arith, inv.0, c.split_at.ensures.back_len) in
    let back = c.split_at.ensures.back ∙ ap (drop k) e.0 in
    let ps₀ = c.loop-first.self.placed.items in (
      omega (arith, inv.0, c.split_at.ensures.back_len, c.push_reserved.ensures.len),
      inv.1,
      λ ps z h. subst (λ r. Scanned t 0 r z) (sym (append_assoc ps₀ (record { mark = m; place = n } ∷ []) ps) ∙ ap (λ r. r ++ ps) (sym c.push_reserved.ensures.items))
          (inv.2 (record { mark = m; place = n } ∷ ps) z (subst (λ l. Scanned l n (record { mark = m; place = n } ∷ ps) z) (sym e.0)
          (scan_mark b s k q n m spells-take (subst (λ i. Scanned (drop k (b ∷ s)) i ps z) l (subst (λ r. Scanned r (length t - length c.split_at.result.1.now) ps z) back h))))),
    )

pub returns-clause-scanned : goal.returns-clause-scanned
returns-clause-scanned c =
    let inv = c.loop-first.invariant in
    let t = c.args.text.now in
    let none : length c.loop-first.rest.now ≡ 0 = search rules in
    let z = inv.2 [] (text_end (length t)) (scan_end c.loop-first.rest.now _ _ none (omega (arith, none))) in
    subst (λ l. Scanned t 0 l (text_end (length t))) (append-nil _) z
