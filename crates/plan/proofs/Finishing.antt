-- A whole text.
use Rattle.std.proofs.Common.{◌≡◌, ℕ, ◌+◌, ◌<◌, List, [], ◌∷◌, ◌++◌, length, true, false, IsErrAnd, Ok, Err, vec_items, Result as Res, sym, refl, ap, ◌∙◌, subst, arith}
use Rattle.std.specs.Result.{is_err}
use Rattle.language.specs.Limits.{repeats}
use Rattle.language.specs.Plans.{Tree, Plan, done}
use Rattle.grammar.specs.Begins.{begins}
use Rattle.grammar.specs.Verdict.{plan, fault}
use Rattle.grammar.proofs.Acceptor.{Base, top, body, plain, start}
use Rattle.plan.specs.declared.fault.ReadFault.{ReadFault}
use Rattle.plan.specs.declared.reader.Reader.{Reader}
use Rattle.plan.specs.declared.repeats.OpenRepeat.{OpenRepeat}
use Rattle.plan.specs.declared.tables.Plan.{Plan as Tables}
use Rattle.plan.specs.declared.tree.Node.{Node}
use Rattle.plan.specs.declared.tree.Statement.{Statement}
use Rattle.plan.specs.declared.tree.Statement.TheVariants.{End}
use Rattle.marks.specs.Endings.{ending}
use Rattle.plan.specs.Faults.{number, place}
use Rattle.plan.specs.Listing.{Lists, no_more, a_let, a_put, a_repeat}
use Rattle.plan.specs.Lining.{Finished, LinesTell}
use Rattle.plan.specs.Plans.{spent}
use Rattle.plan.specs.Reading.{rest, ask, judgement}
use Rattle.plan.specs.Reads.{Holds, Accepted, Faulty, Reads}
use Rattle.plan.specs.Showing.{Shows, at_top, in_repeat}
use Rattle.marks.specs.Spelling.{Scanned}
use Rattle.plan.specs.Tables.{total, own, loop, places}
use Rattle.plan.proofs.Lines.{rules}
use Rattle.plan.proofs.Listed.{prefix_none}

-- before the first line
pub empty_shows : (p : Tables) (os : List OpenRepeat) → vec_items p.nodes ≡ [] → vec_items p.statements ≡ [] → p.own ≡ 0 → os ≡ [] → Shows (vec_items p.nodes) (vec_items p.statements) (spent p) os (top plain)
empty_shows p os n s o e =
    let ns = vec_items p.nodes in
    let cost : 0 ≡ spent p = omega (arith, ap length n, p.nodes.ok.0, o) in
    subst (λ l. Shows ns (vec_items p.statements) (spent p) l (top plain)) (sym e)
    (subst (λ l. Shows ns l (spent p) [] (top plain)) (sym s) (subst (λ j. Shows ns [] j [] (top plain)) cost (at_top (prefix_none ns))))

-- with a REPEAT open
pub record Open (K : Base) : Type 0 where
  pub lines : Plan → Plan
  pub tree : Tree
  pub outer : Base
  pub is : K ≡ body lines tree outer

pub open_base : {ns : List Node} {ss : List Statement} {n : ℕ} {os : List OpenRepeat} {K : Base} → Shows ns ss n os K → 0 < length os → Open K
open_base (at_top P) l = absurd (omega (arith, l))
open_base (in_repeat {t = t} {f = f} {K = K} S M o q r P) l = record { lines = f; tree = t; outer = K; is = refl }

pub lines_err : {T : Type 0} (a b : Reader) (x : Res T ReadFault) (f : ReadFault) → IsErrAnd x (λ y. y ≡ f) → ask a 0 0 start ≡ judgement f → LinesTell a b x
lines_err a b (Ok u) f h e = absurd h
lines_err a b (Err y) f h e = e ∙ ap judgement (sym h)

-- the REPEATs of a plan are those of its statements
total_append : (f : Statement → ℕ) (xs ys : List Statement) → total f (xs ++ ys) ≡ total f xs + total f ys
total_append f [] ys = omega arith
total_append f (x ∷ xs) ys = omega (arith, total_append f xs ys)

lists_loops : {ns : List Node} {ss : List Statement} {p : Plan} → Lists ns ss p → total loop ss ≡ repeats p
lists_loops no_more = refl
lists_loops (a_let m h) = omega (arith, lists_loops h)
lists_loops (a_put m k h) = omega (arith, lists_loops h)
lists_loops (a_repeat {n = n} {bs = bs} {ss = ss} m b e h) = omega (arith, lists_loops b, lists_loops h, total_append loop bs (End n ∷ ss))

-- a text that was read, or refused
module _ (text : List ℕ) (a b : Reader) (s : Scanned text 0 (rest a) (ending a.marks.end)) where
  read_accepts : vec_items a.plan.statements ≡ [] → Finished a b → Accepted text b.plan
  read_accepts n f = record {
    marks = rest a;
    end = ending a.marks.end;
    tree = f.tree;
    scanned = s;
    judged = rules a (plan f.tree) f.says;
    holds = record {
      lists = f.lists;
      need_is = omega (arith, f.costs, b.plan.owned);
      repeats_is = b.plan.looped ∙ lists_loops f.lists;
    };
    places_are = f.places_are ∙ ap (λ l. places l ++ begins (rest a)) n;
  }

  read_refuses : (e : ReadFault) → ask a 0 0 start ≡ judgement e → Faulty text e
  read_refuses e f = record { marks = rest a; end = ending a.marks.end; scanned = s; judged = rules a (fault (number e) (place e)) f }

  pub read_ended : {T : Type 0} (r : Res T ReadFault) → is_err r ≡ false → vec_items a.plan.statements ≡ [] → LinesTell a b r → Reads text b.plan r
  read_ended (Ok u) e n h = read_accepts n h
  read_ended (Err f) e n h = absurd cc

  pub read_failed : {T : Type 0} (r : Res T ReadFault) (t : Tables) → is_err r ≡ true → Holds t done → LinesTell a b r → Reads text t r
  read_failed (Ok u) t e h l = absurd cc
  read_failed (Err f) t e h l = (read_refuses f l, h)

-- empty tables hold the empty plan
pub empty_holds : (t : Tables) → vec_items t.nodes ≡ [] → vec_items t.statements ≡ [] → Holds t done
empty_holds t n s = record {
  lists = subst (λ l. Lists (vec_items t.nodes) l done) (sym s) no_more;
  need_is = omega (arith, ap length n, t.nodes.ok.0, ap (total own) s);
  repeats_is = t.looped ∙ ap (total loop) s;
}
