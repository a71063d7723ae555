-- The open REPEATs, while the plan grows.
use Rattle.std.proofs.Common.{◌≡◌, ◌+◌, ◌<◌, ◌≤◌, List, [], ◌∷◌, ◌++◌, vec_len, ap, arith}
use Rattle.plan.specs.declared.repeats.OpenRepeat.{OpenRepeat}
use Rattle.plan.specs.declared.tables.Plan.{Plan}
use Rattle.plan.specs.Plans.{spent}
use Rattle.plan.specs.declared.reader.Reader.{Reader}
use Rattle.plan.specs.Reading.{Goes, Opened}

opened_more : (p q : Plan) (xs : List OpenRepeat) → vec_len p.statements ≤ vec_len q.statements → spent p ≤ spent q → Opened p xs → Opened q xs
opened_more p q [] l m h = tt
opened_more p q (x ∷ xs) l m h = (omega (arith, h.0), omega (arith, h.1), opened_more p q xs l m h.2)

module _ (p : Plan) (x : OpenRepeat) where
  pub opened_push : (xs : List OpenRepeat) → Opened p xs → x.statement < vec_len p.statements → x.need ≤ spent p → Opened p (xs ++ (x ∷ []))
  opened_push [] h l m = (l, m, tt)
  opened_push (y ∷ ys) h l m = (h.0, h.1, opened_push ys h.2 l m)

  pub opened_rest : (xs : List OpenRepeat) → Opened p (xs ++ (x ∷ [])) → Opened p xs
  opened_rest [] h = tt
  opened_rest (y ∷ ys) h = (h.0, h.1, opened_rest ys h.2)

  pub opened_last : (xs : List OpenRepeat) → Opened p (xs ++ (x ∷ [])) → (x.statement < vec_len p.statements) × (x.need ≤ spent p)
  opened_last [] h = (h.0, h.1)
  opened_last (y ∷ ys) h = opened_last ys h.2

-- .. by a part of a line, by a statement
pub opened-goes : {a b : Reader} (xs : List OpenRepeat) → Goes a b → Opened a.plan xs → Opened b.plan xs
opened-goes {a} {b} xs g h = opened_more a.plan b.plan xs (omega (arith, ap vec_len g.statements)) (omega (arith, g.more, g.own)) h

pub opened_laid : {a b : Reader} (p : Plan) (xs : List OpenRepeat) → Goes a b → p.nodes ≡ b.plan.nodes → vec_len p.statements ≡ vec_len b.plan.statements + 1 → b.plan.own ≤ p.own → Opened a.plan xs → Opened p xs
opened_laid {a} {b} p xs g n s o h = opened_more a.plan p xs (omega (arith, s, ap vec_len g.statements)) (omega (arith, g.more, g.own, ap vec_len n, o)) h
