-- Reading a text. Must be believed: the text's marks (Scanned), the judgement of them (Judged), what tables hold a plan (Lists), and where expressions begin (begins).
use Rattle.std.specs.Prelude.{◌≡◌, ℕ, List, Ok, Err, vec_items, Result}
use Rattle.language.specs.Limits.{need, repeats}
use Rattle.language.specs.Plans.{Plan, done}
use Rattle.grammar.specs.declared.mark.Placed.{Placed}
use Rattle.grammar.specs.Begins.{begins}
use Rattle.grammar.specs.Verdict.{Ending, plan, fault, Judged}
use Rattle.marks.specs.Spelling.{Scanned}
use Rattle.plan.specs.declared.fault.ReadFault.{ReadFault}
use Rattle.plan.specs.declared.tables.Plan.{Plan as Tables}
use Rattle.plan.specs.Faults.{number, place}
use Rattle.plan.specs.Listing.{Lists}
use Rattle.plan.specs.Plans.{needed}
use Rattle.plan.specs.Tables.{places}

-- the tables hold this plan, with its need and its number of REPEATs
pub record Holds (t : Tables) (p : Plan) : Type 0 where
  pub lists : Lists (vec_items t.nodes) (vec_items t.statements) p
  pub need_is : needed t ≡ need p
  pub repeats_is : t.repeats ≡ repeats p

-- the text's marks are a plan within the limits of nesting; the tables hold it, with the byte at which each of its expressions begins
pub record Accepted (text : List ℕ) (t : Tables) : Type 0 where
  pub marks : List Placed
  pub end : Ending
  pub tree : Plan
  pub scanned : Scanned text 0 marks end
  pub judged : Judged marks end (plan tree)
  pub holds : Holds t tree
  pub places_are : places (vec_items t.statements) ≡ begins marks

-- this is the text's first fault
pub record Faulty (text : List ℕ) (e : ReadFault) : Type 0 where
  pub marks : List Placed
  pub end : Ending
  pub scanned : Scanned text 0 marks end
  pub judged : Judged marks end (fault (number e) (place e))

-- a text is read into tables, or refused for its first fault; then the tables are empty
abbrev pub Reads : {T : Type 0} → List ℕ → Tables → Result T ReadFault → Type 0
Reads text t (Ok u) = Accepted text t
Reads text t (Err e) = Faulty text e × Holds t done
