-- Inner: the code that is selected for the tables of a plan.
use Rattle.std.specs.Prelude.{List, vec_items}
use Rattle.language.specs.Limits.{Within, in_force}
use Rattle.language.specs.Plans.{Plan}
use Rattle.plan.specs.declared.tree.Node.{Node}
use Rattle.plan.specs.declared.tree.Statement.{Statement}
use Rattle.plan.specs.Listing.{Lists}
use Rattle.translation.specs.Code.{Code}
use Rattle.compiler.specs.declared.lines.Lines.{Lines}
use Rattle.compiler.specs.Listing.{code_of}

-- the tables are this plan, which is within the limits
pub record Small (ns : List Node) (ss : List Statement) (P : Plan) : Type 0 where
  pub lists : Lists ns ss P
  pub within : Within in_force P

-- the code of the lines, with the halt behind them
abbrev pub code_in : Lines → Code
code_in s = code_of (vec_items s.lines) s.entry
