-- What a plan needs. Must be believed; `spent` serves the inner contracts too.
use Rattle.std.specs.Prelude.{ℕ, ◌+◌, ◌*◌, vec_items, vec_len}
use Rattle.plan.specs.declared.tables.Plan.{Plan}
use Rattle.plan.specs.Tables.{total, own}

-- the instructions that the lines read so far need: two for each node, and those of each statement
abbrev pub spent : Plan → ℕ
spent p = 2 * vec_len p.nodes + p.own

-- a plan's need: 13 instructions, and those of all lines
abbrev pub needed : Plan → ℕ
needed p = 13 + 2 * vec_len p.nodes + total own (vec_items p.statements)
