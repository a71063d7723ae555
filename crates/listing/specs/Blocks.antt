-- The blocks of a module.
use Rattle.std.specs.Prelude.{ℕ, ◌+◌, cond, List, nat_lt}
use Rattle.isa.specs.Layout.{word, start_at}

-- where a block ends: the start of the next one, and behind the last one the count of instructions
abbrev pub block_end : List ℕ → ℕ → ℕ
block_end ws b = cond (nat_lt (b + 1) (word ws 1)) (start_at ws (word ws 0) (b + 1)) (word ws 0)
