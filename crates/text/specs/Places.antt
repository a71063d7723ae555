-- Lines and columns.
use Rattle.std.specs.Prelude.{ℕ, ◌-◌, not, List, length, take, drop, ◌==◌, count_by}
use Rattle.std.specs.List.{suffix_len, before_first}

-- the newlines among some bytes: a byte's line is one more than those before it
abbrev pub newlines : List ℕ → ℕ
newlines bs = count_by (λ b. b == 10) bs

-- how many bytes stand behind the last newline: a byte's column is one more than those between its line's beginning
-- and it
abbrev pub since : List ℕ → ℕ
since bs = suffix_len (λ b. not (b == 10)) bs

-- the line in which a byte stands, without its newline
abbrev pub line_at : List ℕ → ℕ → List ℕ
line_at text at = before_first (λ b. b == 10) (drop (length (take at text) - since (take at text)) text)
