-- Inner: a module as it is written into an output.
use Rattle.std.specs.Prelude.{◌≡◌, ℕ, length}
use Rattle.compiler.specs.declared.writer.Writer.{Writer}
use Rattle.compiler.specs.Laying.{words}

-- the word at each index of its output
abbrev pub laid : Writer → ℕ → ℕ
laid s = words s.out.now

-- t is s with these words in the same output, and with so many blocks
pub record Writes (s t : Writer) (f : ℕ → ℕ) (b : ℕ) : Type 0 where
  pub lent : t.out.ghost_name ≡ s.out.ghost_name
  pub len : length t.out.now ≡ length s.out.now
  pub words : laid t ≡ f
  pub instructions : t.instructions ≡ s.instructions
  pub blocks : t.blocks ≡ b
