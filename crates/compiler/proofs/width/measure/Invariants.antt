use Rattle.std.proofs.Common.{◌≡◌, ℕ, ◌≤◌, get_or, vec_items, vec_len, vec_capacity}
use Rattle.compiler.specs.Widths.{Measured}
use Rattle.compiler.proofs.width.measure.Given as goal

abbrev pub invariant-loop-node : goal.invariant-loop-node
invariant-loop-node l = record {
  len : vec_len l.widths ≡ l.node-index;
  capacity : vec_capacity l.widths ≡ vec_capacity l.initial.widths;
  room : 8192 ≤ vec_capacity l.widths;
  low : (k : ℕ) → get_or (vec_items l.widths) k 0 ≤ l.node-index;
  measured : Measured l.node-items (vec_items l.widths);
}
