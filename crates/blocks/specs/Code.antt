-- A block's words as instructions, two words each.
use Rattle.std.specs.Prelude.{ℕ, List, slice_index}
use Rattle.isa.specs.declared.kinds.Kind.{Kind}
use Rattle.isa.specs.Words.{kind_of}

abbrev pub pair_kind : List ℕ → Kind
pair_kind pair = kind_of (slice_index pair 0) (slice_index pair 1)
