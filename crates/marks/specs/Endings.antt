-- Where the scanner stopped. Must be believed.
use Rattle.std.specs.Prelude.{ℕ, Ok, Err, Result}
use Rattle.grammar.specs.Verdict.{Ending, text_end, strange}
use Rattle.marks.specs.declared.fault.MarkFault.{MarkFault}
use Rattle.marks.specs.declared.fault.MarkFault.TheVariants.{Strange}

-- at the text's end, or at a strange mark
abbrev pub ending : Result ℕ MarkFault → Ending
ending (Ok n) = text_end n
ending (Err (Strange n)) = strange n
