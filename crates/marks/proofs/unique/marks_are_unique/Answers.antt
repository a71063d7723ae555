use Rattle.std.proofs.Common.{refl}
use Rattle.marks.proofs.Every.{has_marks}
use Rattle.marks.proofs.Same.{marks_are_unique, judged_once, tree-is_unique}
use Rattle.marks.proofs.unique.marks_are_unique.Goals as goal

pub returns : goal.returns
returns c = record { one = refl; some = has_marks; marks = marks_are_unique; judged = judged_once; tree = tree-is_unique }
