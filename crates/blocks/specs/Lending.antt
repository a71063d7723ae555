-- A note that is lent to be changed.
use Rattle.std.specs.Borrow.{Lends, MutBor, Fml}
use Rattle.std.specs.Vec.{with_item}
use Rattle.std.specs.contracts.option.Option as option
use Rattle.isa.specs.declared.kinds.Register.{Register}
use Rattle.blocks.specs.declared.notes.Notes.{Notes}
use Rattle.blocks.specs.contracts.notes.Notes as notes
use Rattle.blocks.specs.contracts.note.Noted as noted
use Rattle.blocks.specs.Reach.{Note}

-- s ends with register r's note being what n ends as
abbrev pub LendsNote : MutBor Notes → Register → MutBor Note → Fml
LendsNote s r n = Lends notes.the_row (option.the_row noted.the_row) s n (λ x. record { all = with_item s.now.all r.number x; full = s.now.full })
