use Rattle.std.proofs.Common.{◌≡◌, vec_len, refl, ap}
use native.Mathlib.Nat.{ℕ_set}
use Rattle.std.specs.Vec.{with_item}
use Rattle.blocks.specs.declared.notes.Notes.{Notes}
use Rattle.blocks.proofs.notes.Notes.note_mut.Goals as goal

pub returns : goal.returns
returns c = (
  (
    refl,
    λ w. ap (λ (p : vec_len (with_item c.args.self.now.all c.args.r.number w) ≡ 32).
        let s : Notes = record { all = with_item c.args.self.now.all c.args.r.number w; full = p } in s) (ℕ_set _ _ _ _),
  ),
  tt,
)
