-- One call more.
use Rattle.std.proofs.Common.{◌≡◌, List, [], ◌∷◌, ◌++◌}
use mathlib.Core.Path.{subst₃}
use Rattle.simulator.specs.Model.{Model}
use Rattle.simulator.specs.Replay.{Answer, Responds, Replays}
use Rattle.simulator.specs.Replay.Replays.{none, more}
use Rattle.simulator.specs.declared.call.Call.{Call}

pub replays_more : {s m t : Model} {qs : List Call} {answers : List Answer} {q : Call} {a : Answer} → Replays s qs answers m → Responds q m a t → Replays s (qs ++ q ∷ []) (answers ++ a ∷ []) t
replays_more none r = more r none
replays_more (more h hs) r = more h (replays_more hs r)

pub replays_along : {s u t : Model} {ps qs : List Call} {xs ys : List Answer} → s ≡ u → ps ≡ qs → xs ≡ ys → Replays s ps xs t → Replays u qs ys t
replays_along {t = t} p q r h = subst₃ (λ k ks ls. Replays k ks ls t) p q r h
