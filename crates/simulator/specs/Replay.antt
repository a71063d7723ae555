-- Lists of calls: what they answer, and the simulator after them.
use Rattle.std.specs.Prelude.{◌≡◌, ℕ, List, [], ◌∷◌, Ok, Err, Result}
use Rattle.rules.specs.Words.{module_of}
use Rattle.checker.specs.declared.fault.CheckFault.{CheckFault}
use Rattle.checker.specs.Passing.{Judged}
use Rattle.soundness.specs.Strikes.{Word as IsWord}
use Rattle.soundness.specs.Finding.{AreWords}
use Rattle.simulator.specs.declared.call.Reply.{Reply}
use Rattle.simulator.specs.declared.call.Reply.TheVariants.{Done, Ran, Struck, Word, Shown}
use Rattle.simulator.specs.declared.call.CallFault.{CallFault}
use Rattle.simulator.specs.declared.call.CallFault.TheVariants.{Unfit, Refused}
use Rattle.simulator.specs.declared.call.Call.{Call}
use Rattle.simulator.specs.declared.call.Call.TheVariants.{Load, Put, Run, Strike, Look, Probe, Show, Clear}
use Rattle.simulator.specs.declared.refusal.Refusal.{Refusal}
use Rattle.simulator.specs.Calls.{Answered, loads, puts, runs, strikes, looks, probes, shows, clears}
use Rattle.simulator.specs.Model.{Model}

-- the verdict of the check on a load's words, as the answer shows it
abbrev pub Verdict : Type 0
Verdict = Result (Unit {0}) CheckFault

-- a reply, or why the call was not made
abbrev pub Answer : Type 0
Answer = Result Reply CallFault

abbrev pub verdict : Answer → Verdict
verdict (Ok r) = Ok tt
verdict (Err (Unfit f)) = Err f
verdict (Err (Refused e)) = Ok tt

abbrev pub by_result : {T : Type 0} → (T → Reply) → Result T Refusal → Answer
by_result f (Ok x) = Ok (f x)
by_result f (Err e) = Err (Refused e)

abbrev pub answered : {T : Type 0} → (T → Reply) → Answered T → Answer × Model
answered f r = (by_result f r.0, r.1)

-- words that pass are loaded; others are no call of the simulator, and change nothing
abbrev pub load_words : Verdict → List ℕ → Model → Answer × Model
load_words (Ok u) ws s = answered (λ _. Done) (loads (module_of ws).code s)
load_words (Err f) ws s = (Err (Unfit f), s)

-- the answer to a call, and the simulator after it
abbrev pub respond : Verdict → Call → Model → Answer × Model
respond v (Load ws) s = load_words v ws.now s
respond v (Put address word) s = answered (λ _. Done) (puts address word s)
respond v (Run n) s = answered (λ t. Ran t.0 t.1) (runs n s)
respond v (Strike place value) s = answered Struck (strikes place value s)
respond v (Look address) s = (Ok (Word (looks address s)), s)
respond v (Probe place) s = (by_result Word (probes place s), s)
respond v Show s = (Ok (Shown (shows s).end (shows s).steps (shows s).stores), s)
respond v Clear s = answered (λ _. Done) (clears s)

-- the verdict is that of the check
abbrev pub JudgedCall : Call → Verdict → Type 0
JudgedCall (Load ws) v = Judged ws.now v
JudgedCall (Put address word) v = Unit {0}
JudgedCall (Run n) v = Unit {0}
JudgedCall (Strike place value) v = Unit {0}
JudgedCall (Look address) v = Unit {0}
JudgedCall (Probe place) v = Unit {0}
JudgedCall Show v = Unit {0}
JudgedCall Clear v = Unit {0}

-- what a call would write are words
abbrev pub Sized : Call → Type 0
Sized (Load ws) = AreWords ws.now
Sized (Put address word) = IsWord word
Sized (Run n) = Unit {0}
Sized (Strike place value) = IsWord value
Sized (Look address) = Unit {0}
Sized (Probe place) = Unit {0}
Sized Show = Unit {0}
Sized Clear = Unit {0}

-- the call has this answer, and leads from one simulator to the other
pub record Responds (c : Call) (s : Model) (a : Answer) (t : Model) : Type 0 where
  pub sized : Sized c
  pub judged : JudgedCall c (verdict a)
  pub answer : a ≡ (respond (verdict a) c s).0
  pub after : t ≡ (respond (verdict a) c s).1

-- the calls, in order, have these answers and lead from one simulator to the other
pub data Replays : Model → List Call → List Answer → Model → Type 0 where
  none : {s : Model} → Replays s [] [] s
  more : {s m t : Model} {c : Call} {a : Answer} {cs : List Call} {rest : List Answer} → Responds c s a m → Replays m cs rest t → Replays s (c ∷ cs) (a ∷ rest) t
