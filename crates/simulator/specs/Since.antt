-- What happened since the last accepted load, and what is found then.
use Rattle.std.specs.Prelude.{◌≡◌, ℕ, ◌+◌, ◌≤◌, Bool, List, [], ◌∷◌, Some, None, Ok, Err, Option}
use Rattle.rules.specs.Words.{module_of}
use Rattle.soundness.specs.Finding.{IsReport, Undisturbed, Found, AreCells}
use Rattle.simulator.specs.declared.call.Reply.TheVariants.{Done, Ran, Struck, Word, Shown}
use Rattle.simulator.specs.declared.call.Call.{Call}
use Rattle.simulator.specs.declared.call.Call.TheVariants.{Load, Put, Run, Strike, Look, Probe, Show, Clear}
use Rattle.simulator.specs.Model.{Loaded, Model}
use Rattle.simulator.specs.Replay.{Answer, respond, verdict}

-- the module's words and the cells at the load, and the strikes accepted and the steps answered since
pub record Since : Type 0 where
  pub words : List ℕ
  pub cells : ℕ → ℕ
  pub strikes : ℕ
  pub steps : ℕ

abbrev pub nothing : Since
nothing = record { words = []; cells = λ a. 0; strikes = 0; steps = 0 }

-- an accepted load begins anew
abbrev pub at_load : List ℕ → (ℕ → ℕ) → Since → Answer → Since
at_load ws cells l (Ok Done) = record { words = ws; cells = cells; strikes = 0; steps = 0 }
at_load ws cells l (Ok (Ran n e)) = l
at_load ws cells l (Ok (Struck b)) = l
at_load ws cells l (Ok (Word v)) = l
at_load ws cells l (Ok (Shown e n c)) = l
at_load ws cells l (Err e) = l

-- an accepted run adds the steps that it answered
abbrev pub at_run : Since → Answer → Since
at_run l (Ok Done) = l
at_run l (Ok (Ran n e)) = record { words = l.words; cells = l.cells; strikes = l.strikes; steps = l.steps + n }
at_run l (Ok (Struck b)) = l
at_run l (Ok (Word v)) = l
at_run l (Ok (Shown e n c)) = l
at_run l (Err e) = l

-- an accepted strike is one more
abbrev pub at_strike : Since → Answer → Since
at_strike l (Ok Done) = l
at_strike l (Ok (Ran n e)) = l
at_strike l (Ok (Struck b)) = record { words = l.words; cells = l.cells; strikes = l.strikes + 1; steps = l.steps }
at_strike l (Ok (Word v)) = l
at_strike l (Ok (Shown e n c)) = l
at_strike l (Err e) = l

-- one call more, made of the simulator s
abbrev pub entered : Since → Model → Call → Answer → Since
entered l s (Load ws) a = at_load ws.now s.cells.word l a
entered l s (Put address word) a = l
entered l s (Run n) a = at_run l a
entered l s (Strike place value) a = at_strike l a
entered l s (Look address) a = l
entered l s (Probe place) a = l
entered l s Show a = l
entered l s Clear a = l

-- along the calls and their answers, from the simulator s
abbrev pub since : Since → Model → List Call → List Answer → Since
since l s [] answers = l
since l s (c ∷ cs) [] = l
since l s (c ∷ cs) (a ∷ rest) = since (entered l s c a) (respond (verdict a) c s).1 cs rest

-- what is found of a module's run x, where the cells at which w is true are writable, and t is the simulator
pub record RunFound (w : ℕ → Bool) (l : Since) (t : Model) (x : Loaded) : Type 0 where
  -- the module is that of the last accepted load
  pub code : x.code ≡ (module_of l.words).code
  -- the cells of its run are those that look answers
  pub looked : x.run.state.cells ≡ t.cells.word
  -- its steps are the sum of those that accepted runs answered
  pub steps : x.run.steps ≡ l.steps
  -- with no strike: as the unstruck run, and no report
  pub calm : l.strikes ≡ 0 → (Undisturbed w (module_of l.words).code l.cells x.run) × (IsReport x.run.end → ⊥)
  -- with one strike at most: as the unstruck run, or a report
  pub single : l.strikes ≤ 1 → Found w (module_of l.words).code l.cells x.run

-- while the simulator is idle, there is nothing to find
abbrev pub FoundIn : (ℕ → Bool) → Since → Model → Option Loaded → Type 0
FoundIn w l t None = Unit {0}
FoundIn w l t (Some x) = RunFound w l t x

-- The finding, for calls that were made of a simulator that was idle, over cells that are words. The premise on the cells is
-- there because a memory's contract says of single answers only that they are words. It is needed at the start alone: what
-- calls write are words.
abbrev pub FoundAfter : Model → List Call → List Answer → Model → Type 0
FoundAfter s calls answers t =
    s.loaded ≡ None → AreCells s.cells.word → FoundIn s.cells.writable (since nothing s calls answers) t t.loaded
