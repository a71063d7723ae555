-- What the lines of a script do.
use Rattle.std.specs.Prelude.{ℕ, List, [], ◌∷◌, ◌++◌, Ok, Err, vec_items, Result, Vec}
use Rattle.script.specs.declared.command.Command.{Command}
use Rattle.script.specs.declared.command.Command.TheVariants as command
use Rattle.simulator.specs.declared.call.Call.{Call}
use Rattle.simulator.specs.declared.call.Call.TheVariants as call
use Rattle.std.specs.declared.alloc.Global.{Global}
use Rattle.talft.specs.declared.judge.Fault.{Fault}
use Rattle.talft.specs.declared.calls.Entry.{Entry}
use Rattle.talft.specs.declared.calls.Entry.TheVariants as entry

-- what a call does: loads words, or does what its command says
pub data Act : Type 0 where
  loading : List ℕ → Act
  doing : Command → Act

-- a call as an act
abbrev pub seen : Call → Act
seen (call.Load ws) = loading ws.now
seen (call.Put a w) = doing (command.Put a w)
seen (call.Run n) = doing (command.Run n)
seen (call.Strike p v) = doing (command.Strike p v)
seen (call.Look a) = doing (command.Look a)
seen (call.Probe p) = doing (command.Probe p)
seen call.Show = doing command.Show
seen call.Clear = doing command.Clear

-- commands that are calls by themselves
abbrev pub done : Command → List Act
done command.Blank = []
done command.Cells = []
done (command.Window s n) = []
done command.Plan = []
done command.Module = []
done command.Load = []
done (command.Put a w) = doing (command.Put a w) ∷ []
done (command.Run n) = doing (command.Run n) ∷ []
done (command.Strike p v) = doing (command.Strike p v) ∷ []
done (command.Look a) = doing (command.Look a) ∷ []
done (command.Probe p) = doing (command.Probe p) ∷ []
done command.Show = doing command.Show ∷ []
done command.Clear = doing command.Clear ∷ []

-- the acts of a line; loads load these words
abbrev pub act : List ℕ → Entry → List Act
act ws entry.Window = []
act ws (entry.Passed v) = []
act ws (entry.Faulty f) = []
act ws entry.Load = loading ws ∷ []
act ws (entry.Call c) = done c

-- the words that loads load behind a line: those of a plan or a module that passed, else the former ones
abbrev pub last_words : List ℕ → Entry → List ℕ
last_words ws entry.Window = ws
last_words ws (entry.Passed v) = vec_items v
last_words ws (entry.Faulty f) = ws
last_words ws entry.Load = ws
last_words ws (entry.Call c) = ws

-- the acts of lines in their order
abbrev pub acts : List ℕ → List Entry → List Act
acts ws [] = []
acts ws (e ∷ es) = act ws e ++ acts (last_words ws e) es

-- the line of a verdict on a plan or a module
abbrev pub verdict : Result (Vec ℕ Global) Fault → Entry
verdict (Ok v) = entry.Passed v
verdict (Err f) = entry.Faulty f
