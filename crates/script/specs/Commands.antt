-- The commands of a script, by the words of a line.
use Rattle.std.specs.Prelude.{ℕ, cond, List, [], ◌∷◌, Some, None, codes, Option}
use Rattle.std.specs.Option.{option_or}
use Rattle.std.specs.Str.{bytes_eq}
use Rattle.script.specs.declared.command.Command.{Command}
use Rattle.script.specs.declared.command.Command.TheVariants as command
use Rattle.script.specs.declared.verb.Verb.{Verb}
use Rattle.script.specs.declared.verb.Verb.TheVariants as verb
use Rattle.text.specs.Numbers.{word, wide}

-- the word that a line begins with: of lines that say what there is, and of calls; no other is one
abbrev pub setting_of : List ℕ → Option Verb
setting_of w =
    cond (bytes_eq w (codes "cells")) (Some verb.Cells)
    (cond (bytes_eq w (codes "window")) (Some verb.Window)
    (cond (bytes_eq w (codes "plan")) (Some verb.Plan)
    (cond (bytes_eq w (codes "module")) (Some verb.Module) None)))

abbrev pub call_of : List ℕ → Option Verb
call_of w =
    cond (bytes_eq w (codes "load")) (Some verb.Load)
    (cond (bytes_eq w (codes "put")) (Some verb.Put)
    (cond (bytes_eq w (codes "run")) (Some verb.Run)
    (cond (bytes_eq w (codes "strike")) (Some verb.Strike)
    (cond (bytes_eq w (codes "look")) (Some verb.Look)
    (cond (bytes_eq w (codes "probe")) (Some verb.Probe)
    (cond (bytes_eq w (codes "show")) (Some verb.Show)
    (cond (bytes_eq w (codes "clear")) (Some verb.Clear) None)))))))

abbrev pub verb_of : List ℕ → Option Verb
verb_of w = option_or (setting_of w) (call_of w)

-- where a part is none, so is the whole
abbrev pub with : {X Y : Type 0} → Option X → (X → Option Y) → Option Y
with None f = None
with (Some x) f = f x

-- the only word, the only two; a command that has none behind it
abbrev pub one : List (List ℕ) → Option (List ℕ)
one [] = None
one (w ∷ []) = Some w
one (w ∷ x ∷ ws) = None

abbrev pub two : List (List ℕ) → Option (List ℕ × List ℕ)
two [] = None
two (w ∷ ws) = with (one ws) (λ x. Some (w, x))

abbrev pub alone : List (List ℕ) → Command → Option Command
alone [] c = Some c
alone (w ∷ ws) c = None

-- numbers of 32 bits as the only words
abbrev pub number : List (List ℕ) → Option ℕ
number ws = with (one ws) word

abbrev pub numbers : List (List ℕ) → Option (ℕ × ℕ)
numbers ws = with (two ws) (λ p. with (word p.0) (λ x. with (word p.1) (λ y. Some (x, y))))

-- the command of a verb with the words behind it
abbrev pub said : Verb → List (List ℕ) → Option Command
said verb.Cells ws = Some command.Cells
said verb.Window ws = with (two ws) (λ p. with (wide p.0) (λ x. with (wide p.1) (λ y. Some (command.Window x y))))
said verb.Plan ws = with (one ws) (λ w. Some command.Plan)
said verb.Module ws = with (one ws) (λ w. Some command.Module)
said verb.Load ws = alone ws command.Load
said verb.Put ws = with (numbers ws) (λ p. Some (command.Put p.0 p.1))
said verb.Run ws = with (number ws) (λ n. Some (command.Run n))
said verb.Strike ws = with (numbers ws) (λ p. Some (command.Strike p.0 p.1))
said verb.Look ws = with (number ws) (λ n. Some (command.Look n))
said verb.Probe ws = with (number ws) (λ n. Some (command.Probe n))
said verb.Show ws = alone ws command.Show
said verb.Clear ws = alone ws command.Clear

-- the command of a line's words; a line of none is blank
abbrev pub command_of : List (List ℕ) → Option Command
command_of [] = Some command.Blank
command_of (w ∷ ws) = with (verb_of w) (λ v. said v ws)
