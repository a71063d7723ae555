-- What the layout test answers.
use Rattle.std.specs.Prelude.{◌≡◌, ℕ, false, List, Ok, Err, Result}
use Rattle.isa.specs.declared.layout.LayoutFault.{LayoutFault}
use Rattle.isa.specs.declared.layout.LayoutFault.TheVariants.{Malformed, Block}
use Rattle.isa.specs.declared.module.Module.{Module}
use Rattle.isa.specs.Layout.{word, code_fits, LaidOut, BadBlock}

-- a fault's number and place
abbrev pub number : LayoutFault → ℕ
number Malformed = 7
number (Block b) = 8

abbrev pub place : LayoutFault → ℕ
place Malformed = 0
place (Block b) = b

-- these words as a module, with its counts, or the first fault
abbrev pub Examined : List ℕ → Result Module LayoutFault → Type 0
Examined ws (Ok m) = LaidOut ws × (m.layout.words.now ≡ ws) × (m.layout.instructions ≡ word ws 0) × (m.blocks ≡ word ws 1)
Examined ws (Err Malformed) = code_fits ws ≡ false
Examined ws (Err (Block b)) = BadBlock ws b
