-- Why words do not pass the check.
use Rattle.std.specs.Prelude.{◌≡◌, ℕ, false, List}
use Rattle.isa.specs.declared.layout.LayoutFault.{LayoutFault}
use Rattle.isa.specs.declared.layout.LayoutFault.TheVariants as layout
use Rattle.isa.specs.Layout.{code_fits, LaidOut, BadBlock}
use Rattle.rules.specs.Limits.{in_force}
use Rattle.rules.specs.Module.{BreaksAt}
use Rattle.rules.specs.Words.{module_of}
use Rattle.checker.specs.declared.fault.CheckFault.{CheckFault}
use Rattle.checker.specs.declared.fault.CheckFault.TheVariants.{Malformed, Block, Rule}

abbrev pub number_of : CheckFault → ℕ
number_of Malformed = 7
number_of (Block b) = 8
number_of (Rule p) = 9

-- the block, the instruction, or 0 where no place is named
abbrev pub place_of : CheckFault → ℕ
place_of Malformed = 0
place_of (Block b) = b
place_of (Rule p) = p

-- a fault of the layout, as a fault of the check
abbrev pub lifted : LayoutFault → CheckFault
lifted layout.Malformed = Malformed
lifted (layout.Block b) = Block b

-- this is the words' first fault: length, counts, operations and fields go before starts and cards, those before
-- the rules, and each goes by its place
abbrev pub Faulty : List ℕ → CheckFault → Type 0
Faulty ws Malformed = code_fits ws ≡ false
Faulty ws (Block b) = BadBlock ws b
Faulty ws (Rule p) = LaidOut ws × BreaksAt in_force (module_of ws) p
