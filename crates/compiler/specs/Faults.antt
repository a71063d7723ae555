-- The number, the byte and the layer of each fault of the compiler.
use Rattle.std.specs.Prelude.{ℕ}
use Rattle.plan.specs.declared.fault.Layer.{Layer}
use Rattle.plan.specs.declared.fault.Layer.TheVariants.{Builder}
use Rattle.plan.specs.Faults as read
use Rattle.compiler.specs.declared.fault.CompileFault.{CompileFault}
use Rattle.compiler.specs.declared.fault.CompileFault.TheVariants.{LongText, ShortOutput, Read, Wide, Large}

abbrev pub number : CompileFault → ℕ
number LongText = 1
number ShortOutput = 2
number (Read f) = read.number f
number (Wide p) = 5
number Large = 6

abbrev pub place : CompileFault → ℕ
place LongText = 0
place ShortOutput = 0
place (Read f) = read.place f
place (Wide p) = p
place Large = 0

abbrev pub layer : CompileFault → Layer
layer LongText = Builder
layer ShortOutput = Builder
layer (Read f) = read.layer f
layer (Wide p) = Builder
layer Large = Builder
