-- The number, the place and the layer of each fault that reading a text can find. Must be believed.
use Rattle.std.specs.Prelude.{ℕ, List, codes}
use Rattle.plan.specs.declared.fault.Layer.{Layer}
use Rattle.plan.specs.declared.fault.Layer.TheVariants.{Marks, Reader, Builder}
use Rattle.marks.specs.declared.fault.MarkFault.TheVariants.{Strange}
use Rattle.plan.specs.declared.fault.ReadFault.{ReadFault}
use Rattle.plan.specs.declared.fault.ReadFault.TheVariants.{Mark, Grammar, Nesting}

-- 3: a strange mark; 4: a mark, or an end, with which no plan goes on; 5: one bracket or REPEAT too many
abbrev pub number : ReadFault → ℕ
number (Mark m) = 3
number (Grammar at) = 4
number (Nesting at) = 5

-- the byte of the text at which the fault stands
abbrev pub place : ReadFault → ℕ
place (Mark (Strange at)) = at
place (Grammar at) = at
place (Nesting at) = at

-- the layer that found it
abbrev pub layer : ReadFault → Layer
layer (Mark m) = Marks
layer (Grammar at) = Reader
layer (Nesting at) = Reader

-- the name of a layer, as hosts are told it
abbrev pub layer_name : Layer → List ℕ
layer_name Marks = codes "marks"
layer_name Reader = codes "reader"
layer_name Builder = codes "builder"
