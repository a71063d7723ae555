-- The text of an instruction, and of a register of a card.
use Rattle.std.specs.Prelude.{ℕ, List, [], ◌++◌, codes, decimal, Some, None}
use Rattle.isa.specs.Layout.{Slot}
use Rattle.isa.specs.declared.kinds.Arithmetic.TheVariants.{Add, Sub, Mul, Lt}
use Rattle.isa.specs.declared.kinds.Colour.{Colour}
use Rattle.isa.specs.declared.kinds.Colour.TheVariants.{Green, Blue}
use Rattle.isa.specs.declared.kinds.Register.{Register}
use Rattle.isa.specs.declared.kinds.Kind.{Kind}
use Rattle.isa.specs.declared.kinds.Kind.TheVariants.{Move, Copy, Arith, Load, Store, Jump, Branch, Halt}

-- the name of an instruction's operation, four letters wide
abbrev pub mnemonic : Kind → List ℕ
mnemonic (Move Green a n) = codes "movG"
mnemonic (Move Blue a n) = codes "movB"
mnemonic (Copy a b) = codes "cpy "
mnemonic (Arith Add a b c) = codes "add "
mnemonic (Arith Sub a b c) = codes "sub "
mnemonic (Arith Mul a b c) = codes "mul "
mnemonic (Arith Lt a b c) = codes "lt  "
mnemonic (Load Green a b) = codes "ldG "
mnemonic (Load Blue a b) = codes "ldB "
mnemonic (Store Green a b) = codes "stG "
mnemonic (Store Blue a b) = codes "stB "
mnemonic (Jump Green a) = codes "jmpG"
mnemonic (Jump Blue a) = codes "jmpB"
mnemonic (Branch Green a b) = codes "bzG "
mnemonic (Branch Blue a b) = codes "bzB "
mnemonic Halt = codes "halt"

-- a register by its number, behind a blank
abbrev pub register : Register → List ℕ
register a = codes " r" ++ decimal a.number

-- the registers and the number that an instruction uses
abbrev pub operands : Kind → List ℕ
operands (Move c a n) = register a ++ (codes " " ++ decimal n)
operands (Copy a b) = register a ++ register b
operands (Arith o a b c) = register a ++ (register b ++ register c)
operands (Load c a b) = register a ++ register b
operands (Store c a b) = register a ++ register b
operands (Jump c a) = register a
operands (Branch c a b) = register a ++ register b
operands Halt = []

abbrev pub instruction : Kind → List ℕ
instruction k = mnemonic k ++ operands k

abbrev pub colour : Colour → List ℕ
colour Green = codes "green"
colour Blue = codes "blue"

-- what a card says of a register; nothing of a free one
abbrev pub entry : ℕ → Slot → List ℕ
entry r None = []
entry r (Some (c, v)) = codes " r" ++ (decimal r ++ (codes "=" ++ (colour c ++ (codes " v" ++ decimal v.number))))
