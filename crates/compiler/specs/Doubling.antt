-- Inner, doubling: one colour's half of an instruction over twins.
use Rattle.std.specs.Prelude.{◌+◌, ◌*◌}
use Rattle.isa.specs.declared.kinds.Colour.{Colour}
use Rattle.isa.specs.declared.kinds.Colour.TheVariants.{Green, Blue}
use Rattle.isa.specs.declared.kinds.Register.{Register}
use Rattle.isa.specs.declared.kinds.Kind.{Kind}
use Rattle.isa.specs.declared.kinds.Kind.TheVariants as kind
use Rattle.compiler.specs.declared.twin.Twin.{Twin}
use Rattle.compiler.specs.declared.line.Source.{Source}
use Rattle.compiler.specs.declared.line.Source.TheVariants.{Number, Copy, Operation, Cell}
use Rattle.compiler.specs.declared.line.Single.{Single}
use Rattle.compiler.specs.declared.line.Single.TheVariants.{Set, Store, Jump, Branch}

-- a twin's register of a colour: green is 2i, blue is 2i + 1
abbrev pub twin_register : Colour → Twin → Register
twin_register Green t = record { number = 2 * t.number }
twin_register Blue t = record { number = 2 * t.number + 1 }

abbrev pub set_kind : Colour → Register → Source → Kind
set_kind c a (Number n) = kind.Move c a n
set_kind c a (Copy t) = kind.Copy a (twin_register c t)
set_kind c a (Operation o t u) = kind.Arith o a (twin_register c t) (twin_register c u)
set_kind c a (Cell t) = kind.Load c a (twin_register c t)

abbrev pub dye : Colour → Single → Kind
dye c (Set t s) = set_kind c (twin_register c t) s
dye c (Store t u) = kind.Store c (twin_register c t) (twin_register c u)
dye c (Jump t) = kind.Jump c (twin_register c t)
dye c (Branch t u) = kind.Branch c (twin_register c t) (twin_register c u)
