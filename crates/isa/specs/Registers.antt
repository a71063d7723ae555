-- The registers that an instruction names.
use Rattle.std.specs.Prelude.{ℕ, suc, max}
use Rattle.isa.specs.declared.kinds.Kind.{Kind}
use Rattle.isa.specs.declared.kinds.Kind.TheVariants.{Move, Copy, Arith, Load, Store, Jump, Branch, Halt}

-- an instruction names registers below this number
abbrev pub registers : Kind → ℕ
registers (Move c a n) = suc a.number
registers (Copy a b) = max (suc a.number) (suc b.number)
registers (Arith o a b c) = max (suc a.number) (max (suc b.number) (suc c.number))
registers (Load c a b) = max (suc a.number) (suc b.number)
registers (Store c a b) = max (suc a.number) (suc b.number)
registers (Jump c a) = suc a.number
registers (Branch c a b) = max (suc a.number) (suc b.number)
registers Halt = 0
