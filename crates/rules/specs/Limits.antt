-- The limits of modules.
use Rattle.std.specs.Prelude.{ℕ}

pub record Limits : Type 0 where
  -- instructions of a module
  pub instructions : ℕ
  -- blocks of a module
  pub blocks : ℕ
  -- stores that green may be ahead of blue
  pub queue : ℕ

-- the limits in force
abbrev pub in_force : Limits
in_force = record { instructions = 1024; blocks = 64; queue = 16 }
