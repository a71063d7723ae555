-- Inner: the cards of compiled code, as words.
use Rattle.std.specs.Prelude.{ℕ, ◌+◌, ◌*◌, cond, nat_lt}

-- the bytes of twin t's registers on a card that gives the first n twins a variable each: green t, then blue t
abbrev pub twin_bytes : ℕ → ℕ → ℕ
twin_bytes n t = cond (nat_lt t n) ((t + 1) * 256 + (t + 129)) 0
