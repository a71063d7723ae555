-- What a memory means: the word at each address, and which addresses are writable. Addresses are 0 to 2^32 - 1.
use Rattle.std.specs.Prelude.{ℕ, ◌+◌, ◌^◌, Bool, cond, ◌&&◌, ◌==◌, nat_lt}

pub record Cells : Type 0 where
  pub word : ℕ → ℕ
  pub writable : ℕ → Bool

-- the words with `value` at `address`
abbrev pub replaced : (ℕ → ℕ) → ℕ → ℕ → ℕ → ℕ
replaced words address value = λ at. cond (at == address) value (words at)

-- a store: it replaces one word, or alters nothing where the address is not writable
abbrev pub stored : Cells → ℕ → ℕ → Cells
stored cells address value = record {
  word = cond (cells.writable address) (replaced cells.word address value) cells.word;
  writable = cells.writable;
}

-- the addresses of a window; where start + length is at most 2^32, these are the addresses below the length
abbrev pub inside : ℕ → ℕ → ℕ → Bool
inside start length at = nat_lt at length && nat_lt (start + at) (2 ^ 32)

-- a window: address a below the length is start + a underneath; every other one reads as 0 and is not writable
abbrev pub windowed : Cells → ℕ → ℕ → Cells
windowed cells start length = record {
  word = λ at. cond (inside start length at) (cells.word (start + at)) 0;
  writable = λ at. inside start length at && cells.writable (start + at);
}
