-- Words: arithmetic on them, and an instruction as two words.
use Rattle.std.specs.Prelude.{ℕ, ◌+◌, ◌-◌, ◌*◌, ◌/◌, ◌%◌, ◌^◌, Bool, cond, not, ◌&&◌, ◌||◌, ◌==◌, bit_and, nat_lt}
use Rattle.isa.specs.declared.kinds.Arithmetic.{Arithmetic}
use Rattle.isa.specs.declared.kinds.Arithmetic.TheVariants.{Add, Sub, Mul, Lt}
use Rattle.isa.specs.declared.kinds.Colour.TheVariants.{Green, Blue}
use Rattle.isa.specs.declared.kinds.Register.{Register}
use Rattle.isa.specs.declared.kinds.Kind.{Kind}
use Rattle.isa.specs.declared.kinds.Kind.TheVariants.{Move, Copy, Arith, Load, Store, Jump, Branch, Halt}

-- the value of an operation on two words
abbrev pub alu : Arithmetic → ℕ → ℕ → ℕ
alu Add x y = (x + y) % 2 ^ 32
alu Sub x y = (x + (2 ^ 32 - y)) % 2 ^ 32
alu Mul x y = (x * y) % 2 ^ 32
alu Lt x y = cond (nat_lt x y) 1 0

-- the number of an instruction's operation
abbrev pub operation_of : Kind → ℕ
operation_of (Move Green a n) = 0
operation_of (Move Blue a n) = 1
operation_of (Copy a b) = 2
operation_of (Arith Add a b c) = 3
operation_of (Arith Sub a b c) = 4
operation_of (Arith Mul a b c) = 5
operation_of (Arith Lt a b c) = 6
operation_of (Load Green a b) = 7
operation_of (Load Blue a b) = 8
operation_of (Store Green a b) = 9
operation_of (Store Blue a b) = 10
operation_of (Jump Green a) = 11
operation_of (Jump Blue a) = 12
operation_of (Branch Green a b) = 13
operation_of (Branch Blue a b) = 14
operation_of Halt = 15

-- one word of an operation and three fields
abbrev pub packed : ℕ → ℕ → ℕ → ℕ → ℕ
packed op a b c = op * 2 ^ 24 + a * 2 ^ 16 + b * 2 ^ 8 + c

-- the first word of an instruction; a field that it does not use is 0
abbrev pub first_word : Kind → ℕ
first_word (Move c a n) = packed (operation_of (Move c a n)) a.number 0 0
first_word (Copy a b) = packed (operation_of (Copy a b)) a.number b.number 0
first_word (Arith o a b c) = packed (operation_of (Arith o a b c)) a.number b.number c.number
first_word (Load c a b) = packed (operation_of (Load c a b)) a.number b.number 0
first_word (Store c a b) = packed (operation_of (Store c a b)) a.number b.number 0
first_word (Jump c a) = packed (operation_of (Jump c a)) a.number 0 0
first_word (Branch c a b) = packed (operation_of (Branch c a b)) a.number b.number 0
first_word Halt = packed 15 0 0 0

-- the second word
abbrev pub second_word : Kind → ℕ
second_word (Move c a n) = n
second_word (Copy a b) = 0
second_word (Arith o a b c) = 0
second_word (Load c a b) = 0
second_word (Store c a b) = 0
second_word (Jump c a) = 0
second_word (Branch c a b) = 0
second_word Halt = 0

-- the fields of a first word
abbrev pub operation : ℕ → ℕ
operation w = w / 2 ^ 24

abbrev pub field_a : ℕ → ℕ
field_a w = w / 2 ^ 16 % 2 ^ 8

abbrev pub field_b : ℕ → ℕ
field_b w = w / 2 ^ 8 % 2 ^ 8

abbrev pub field_c : ℕ → ℕ
field_c w = w % 2 ^ 8

-- which fields an operation uses: 8 for a, 4 for b, 2 for c, 1 for imm
abbrev pub mask : ℕ → ℕ
mask op =
    cond (nat_lt op 2) 9
    (cond (nat_lt op 3) 12
    (cond (nat_lt op 7) 14
    (cond (nat_lt op 11) 12
    (cond (nat_lt op 13) 8
    (cond (nat_lt op 15) 12 0)))))

abbrev pub uses : ℕ → ℕ → Bool
uses op field = not (bit_and (mask op) field == 0)

-- a register's field: a register's number where it is used, else 0
abbrev pub fits : Bool → ℕ → Bool
fits used field = cond used (nat_lt field 32) (field == 0)

-- the words are an instruction
abbrev pub well_formed : ℕ → ℕ → Bool
well_formed w imm =
    nat_lt (operation w) 16
    && (fits (uses (operation w) 8) (field_a w) && (fits (uses (operation w) 4) (field_b w) && (fits (uses (operation w) 2) (field_c w) && (uses (operation w) 1 || imm == 0))))

-- the register that a field names, register 0 where it is not used
abbrev pub named : Bool → ℕ → Register
named used field = record { number = cond used (field % 32) 0 }

-- the instruction with this operation and these operands
abbrev pub kind_by : ℕ → Register → Register → Register → ℕ → Kind
kind_by op a b c imm =
    cond (op == 0) (Move Green a imm)
    (cond (op == 1) (Move Blue a imm)
    (cond (op == 2) (Copy a b)
    (cond (op == 3) (Arith Add a b c)
    (cond (op == 4) (Arith Sub a b c)
    (cond (op == 5) (Arith Mul a b c)
    (cond (op == 6) (Arith Lt a b c)
    (cond (op == 7) (Load Green a b)
    (cond (op == 8) (Load Blue a b)
    (cond (op == 9) (Store Green a b)
    (cond (op == 10) (Store Blue a b)
    (cond (op == 11) (Jump Green a)
    (cond (op == 12) (Jump Blue a)
    (cond (op == 13) (Branch Green a b)
    (cond (op == 14) (Branch Blue a b) Halt))))))))))))))

-- the instruction that two words are, read by the low bits of the fields that its operation uses
abbrev pub kind_of : ℕ → ℕ → Kind
kind_of w imm =
    let op : ℕ = operation w % 16 in
    kind_by op (named (uses op 8) (field_a w)) (named (uses op 4) (field_b w)) (named (uses op 2) (field_c w)) (cond (uses op 1) imm 0)
