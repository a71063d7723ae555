-- The words of an instruction are well formed, and are read as that instruction.
use Rattle.std.proofs.Common.{◌≡◌, ℕ, ◌%◌, ◌<◌, ◌≤◌, true, cond, ◌&&◌, ◌||◌, eqb, ltb, refl, ap, ◌∙◌, arith}
use Rattle.std.specs.Cmp.Derive.{both_true}
use Rattle.std.proofs.Math.Nat.{mod-eq_of_lt}
use Rattle.std.proofs.lemmas.Bool.{lt-ltb}
use Rattle.isa.specs.Registers.{registers}
use Rattle.isa.specs.Words.{packed, operation, field_a, field_b, field_c, uses, fits, well_formed, named, kind_by, kind_of}
use Rattle.rules.specs.Expressions.{Add, Sub, Mul, Lt}
use Rattle.rules.specs.Notes.{Colour, green, blue, Register, Kind, mov, cpy, arith as calc, ld, st, jmp, bz, halt}
use Rattle.translation.specs.Checked.{Readable}

abbrev r : ℕ → Register
r x = record { number = x }

module _ (op a b c imm : ℕ) (o : op < 16) (la : a < 32) (lb : b < 32) (lc : c < 32) where
  op_is : operation (packed op a b c) ≡ op
  op_is = omega arith

  op_low : operation (packed op a b c) % 16 ≡ op
  op_low = omega arith

  a_is : field_a (packed op a b c) ≡ a
  a_is = omega arith

  b_is : field_b (packed op a b c) ≡ b
  b_is = omega arith

  c_is : field_c (packed op a b c) ≡ c
  c_is = omega arith

  -- what is read, by the operation and the fields
  unpacked : kind_of (packed op a b c) imm ≡ kind_by op (named (uses op 8) a) (named (uses op 4) b) (named (uses op 2) c) (cond (uses op 1) imm 0)
  unpacked j = kind_by (op_low j) (named (uses (op_low j) 8) (a_is j)) (named (uses (op_low j) 4) (b_is j)) (named (uses (op_low j) 2) (c_is j)) (cond (uses (op_low j) 1) imm 0)

  formed : well_formed (packed op a b c) imm ≡ (ltb op 16 && (fits (uses op 8) a && (fits (uses op 4) b && (fits (uses op 2) c && (uses op 1 || eqb imm 0)))))
  formed j = ltb (op_is j) 16 && (fits (uses (op_is j) 8) (a_is j) && (fits (uses (op_is j) 4) (b_is j) && (fits (uses (op_is j) 2) (c_is j) && (uses (op_is j) 1 || eqb imm 0))))

-- one register and a number; one register; two; three
module _ (a : Register) (la : a.number < 32) where
  read_mov : (c : Colour) (n : ℕ) → Readable (mov c a n)
  read_mov green n = (
    unpacked 0 a.number 0 0 n (omega arith) la (omega arith) (omega arith) ∙ ap (λ x. mov green (r x) n) (mod-eq_of_lt la),
    formed 0 a.number 0 0 n (omega arith) la (omega arith) (omega arith) ∙ both_true (lt-ltb a.number 32 la) refl,
  )
  read_mov blue n = (
    unpacked 1 a.number 0 0 n (omega arith) la (omega arith) (omega arith) ∙ ap (λ x. mov blue (r x) n) (mod-eq_of_lt la),
    formed 1 a.number 0 0 n (omega arith) la (omega arith) (omega arith) ∙ both_true (lt-ltb a.number 32 la) refl,
  )

  read_jmp : (c : Colour) → Readable (jmp c a)
  read_jmp green = (
    unpacked 11 a.number 0 0 0 (omega arith) la (omega arith) (omega arith) ∙ ap (λ x. jmp green (r x)) (mod-eq_of_lt la),
    formed 11 a.number 0 0 0 (omega arith) la (omega arith) (omega arith) ∙ both_true (lt-ltb a.number 32 la) refl,
  )
  read_jmp blue = (
    unpacked 12 a.number 0 0 0 (omega arith) la (omega arith) (omega arith) ∙ ap (λ x. jmp blue (r x)) (mod-eq_of_lt la),
    formed 12 a.number 0 0 0 (omega arith) la (omega arith) (omega arith) ∙ both_true (lt-ltb a.number 32 la) refl,
  )

  module _ (b : Register) (lb : b.number < 32) where
    two_fit : (ltb a.number 32 && (ltb b.number 32 && true)) ≡ true
    two_fit = both_true (lt-ltb a.number 32 la) (both_true (lt-ltb b.number 32 lb) refl)

    -- an instruction of two registers, f being what the operation does
    two_read : (op : ℕ) (f : Register → Register → Kind) → op < 16 →
        kind_by op (named (uses op 8) a.number) (named (uses op 4) b.number) (named (uses op 2) 0) (cond (uses op 1) 0 0) ≡ f (r (a.number % 32)) (r (b.number % 32)) →
        (ltb op 16 && (fits (uses op 8) a.number && (fits (uses op 4) b.number && (fits (uses op 2) 0 && (uses op 1 || eqb 0 0))))) ≡ (ltb a.number 32 && (ltb b.number 32 && true)) →
        (kind_of (packed op a.number b.number 0) 0 ≡ f a b) × (well_formed (packed op a.number b.number 0) 0 ≡ true)
    two_read op f o k w = (
      unpacked op a.number b.number 0 0 o la lb (omega arith) ∙ k ∙ (λ j. f (r (mod-eq_of_lt la j)) (r (mod-eq_of_lt lb j))),
      formed op a.number b.number 0 0 o la lb (omega arith) ∙ w ∙ two_fit,
    )

    read_cpy : Readable (cpy a b)
    read_cpy = two_read 2 (λ x y. cpy x y) (omega arith) refl refl

    read_ld : (c : Colour) → Readable (ld c a b)
    read_ld green = two_read 7 (λ x y. ld green x y) (omega arith) refl refl
    read_ld blue = two_read 8 (λ x y. ld blue x y) (omega arith) refl refl

    read_st : (c : Colour) → Readable (st c a b)
    read_st green = two_read 9 (λ x y. st green x y) (omega arith) refl refl
    read_st blue = two_read 10 (λ x y. st blue x y) (omega arith) refl refl

    read_bz : (c : Colour) → Readable (bz c a b)
    read_bz green = two_read 13 (λ x y. bz green x y) (omega arith) refl refl
    read_bz blue = two_read 14 (λ x y. bz blue x y) (omega arith) refl refl

    module _ (c : Register) (lc : c.number < 32) where
      three_read : (op : ℕ) (f : Register → Register → Register → Kind) → op < 16 →
          kind_by op (named (uses op 8) a.number) (named (uses op 4) b.number) (named (uses op 2) c.number) (cond (uses op 1) 0 0) ≡ f (r (a.number % 32)) (r (b.number % 32)) (r (c.number % 32)) →
          (ltb op 16 && (fits (uses op 8) a.number && (fits (uses op 4) b.number && (fits (uses op 2) c.number && (uses op 1 || eqb 0 0)))))
          ≡ (ltb a.number 32 && (ltb b.number 32 && (ltb c.number 32 && true))) →
          (kind_of (packed op a.number b.number c.number) 0 ≡ f a b c) × (well_formed (packed op a.number b.number c.number) 0 ≡ true)
      three_read op f o k w = (
        unpacked op a.number b.number c.number 0 o la lb lc ∙ k ∙ (λ j. f (r (mod-eq_of_lt la j)) (r (mod-eq_of_lt lb j)) (r (mod-eq_of_lt lc j))),
        formed op a.number b.number c.number 0 o la lb lc ∙ w ∙ both_true (lt-ltb a.number 32 la) (both_true (lt-ltb b.number 32 lb) (both_true (lt-ltb c.number 32 lc) refl)),
      )

      read_calc : (o : _) → Readable (calc o a b c)
      read_calc Add = three_read 3 (λ x y z. calc Add x y z) (omega arith) refl refl
      read_calc Sub = three_read 4 (λ x y z. calc Sub x y z) (omega arith) refl refl
      read_calc Mul = three_read 5 (λ x y z. calc Mul x y z) (omega arith) refl refl
      read_calc Lt = three_read 6 (λ x y z. calc Lt x y z) (omega arith) refl refl

pub readable : (k : Kind) → registers k ≤ 32 → Readable k
readable (mov c a n) h = read_mov a (omega arith) c n
readable (cpy a b) h = read_cpy a (omega arith) b (omega arith)
readable (calc o a b c) h = read_calc a (omega arith) b (omega arith) c (omega arith) o
readable (ld c a b) h = read_ld a (omega arith) b (omega arith) c
readable (st c a b) h = read_st a (omega arith) b (omega arith) c
readable (jmp c a) h = read_jmp a (omega arith) c
readable (bz c a b) h = read_bz a (omega arith) b (omega arith) c
readable halt h = (refl, refl)
