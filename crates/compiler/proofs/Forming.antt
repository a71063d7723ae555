-- The words of an instruction are well formed.
use Rattle.std.proofs.Common.{◌≡◌, ℕ, ◌<◌, ◌≤◌, Bool, true, ◌&&◌, ◌||◌, eqb, ltb, refl, ap, ◌∙◌, arith}
use Rattle.std.proofs.lemmas.Bool.{and_from, lt-ltb}
use Rattle.isa.specs.declared.kinds.Arithmetic.TheVariants.{Add, Sub, Mul, Lt}
use Rattle.isa.specs.declared.kinds.Colour.TheVariants.{Green, Blue}
use Rattle.isa.specs.declared.kinds.Kind.{Kind}
use Rattle.isa.specs.declared.kinds.Kind.TheVariants.{Move, Copy, Arith, Load, Store, Jump, Branch, Halt}
use Rattle.isa.specs.Registers.{registers}
use Rattle.isa.specs.Words.{packed, first_word, second_word, operation, field_a, field_b, field_c, uses, fits, well_formed}

-- what is asked of an operation's fields
abbrev Asked : ℕ → ℕ → ℕ → ℕ → ℕ → Bool
Asked op a b c imm = fits (uses op 8) a && (fits (uses op 4) b && (fits (uses op 2) c && (uses op 1 || eqb imm 0)))

packed-formed : (op a b c imm : ℕ) → op < 16 → a < 32 → b < 32 → c < 32 → Asked op a b c imm ≡ true → well_formed (packed op a b c) imm ≡ true
packed-formed op a b c imm ho ha hb hc h =
    let w : ℕ = packed op a b c in
    let o : operation w ≡ op = omega arith in
    let x : field_a w ≡ a = omega arith in
    let y : field_b w ≡ b = omega arith in
    let z : field_c w ≡ c = omega arith in
    ap (λ p. ltb p 16 && Asked p (field_a w) (field_b w) (field_c w) imm) o
    ∙ ap (λ p. ltb op 16 && Asked op p (field_b w) (field_c w) imm) x
    ∙ ap (λ p. ltb op 16 && Asked op a p (field_c w) imm) y
    ∙ ap (λ p. ltb op 16 && Asked op a b p imm) z
    ∙ ap (λ p. p && Asked op a b c imm) (lt-ltb op 16 ho) ∙ h

one : (a : ℕ) → a < 32 → (ltb a 32 && true) ≡ true
one a h = ap (λ x. x && true) (lt-ltb a 32 h)

two : (a b : ℕ) → a < 32 → b < 32 → (ltb a 32 && (ltb b 32 && true)) ≡ true
two a b h k = and_from _ _ (lt-ltb a 32 h) (one b k)

three : (a b c : ℕ) → a < 32 → b < 32 → c < 32 → (ltb a 32 && (ltb b 32 && (ltb c 32 && true))) ≡ true
three a b c h k l = and_from _ _ (lt-ltb a 32 h) (two b c k l)

with_one : (op a imm : ℕ) → op < 16 → a < 32 → Asked op a 0 0 imm ≡ (ltb a 32 && true) → well_formed (packed op a 0 0) imm ≡ true
with_one op a imm ho h e = packed-formed op a 0 0 imm ho h (omega arith) (omega arith) (e ∙ one a h)

with_two : (op a b : ℕ) → op < 16 → a < 32 → b < 32 → Asked op a b 0 0 ≡ (ltb a 32 && (ltb b 32 && true)) → well_formed (packed op a b 0) 0 ≡ true
with_two op a b ho h k e = packed-formed op a b 0 0 ho h k (omega arith) (e ∙ two a b h k)

with_three : (op a b c : ℕ) → op < 16 → a < 32 → b < 32 → c < 32 → Asked op a b c 0 ≡ (ltb a 32 && (ltb b 32 && (ltb c 32 && true))) → well_formed (packed op a b c) 0 ≡ true
with_three op a b c ho h k l e = packed-formed op a b c 0 ho h k l (e ∙ three a b c h k l)

pub formed : (k : Kind) → registers k ≤ 32 → well_formed (first_word k) (second_word k) ≡ true
formed (Move Green a n) h = with_one 0 a.number n (omega arith) (omega arith) refl
formed (Move Blue a n) h = with_one 1 a.number n (omega arith) (omega arith) refl
formed (Copy a b) h = with_two 2 a.number b.number (omega arith) (omega arith) (omega arith) refl
formed (Arith Add a b c) h = with_three 3 a.number b.number c.number (omega arith) (omega arith) (omega arith) (omega arith) refl
formed (Arith Sub a b c) h = with_three 4 a.number b.number c.number (omega arith) (omega arith) (omega arith) (omega arith) refl
formed (Arith Mul a b c) h = with_three 5 a.number b.number c.number (omega arith) (omega arith) (omega arith) (omega arith) refl
formed (Arith Lt a b c) h = with_three 6 a.number b.number c.number (omega arith) (omega arith) (omega arith) (omega arith) refl
formed (Load Green a b) h = with_two 7 a.number b.number (omega arith) (omega arith) (omega arith) refl
formed (Load Blue a b) h = with_two 8 a.number b.number (omega arith) (omega arith) (omega arith) refl
formed (Store Green a b) h = with_two 9 a.number b.number (omega arith) (omega arith) (omega arith) refl
formed (Store Blue a b) h = with_two 10 a.number b.number (omega arith) (omega arith) (omega arith) refl
formed (Jump Green a) h = with_one 11 a.number 0 (omega arith) (omega arith) refl
formed (Jump Blue a) h = with_one 12 a.number 0 (omega arith) (omega arith) refl
formed (Branch Green a b) h = with_two 13 a.number b.number (omega arith) (omega arith) (omega arith) refl
formed (Branch Blue a b) h = with_two 14 a.number b.number (omega arith) (omega arith) (omega arith) refl
formed Halt h = refl
