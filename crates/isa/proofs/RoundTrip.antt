-- Encoding undoes decoding.
use Rattle.std.proofs.Common.{◌≡◌, ℕ, zero, suc, ◌%◌, ◌<◌, Bool, true, false, cond, ◌||◌, eqb, ltb, sym, refl, ap, ◌∙◌, arith}
use Rattle.std.proofs.lemmas.Bool.{and_parts, eqb-true, ltb-true}
use Rattle.isa.specs.declared.kinds.Register.{Register}
use Rattle.isa.specs.Words.{packed, first_word, second_word, operation, field_a, field_b, field_c, uses, fits, well_formed, named, kind_by, kind_of}

-- the first word of the instruction with this operation, by the fields that it uses
abbrev kept : Bool → ℕ → ℕ
kept used x = cond used x 0

pub repacked : (op : ℕ) → op < 16 → (a b c : Register) (imm : ℕ)
    → (first_word (kind_by op a b c imm) ≡ packed op (kept (uses op 8) a.number) (kept (uses op 4) b.number) (kept (uses op 2) c.number))
    × (second_word (kind_by op a b c imm) ≡ kept (uses op 1) imm)
repacked zero h a b c imm = (refl, refl)
repacked (suc zero) h a b c imm = (refl, refl)
repacked (suc (suc zero)) h a b c imm = (refl, refl)
repacked (suc (suc (suc zero))) h a b c imm = (refl, refl)
repacked (suc (suc (suc (suc zero)))) h a b c imm = (refl, refl)
repacked (suc (suc (suc (suc (suc zero))))) h a b c imm = (refl, refl)
repacked (suc (suc (suc (suc (suc (suc zero)))))) h a b c imm = (refl, refl)
repacked (suc (suc (suc (suc (suc (suc (suc zero))))))) h a b c imm = (refl, refl)
repacked (suc (suc (suc (suc (suc (suc (suc (suc zero)))))))) h a b c imm = (refl, refl)
repacked (suc (suc (suc (suc (suc (suc (suc (suc (suc zero))))))))) h a b c imm = (refl, refl)
repacked (suc (suc (suc (suc (suc (suc (suc (suc (suc (suc zero)))))))))) h a b c imm = (refl, refl)
repacked (suc (suc (suc (suc (suc (suc (suc (suc (suc (suc (suc zero))))))))))) h a b c imm = (refl, refl)
repacked (suc (suc (suc (suc (suc (suc (suc (suc (suc (suc (suc (suc zero)))))))))))) h a b c imm = (refl, refl)
repacked (suc (suc (suc (suc (suc (suc (suc (suc (suc (suc (suc (suc (suc zero))))))))))))) h a b c imm = (refl, refl)
repacked (suc (suc (suc (suc (suc (suc (suc (suc (suc (suc (suc (suc (suc (suc zero)))))))))))))) h a b c imm = (refl, refl)
repacked (suc (suc (suc (suc (suc (suc (suc (suc (suc (suc (suc (suc (suc (suc (suc zero))))))))))))))) h a b c imm = (refl, refl)
repacked (suc (suc (suc (suc (suc (suc (suc (suc (suc (suc (suc (suc (suc (suc (suc (suc n)))))))))))))))) h a b c imm = absurd (omega arith)

field_kept : (used : Bool) (x : ℕ) → fits used x ≡ true → kept used (named used x).number ≡ x
field_kept true x h = let l : x < 32 = ltb-true x 32 h in omega arith
field_kept false x h = sym (eqb-true x 0 h)

imm_kept : (used : Bool) (x : ℕ) → (used || eqb x 0) ≡ true → kept used (cond used x 0) ≡ x
imm_kept true x h = refl
imm_kept false x h = sym (eqb-true x 0 h)

whole : (w : ℕ) → packed (operation w) (field_a w) (field_b w) (field_c w) ≡ w
whole w = omega arith

-- encoding undoes decoding, on words that are well formed
pub encoded : (w imm : ℕ) → well_formed w imm ≡ true → (first_word (kind_of w imm) ≡ w) × (second_word (kind_of w imm) ≡ imm)
encoded w imm h =
    let op : ℕ = operation w in
    let h₀ = and_parts (ltb op 16) _ h in
    let h₁ = and_parts (fits (uses op 8) (field_a w)) _ h₀.1 in
    let h₂ = and_parts (fits (uses op 4) (field_b w)) _ h₁.1 in
    let h₃ = and_parts (fits (uses op 2) (field_c w)) _ h₂.1 in
    let low : op < 16 = ltb-true op 16 h₀.0 in
    let same : op % 16 ≡ op = omega arith in
    let k : kind_of w imm ≡ kind_by op (named (uses op 8) (field_a w)) (named (uses op 4) (field_b w)) (named (uses op 2) (field_c w)) (cond (uses op 1) imm 0) =
    ap (λ (o : ℕ). kind_by o (named (uses o 8) (field_a w)) (named (uses o 4) (field_b w)) (named (uses o 2) (field_c w)) (cond (uses o 1) imm 0)) same in
    let r = repacked op low (named (uses op 8) (field_a w)) (named (uses op 4) (field_b w)) (named (uses op 2) (field_c w)) (cond (uses op 1) imm 0) in
    let a = field_kept (uses op 8) (field_a w) h₁.0 in
    let b = field_kept (uses op 4) (field_b w) h₂.0 in
    let c = field_kept (uses op 2) (field_c w) h₃.0 in (
      ap first_word k ∙ r.0 ∙ ap (λ (x : ℕ). packed op x (kept (uses op 4) (named (uses op 4) (field_b w)).number) (kept (uses op 2) (named (uses op 2) (field_c w)).number)) a
          ∙ ap (λ (x : ℕ). packed op (field_a w) x (kept (uses op 2) (named (uses op 2) (field_c w)).number)) b
          ∙ ap (λ (x : ℕ). packed op (field_a w) (field_b w) x) c ∙ whole w,
      ap second_word k ∙ r.1 ∙ imm_kept (uses op 1) imm h₃.1,
    )
