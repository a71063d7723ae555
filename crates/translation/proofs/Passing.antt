-- The module of a plan within the limits passes.
use Rattle.std.proofs.Common.{◌≡◌, ℕ, zero, suc, ◌<◌, ◌≤◌, cond, [], get_or, refl, ap, ◌∙◌, arith, Some, None}
use mathlib.Core.Path.{subst⁻¹}
use native.Mathlib.Decide.{dec_lt}
use lib.ListN.{get_or-eq_default}
use Rattle.isa.specs.Registers.{registers}
use Rattle.isa.specs.Words.{second_word as immediate}
use Rattle.std.proofs.lemmas.Bool.{le-ltb}
use Rattle.rules.specs.Notes.{green, blue, Kind, halt}
use Rattle.rules.specs.Cards.{fresh}
use Rattle.rules.specs.Module.{size, instr, enter}
use Rattle.language.specs.Plans.{Plan}
use Rattle.language.specs.Limits.{in_force, Within}
use Rattle.rules.specs.Words.{variable}
use Rattle.translation.specs.Cards.{slots_from}
use Rattle.translation.specs.Code.{num, set, Entry, inside, start, stop, twice}
use Rattle.translation.specs.Compile.{past, code, compiled}
use Rattle.translation.specs.Checked.{Blocks, CodeChecked}
use Rattle.translation.proofs.Values.{Word}
use Rattle.translation.proofs.Placing.{Line, rising}
use Rattle.translation.proofs.Standing.{left, standing, whole-blocks}
use Rattle.translation.proofs.Meeting.{fresh-is, live}
use Rattle.translation.proofs.Noting.{Fair, Below, check_halt}
use Rattle.translation.proofs.Encoding.{readable}
use Rattle.translation.proofs.Checking.{At, To, settled, set_to, check_plan, fine_left}

module _ (P : Plan) (ok : Within in_force P) where
  short : Word (size (compiled P))
  short = omega (arith, (standing P).size_is, ok.small)

  start_at_lem : At (compiled P) short 0 0 10
  start_at_lem = (
    live 0,
    0,
    (λ q h. absurd (omega arith), ap (λ y. enter y (fresh [])) (standing P).zeros.0.before_is ∙ fresh-is 0 (omega arith)),
    λ i z. absurd (omega (arith, z.0, z.1 (omega arith))),
  )

  all_fair : (q : ℕ) → q < size (compiled P) → Fair (compiled P) q
  all_fair q h =
      let m = compiled P in
      let S = standing P in
      let more : (c : ℕ) (x : Entry) → c < 6 → Line m c x (set c (num 0)) → At m short c c 10 → To m short (suc c) (suc c) 10 =
      λ c x l L A. set_to m short c c 10 (suc c) 10 c (num 0) x L tt (omega arith) (omega arith) (omega arith) (λ i z n. (z.0, λ y. z.1 (omega arith))) A in
      let next : (c : ℕ) → c < 6 → Line m c inside (set c (num 0)) → To m short c c 10 → To m short (suc c) (suc c) 10 =
      λ c l L A. more c inside l L (settled m short c c 10 inside L.before_is tt (omega arith) A) in
      let Z = S.zeros in
      let a = next 5 (omega arith) Z.5 (next 4 (omega arith) Z.4 (next 3 (omega arith) Z.3 (next 2 (omega arith) Z.2 (next 1 (omega arith) Z.1 (more 0 (start 0) (omega arith) Z.0 start_at_lem))))) in
      let b = check_plan m short P 6 6 inside (omega arith) (omega (arith, ok.shallow)) ok.narrow ok.proper S.plan tt a in
      let d = settled m short (past P 6) 6 10 (left inside 6 P) S.end.0 (fine_left P 6 inside tt) (omega arith) b in
      let f = check_halt m (past P 6) d.0 d.1 d.2 S.end.1 S.end.2 in
      one d.2.0 f S.end.2 (dec_lt q (twice (past P 6)))
    where
      one : Below (compiled P) (twice (past P 6)) → Fair (compiled P) (twice (past P 6)) → size (compiled P) ≡ suc (twice (past P 6)) → Dec (q < twice (past P 6)) → Fair (compiled P) q
      one B f e (yes l) = B q l
      one B f e (no l) = let z : q ≡ twice (past P 6) = omega arith in subst⁻¹ (Fair (compiled P)) z f

  -- behind the end every instruction reads as a halt
  everywhere : (Q : Kind → Type 0) → Q halt → ((q : ℕ) → q < size (compiled P) → Q (instr (compiled P) q)) → (q : ℕ) → Q (instr (compiled P) q)
  everywhere Q h f q = one (dec_lt q (size (compiled P)))
    where
      one : Dec (q < size (compiled P)) → Q (instr (compiled P) q)
      one (yes l) = f q l
      one (no l) = let z : size (compiled P) ≤ q = omega arith in subst⁻¹ Q (get_or-eq_default (compiled P).code halt z) h

-- a card of no twins is all free
none_free : (k i r : ℕ) → get_or (slots_from 0 i k) r None ≡ None
none_free zero i r = refl
none_free (suc k) i zero = ap (λ b. cond b (Some (green, variable i)) None) (le-ltb i 0 (omega arith))
none_free (suc k) i (suc zero) = ap (λ b. cond b (Some (blue, variable i)) None) (le-ltb i 0 (omega arith))
none_free (suc k) i (suc (suc r)) = none_free k (suc i) r

blocks_ok : (P : Plan) → Blocks (size (compiled P)) (compiled P).blocks
blocks_ok P = (refl, λ r. none_free 16 0 r, omega arith, rising (code inside 6 6 P stop) 6 1 (size (compiled P)) (omega arith) (omega arith))

pub code_checked : CodeChecked
code_checked P ok = record {
  size_is = (standing P).size_is;
  blocks_are = whole-blocks P;
  fields = everywhere P ok (λ i. registers i ≤ 32) (omega arith) λ q h. (all_fair P ok q h).fields;
  numbers = everywhere P ok (λ i. Word (immediate i)) (omega arith) λ q h. (all_fair P ok q h).word;
  readable = λ p. readable (instr (compiled P) p) (everywhere P ok (λ i. registers i ≤ 32) (omega arith) (λ q h. (all_fair P ok q h).fields) p);
  starts = blocks_ok P;
  rules = λ L l q h. (all_fair P ok q h).rule L l;
}
