-- The words of a plan's code in an output.
use Rattle.std.proofs.Common.{◌≡◌, ℕ, ◌+◌, ◌-◌, ◌*◌, ◌≤◌, List, length, take, drop, vec_items, sym, ap, ◌∙◌, subst, arith}
use Rattle.std.proofs.lemmas.List.{ext_get_or, get_or-drop, length-drop}
use Rattle.rules.specs.Limits.{in_force as modules}
use Rattle.rules.specs.Module.{size}
use Rattle.language.specs.Limits.{Within, in_force}
use Rattle.language.specs.Plans.{Plan}
use Rattle.plan.specs.declared.tables.Plan.{Plan as Tables}
use Rattle.plan.specs.declared.tree.Node.{Node}
use Rattle.plan.specs.declared.tree.Statement.{Statement}
use Rattle.plan.specs.Tables.{Closed}
use Rattle.translation.specs.Code.{Code, build}
use Rattle.translation.specs.Compile.{whole}
use Rattle.translation.specs.Written.{Written}
use Rattle.translation.proofs.Concluding.{code_runs}
use Rattle.translation.proofs.Passing.{code_checked}
use Rattle.translation.proofs.Reading.{words_pass}
use Rattle.compiler.specs.Compiling.{Built}
use Rattle.compiler.specs.Laying.{words}
use Rattle.compiler.specs.Selecting.{Small}

-- the code that is selected for a compiler's tables is their plan's
pub selected : {P : Plan} {ns : List Node} {ss : List Statement} {n : ℕ} {l : Code} (t : Tables) → Small (vec_items t.nodes) (vec_items t.statements) P → ns ≡ vec_items t.nodes → ss ≡ vec_items t.statements →
    ((P : Plan) → Small ns ss P → Closed ns → 1024 ≤ n → l ≡ whole P) → n ≡ 1024 → l ≡ whole P
selected {P = P} {ns = ns} t s e f select g =
    select P (subst (λ ls. Small ns ls P) (sym f) (subst (λ ls. Small ls (vec_items t.statements) P) (sym e) s)) (subst Closed (sym e) t.closed) (omega (arith, g))

-- a plan's code has few blocks
pub few-blocks : (P : Plan) (l : Code) → Within in_force P → l ≡ whole P → length (build l).blocks ≤ 64
few-blocks P l W e = omega (arith, ap (λ k. length (build k).blocks) e, (code_checked P W).blocks_are, W.few)

-- as they were from n on
rest-same : (old new : List ℕ) (n : ℕ) → length new ≡ length old → ((j : ℕ) → n ≤ j → words new j ≡ words old j) → drop n new ≡ drop n old
rest-same old new n e h =
    ext_get_or 0 (drop n new) (drop n old) (length-drop n new ∙ ap (λ k. k - n) e ∙ sym (length-drop n old))
    λ i l. get_or-drop n new i 0 ∙ h (n + i) (omega arith) ∙ sym (get_or-drop n old i 0)

pub built : (P : Plan) (l : Code) (old new : List ℕ) (n k b : ℕ) → Within in_force P → l ≡ whole P → length new ≡ length old → 2626 ≤ length old → n ≡ 2 + 2 * (2 * k + 1) + 9 * b → k ≤ 511 → b ≤ 64 →
    Written (take n new) (build l) → ((j : ℕ) → n ≤ j → words new j ≡ words old j) → Built P old new n
built P l old new n k b W e same room count short few w rest =
    let p = words_pass P W (take n new) (subst (λ c. Written (take n new) (build c)) e w) in
    record {
      inside = omega arith;
      rest = rest-same old new n same rest;
      passes = p.1 modules (omega arith);
      size_is = ap size p.0 ∙ (code_checked P W).size_is;
      module_is = p.0;
      runs = code_runs P W;
    }
