-- Twin registers.
use Rattle.std.proofs.Common.{◌≡◌, ℕ, zero, suc, ◌*◌, true, cond, eqb, ◌≢◌, refl, ap, ◌∙◌, arith}
use lib.Dec.{eqb-suc-suc, eqb-suc-zero, eqb-zero-suc}
use Rattle.std.proofs.lemmas.Bool.{eq-eqb}
use Rattle.rules.specs.Notes.{Colour, green, blue, upd}
use Rattle.rules.proofs.Updates.{upd_other}
use Rattle.translation.specs.Code.{twice, place}

pub eqb_same : (n : ℕ) → eqb n n ≡ true
eqb_same n = eq-eqb n n refl

-- a register's twin and colour
abbrev pub half : ℕ → ℕ
half zero = zero
half (suc zero) = zero
half (suc (suc n)) = suc (half n)

abbrev pub side : ℕ → Colour
side zero = green
side (suc zero) = blue
side (suc (suc n)) = side n

pub half_place : (c : Colour) (i : ℕ) → half (place c i) ≡ i
half_place green zero = refl
half_place green (suc i) = ap suc (half_place green i)
half_place blue zero = refl
half_place blue (suc i) = ap suc (half_place blue i)

pub side_place : (c : Colour) (i : ℕ) → side (place c i) ≡ c
side_place green zero = refl
side_place green (suc i) = side_place green i
side_place blue zero = refl
side_place blue (suc i) = side_place blue i

-- what the registers have, if twin i has N i
abbrev pub spread : {X Y : Type 0} → (Colour → X → Y) → (ℕ → X) → ℕ → Y
spread F N r = F (side r) (N (half r))

module _ {X Y : Type 0} (F : Colour → X → Y) where
  pub spread_at : (N : ℕ → X) (c : Colour) (i : ℕ) → spread F N (place c i) ≡ F c (N i)
  spread_at N c i j = F (side_place c i j) (N (half_place c i j))

  pair : (x y : X) (a r : ℕ) →
      cond (eqb r (suc (twice a))) (F blue x) (cond (eqb r (twice a)) (F green x) (F (side r) y)) ≡ F (side r) (cond (eqb (half r) a) x y)
  pair x y zero zero = refl
  pair x y zero (suc zero) = refl
  pair x y zero (suc (suc r)) = rw (eqb-suc-suc (suc r) zero) (simp eqb-suc-zero)
  pair x y (suc a) zero = simp eqb-zero-suc
  pair x y (suc a) (suc zero) = rw (eqb-suc-suc 0 (twice (suc a)), eqb-suc-suc 0 (suc (twice a))) (simp eqb-zero-suc)
  pair x y (suc a) (suc (suc r)) = simp eqb-suc-suc (pair x y a r)

  -- a twin is set in both colours
  pub upd_twin : (N : ℕ → X) (a : ℕ) (x : X) → upd (upd (spread F N) (place green a) (F green x)) (place blue a) (F blue x) ≡ spread F (upd N a x)
  upd_twin N a x j r = pair x (N (half r)) a r j

  -- the green half leaves the blue registers
  pub upd_green : (N : ℕ → X) (a : ℕ) (y : Y) (i : ℕ) → upd (spread F N) (place green a) y (place blue i) ≡ F blue (N i)
  upd_green N a y i = upd_other (spread F N) (place green a) y (place blue i) (apart i a) ∙ spread_at N blue i
    where
      apart : (i a : ℕ) → place blue i ≢ place green a
      apart zero zero = λ e. omega arith
      apart zero (suc a) = λ e. omega arith
      apart (suc i) zero = λ e. omega arith
      apart (suc i) (suc a) = λ e. apart i a (omega arith)

pub twice-is : (n : ℕ) → twice n ≡ 2 * n
twice-is zero = refl
twice-is (suc n) = let h = twice-is n in omega arith
