-- What the code's state stands for, after a new entry.
use Rattle.std.proofs.Common.{◌≡◌, ℕ, zero, suc, ◌≤◌, List, [], ◌∷◌, map, length, get_or, replicate, refl, ap, ◌∙◌, arith, Some, None}
use mathlib.Core.Path.{fun_ext}
use Rattle.blocks.specs.Trees.{at, Kept}
use Rattle.rules.specs.Expressions.{Expr}
use Rattle.blocks.specs.Reach as code
use Rattle.blocks.specs.Reach.{reach_note, reach_pair, reach_dest, NotesBelow, PairsBelow, first_pair}
use Rattle.rules.specs.Notes.{Note, note, branch, Static}
use Rattle.blocks.specs.View.{note_in, pair_in, dest_in, view_in}

-- an element of a list of one value
pub same_at : {A : Type 0} (n r : ℕ) (a : A) → get_or (replicate n a) r a ≡ a
same_at zero r a = refl
same_at (suc n) zero a = refl
same_at (suc n) (suc r) a = same_at n r a

module _ (E F : List Expr) (k : Kept E F) where
  note_kept : (n : code.Note) → reach_note n ≤ length E → note_in F n ≡ note_in E n
  note_kept None h = refl
  note_kept (Some n) h = ap (note n.colour) (k n.expression.index h)

  dest_kept : (d : code.Destination) → reach_dest d ≤ length E → dest_in F d ≡ dest_in E d
  dest_kept code.Clear h = refl
  dest_kept (code.Jump t) h = refl
  dest_kept (code.If x t) h = ap (λ e. branch e t) (k x.index h)

  pairs_kept : (P : List code.Pair) → PairsBelow (length E) P → map (pair_in F) P ≡ map (pair_in E) P
  pairs_kept [] h = refl
  pairs_kept (p ∷ P) h =
      let r : reach_pair p ≤ length E = h 0 (omega arith) in
      let a = k p.address.index (omega arith) in
      let w = k p.word.index (omega arith) in
      let rest = pairs_kept P (λ j l. h (suc j) (omega arith)) in
      let one : ◌≡◌ {A = Expr × Expr} (pair_in F p) (pair_in E p) = ap (λ e. let q : Expr × Expr = (e, at F p.word) in q) a ∙ ap (λ e. let q : Expr × Expr = (at E p.address, e) in q) w in
      ap (λ q. q ∷ map (pair_in F) P) one ∙ ap (λ l. pair_in E p ∷ l) rest

  pub view_kept : (N : List code.Note) (P : List code.Pair) (g b : ℕ) (d : code.Destination) → NotesBelow (length E) N → PairsBelow (length E) P → reach_dest d ≤ length E
      → view_in F N P g b d ≡ view_in E N P g b d
  view_kept N P g b d n p r =
      let a : ◌≡◌ {A = ℕ → Note} (λ i. note_in F (get_or N i None)) (λ i. note_in E (get_or N i None)) = fun_ext λ i. note_kept (get_or N i None) (n i) in
      ap (λ f. let s : Static = record { notes = f; pending = map (pair_in F) P; k_g = g; k_b = b; dest = dest_in F d } in s) a
      ∙ ap (λ q. let s : Static = record { notes = λ i. note_in E (get_or N i None); pending = q; k_g = g; k_b = b; dest = dest_in F d } in s) (pairs_kept P p)
      ∙ ap (λ x. let s : Static = record { notes = λ i. note_in E (get_or N i None); pending = map (pair_in E) P; k_g = g; k_b = b; dest = x } in s) (dest_kept d r)
