-- The trees of a table's entries: what adding one leaves, and that equal trees are one entry.
use Rattle.std.proofs.Common.{◌≡◌, ℕ, zero, suc, ◌+◌, ◌<◌, ◌≤◌, eqb, ◌⊎◌, List, [], ◌∷◌, ◌++◌, length, get_or, sym, refl, ap, ◌∙◌, subst, inl, inr, add-zero, arith}
use Rattle.std.proofs.lemmas.List.{get_or_append_left, get_or_push, length_push, get_or_default}
use Rattle.std.proofs.lemmas.Bool.{cases_lt, eq-eqb, ne_eqb, eqb-true}
use Rattle.rules.specs.Expressions.{Numeral, none, is, num_of}
use Rattle.rules.specs.Expressions.{Expr, num, op, load, same?}
use Rattle.rules.proofs.Sameness.{eq_same, ne_same}
use Rattle.blocks.specs.Trees.{Id, Node, Number, Variable, Op, Load, at, tree_of, trees_from, trees, reach, Closed, Once, Kept}

pub trees_from-push : (E : List Expr) (ns : List Node) (n : Node) → trees_from E (ns ++ (n ∷ [])) ≡ trees_from E ns ++ (tree_of (trees_from E ns) n ∷ [])
trees_from-push E [] n = refl
trees_from-push E (m ∷ ns) n = trees_from-push (E ++ (tree_of E m ∷ [])) ns n

pub trees-push : (ns : List Node) (n : Node) → trees (ns ++ (n ∷ [])) ≡ trees ns ++ (tree_of (trees ns) n ∷ [])
unfolding trees
trees-push ns n = trees_from-push [] ns n

length_from : (E : List Expr) (ns : List Node) → length (trees_from E ns) ≡ length E + length ns
length_from E [] = sym (add-zero (length E))
length_from E (n ∷ ns) = omega (arith, length_from (E ++ (tree_of E n ∷ [])) ns, length_push E (tree_of E n))

pub length-trees : (ns : List Node) → length (trees ns) ≡ length ns
unfolding trees
length-trees ns = omega (arith, length_from [] ns)

kept_from : (E : List Expr) (ns : List Node) (i : ℕ) → i < length E → get_or (trees_from E ns) i (num 0) ≡ get_or E i (num 0)
kept_from E [] i h = refl
kept_from E (n ∷ ns) i h =
    kept_from (E ++ (tree_of E n ∷ [])) ns i (omega (arith, length_push E (tree_of E n))) ∙ get_or_append_left E _ (num 0) i h

-- a node's tree depends on the entries that it refers to
pub tree_agrees : (E F : List Expr) (N : ℕ) (n : Node) → reach n ≤ N → ((i : ℕ) → i < N → get_or F i (num 0) ≡ get_or E i (num 0)) → tree_of F n ≡ tree_of E n
tree_agrees E F N (Number m) h k = refl
tree_agrees E F N (Variable v) h k = refl
tree_agrees E F N (Op o x y) h k =
    let p = k x.index (omega arith) in let q = k y.index (omega arith) in
    ap (λ e. op o e (at F y)) p ∙ ap (op o (at E x)) q
tree_agrees E F N (Load m x) h k = ap (load m) (k x.index (omega arith))

at_from : (E : List Expr) (ns : List Node) (k : ℕ) → ((j : ℕ) → j < length ns → reach (get_or ns j (Number 0)) ≤ length E + j) → k < length ns
    → get_or (trees_from E ns) (length E + k) (num 0) ≡ tree_of (trees_from E ns) (get_or ns k (Number 0))
at_from E [] k c h = absurd (omega arith)
at_from E (n ∷ ns) zero c h =
    let F = E ++ (tree_of E n ∷ []) in
    let l = length_push E (tree_of E n) in
    let r : reach n ≤ length E = omega (arith, c 0 (omega arith)) in
    let z = add-zero (length E) in
    ap (λ i. get_or (trees_from F ns) i (num 0)) z
    ∙ kept_from F ns (length E) (omega arith)
    ∙ get_or_push E (tree_of E n) (num 0) (length E) refl
    ∙ sym (tree_agrees E (trees_from F ns) (length E) n r λ i g. kept_from F ns i (omega arith) ∙ get_or_append_left E _ (num 0) i g)
at_from E (n ∷ ns) (suc k) c h =
    let F = E ++ (tree_of E n ∷ []) in
    let l = length_push E (tree_of E n) in
    let s : length E + suc k ≡ length F + k = omega arith in
    ap (λ i. get_or (trees_from F ns) i (num 0)) s ∙ at_from F ns k (λ j g. omega (arith, c (suc j) (omega arith))) (omega arith)

-- the tree of an entry is its node's
pub tree_at : (ns : List Node) (k : ℕ) → Closed ns → k < length ns → get_or (trees ns) k (num 0) ≡ tree_of (trees ns) (get_or ns k (Number 0))
unfolding trees
tree_at ns k c h =
    let z : k ≡ 0 + k = omega arith in
    ap (λ i. get_or (trees_from [] ns) i (num 0)) z ∙ at_from [] ns k (λ j g. omega (arith, c j g)) h

module _ (E : List Expr) (u : Once E) where
  one_entry : (x y : Id) → x.index < length E → y.index < length E → at E x ≡ at E y → x ≡ y
  one_entry x y h g e =
      let i = eqb-true x.index y.index (sym (u x.index y.index (h, g)) ∙ eq_same (at E x) (at E y) e) in
      ap (λ (n : ℕ). let z : Id = record { index = n } in z) i

  -- nodes with one tree are one node
  pub one_node : (m n : Node) → reach m ≤ length E → reach n ≤ length E → tree_of E m ≡ tree_of E n → m ≡ n
  one_node (Number a) (Number b) h g e = cc
  one_node (Number a) (Variable b) h g e = let z : ◌≡◌ {A = ℕ} 0 1 = cc in absurd (omega arith)
  one_node (Number a) (Op b x y) h g e = let z : ◌≡◌ {A = ℕ} 0 1 = cc in absurd (omega arith)
  one_node (Number a) (Load b x) h g e = let z : ◌≡◌ {A = ℕ} 0 1 = cc in absurd (omega arith)
  one_node (Variable a) (Number b) h g e = let z : ◌≡◌ {A = ℕ} 0 1 = cc in absurd (omega arith)
  one_node (Variable a) (Variable b) h g e = cc
  one_node (Variable a) (Op b x y) h g e = let z : ◌≡◌ {A = ℕ} 0 1 = cc in absurd (omega arith)
  one_node (Variable a) (Load b x) h g e = let z : ◌≡◌ {A = ℕ} 0 1 = cc in absurd (omega arith)
  one_node (Op a v w) (Number b) h g e = let z : ◌≡◌ {A = ℕ} 0 1 = cc in absurd (omega arith)
  one_node (Op a v w) (Variable b) h g e = let z : ◌≡◌ {A = ℕ} 0 1 = cc in absurd (omega arith)
  one_node (Op a v w) (Op b x y) h g e =
      let o : a ≡ b = cc in let p : at E v ≡ at E x = cc in let q : at E w ≡ at E y = cc in
      let i = one_entry v x (omega arith) (omega arith) p in let j = one_entry w y (omega arith) (omega arith) q in cc
  one_node (Op a v w) (Load b x) h g e = let z : ◌≡◌ {A = ℕ} 0 1 = cc in absurd (omega arith)
  one_node (Load a v) (Number b) h g e = let z : ◌≡◌ {A = ℕ} 0 1 = cc in absurd (omega arith)
  one_node (Load a v) (Variable b) h g e = let z : ◌≡◌ {A = ℕ} 0 1 = cc in absurd (omega arith)
  one_node (Load a v) (Op b x y) h g e = let z : ◌≡◌ {A = ℕ} 0 1 = cc in absurd (omega arith)
  one_node (Load a v) (Load b x) h g e =
      let o : a ≡ b = cc in let p : at E v ≡ at E x = cc in
      let i = one_entry v x (omega arith) (omega arith) p in cc

-- a new tree keeps that no tree stands twice
once_push : (E : List Expr) (t : Expr) → Once E → ((k : ℕ) → k < length E → get_or E k (num 0) ≡ t → ⊥) → Once (E ++ (t ∷ []))
once_push E t u new i j b = go (cases_lt i (length E)) (cases_lt j (length E))
  where
    F : List Expr
    F = E ++ (t ∷ [])

    old : (k : ℕ) → k < length E → get_or (E ++ (t ∷ [])) k (num 0) ≡ get_or E k (num 0)
    old k h = get_or_append_left E (t ∷ []) (num 0) k h

    last : (k : ℕ) → length E ≤ k → k < length (E ++ (t ∷ [])) → (length E ≡ k) × (get_or (E ++ (t ∷ [])) k (num 0) ≡ t)
    last k h g = let e : length E ≡ k = omega (arith, length_push E t) in (e, get_or_push E t (num 0) k e)

    go : (i < length E) ⊎ (length E ≤ i) → (j < length E) ⊎ (length E ≤ j) → same? (get_or (E ++ (t ∷ [])) i (num 0)) (get_or (E ++ (t ∷ [])) j (num 0)) ≡ eqb i j
    go (inl h) (inl g) = rw (old i h, old j g) (u i j (h, g))
    go (inl h) (inr g) =
        let l = last j g b.1 in
        rw (old i h, l.1) (ne_same (get_or E i (num 0)) t (new i h) ∙ sym (ne_eqb i j λ e. omega (arith, l.0, e)))
    go (inr h) (inl g) =
        let l = last i h b.0 in
        rw (old j g, l.1) (ne_same t (get_or E j (num 0)) (λ e. new j g (sym e)) ∙ sym (ne_eqb i j λ e. omega (arith, l.0, e)))
    go (inr h) (inr g) =
        let l = last i h b.0 in let m = last j g b.1 in let e : i ≡ j = omega arith in
        rw (l.1, m.1) (eq_same t t refl ∙ sym (eq-eqb i j e))

pub once_none : Once (trees [])
unfolding trees
once_none i j h = absurd (omega (arith, h.0))

-- adding a node that is not there
module _ (ns : List Node) (n : Node) (c : Closed ns) (r : reach n ≤ length ns) where
  pub push_closed : Closed (ns ++ (n ∷ []))
  push_closed k h = go (cases_lt k (length ns))
    where
      go : (k < length ns) ⊎ (length ns ≤ k) → reach (get_or (ns ++ (n ∷ [])) k (Number 0)) ≤ k
      go (inl g) = rw (get_or_append_left ns (n ∷ []) (Number 0) k g) (c k g)
      go (inr g) = let e : length ns ≡ k = omega (arith, length_push ns n) in rw (get_or_push ns n (Number 0) k e) (omega arith)

  pub push_once : Once (trees ns) → ((k : ℕ) → k < length ns → get_or ns k n ≡ n → ⊥) → Once (trees (ns ++ (n ∷ [])))
  push_once u new = rw (trees-push ns n) (once_push (trees ns) (tree_of (trees ns) n) u fresh)
    where
      fresh : (k : ℕ) → k < length (trees ns) → get_or (trees ns) k (num 0) ≡ tree_of (trees ns) n → ⊥
      fresh k h e =
          let l = length-trees ns in
          let g : k < length ns = omega arith in
          let same = one_node (trees ns) u (get_or ns k (Number 0)) n (omega (arith, c k g)) (omega arith) (sym (tree_at ns k c g) ∙ e) in
          new k g (default g ∙ same)
        where
          default : k < length ns → get_or ns k n ≡ get_or ns k (Number 0)
          default g = get_or_default ns k n (Number 0) g

  pub push_tree : get_or (trees (ns ++ (n ∷ []))) (length ns) (num 0) ≡ tree_of (trees ns) n
  push_tree = rw (trees-push ns n) (get_or_push (trees ns) (tree_of (trees ns) n) (num 0) (length ns) (length-trees ns))

  pub push_kept : Kept (trees ns) (trees (ns ++ (n ∷ [])))
  push_kept i h = rw (trees-push ns n) (get_or_append_left (trees ns) _ (num 0) i h)

abbrev pub node_numeral : Node → Numeral
node_numeral (Number n) = is n
node_numeral (Variable v) = none
node_numeral (Op o x y) = none
node_numeral (Load k x) = none

num_tree : (E : List Expr) (n : Node) → num_of (tree_of E n) ≡ node_numeral n
num_tree E (Number n) = refl
num_tree E (Variable v) = refl
num_tree E (Op o x y) = refl
num_tree E (Load k x) = refl

-- an entry is a number exactly when its node is one
pub num-at : (ns : List Node) (x : Id) → Closed ns → x.index < length ns → num_of (at (trees ns) x) ≡ node_numeral (get_or ns x.index (Number 0))
num-at ns x c h = ap num_of (tree_at ns x.index c h) ∙ num_tree (trees ns) (get_or ns x.index (Number 0))

pub num_read : (ns : List Node) (x : Id) (n d : Node) → Closed ns → x.index < length ns → n ≡ get_or ns x.index d → num_of (at (trees ns) x) ≡ node_numeral n
num_read ns x n d c h e = num-at ns x c h ∙ ap node_numeral (get_or_default ns x.index (Number 0) d h ∙ sym e)

pub no_number : (n : Node) → ((m : ℕ) → n ≡ Number m → ⊥) → node_numeral n ≡ none
no_number (Number m) h = absurd (h m refl)
no_number (Variable v) h = refl
no_number (Op o x y) h = refl
no_number (Load k x) h = refl

-- two entries are compared by their numbers
pub same-entry : (ns : List Node) (x y : Id) → Once (trees ns) → x.index < length ns → y.index < length ns → same? (at (trees ns) x) (at (trees ns) y) ≡ eqb x.index y.index
same-entry ns x y u h g = let l = length-trees ns in u x.index y.index (omega arith, omega arith)

-- an empty table
pub empty_closed : (ns : List Node) → ns ≡ [] → Closed ns
empty_closed ns e = subst Closed (sym e) (λ k h. absurd (omega arith))

pub empty_once : (ns : List Node) → ns ≡ [] → Once (trees ns)
empty_once ns e = let P : List Node → Type 0 = λ l. Once (trees l) in subst P (sym e) once_none
