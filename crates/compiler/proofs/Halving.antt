-- An expression emitted half by half.
use Rattle.std.proofs.Common.{◌≡◌, ℕ, ◌+◌, ◌<◌, ◌≤◌, List, [], ◌∷◌, ◌++◌, length, sym, refl, ap, ◌∙◌, subst, add-one, arith}
use Rattle.std.proofs.lemmas.List.{append-nil, append_assoc}
use Rattle.isa.specs.declared.kinds.Arithmetic.{Arithmetic}
use Rattle.language.specs.Limits.{nodes, width}
use Rattle.language.specs.Plans.{Tree, number, variable, cell, node}
use Rattle.plan.specs.declared.tree.Node.{Node}
use Rattle.plan.specs.declared.tree.Node.TheVariants.{Cell, Binary}
use Rattle.plan.specs.declared.tree.NodeId.{NodeId}
use Rattle.plan.specs.Trees.{tree_at}
use Rattle.translation.specs.Code as over
use Rattle.compiler.specs.declared.half.Half.{Half}
use Rattle.compiler.specs.declared.half.Half.TheVariants.{Whole, Load, Operate}
use Rattle.compiler.specs.declared.lines.Lines.{Lines}
use Rattle.compiler.specs.declared.twin.Twin.{Twin}
use Rattle.compiler.specs.Emitting.{Coming, Adds, one, computed}
use Rattle.compiler.specs.Halves.{halved, pending, line_count, weight, total, Fit, AllFit, Goes}
use Rattle.compiler.proofs.Adding.{adds_none, adds_then, adds_same}
use Rattle.compiler.proofs.Tabled.{Entry}

pub some-nodes : (t : Tree) → 1 ≤ nodes t
some-nodes (number n) = omega arith
some-nodes (variable v) = omega arith
some-nodes (cell t) = omega arith
some-nodes (node o t u) = omega arith

-- halves pushed one after another
pub two : (b i j : List Half) (x y : Half) → i ≡ b ++ (x ∷ []) → j ≡ i ++ (y ∷ []) → j ≡ b ++ (x ∷ y ∷ [])
two b i j x y p q = q ∙ ap (λ l. l ++ (y ∷ [])) p ∙ append_assoc b (x ∷ []) (y ∷ [])

pub three : (b i j k : List Half) (x y z : Half) → i ≡ b ++ (x ∷ []) → j ≡ i ++ (y ∷ []) → k ≡ j ++ (z ∷ []) → k ≡ b ++ (x ∷ y ∷ z ∷ [])
three b i j k x y z p q r = r ∙ ap (λ l. l ++ (z ∷ [])) (two b i j x y p q) ∙ append_assoc b (x ∷ y ∷ []) (z ∷ [])

-- the first one on an empty stack
pub alone : {b i : List Half} {h : Half} {n : ℕ} → b ≡ [] → 1 ≤ n → (length b < n → i ≡ b ++ (h ∷ [])) → i ≡ h ∷ []
alone {h = h} empty some pushed = pushed (omega (arith, ap length empty, some)) ∙ ap (λ l. l ++ (h ∷ [])) empty

module _ (ns : List Node) where
  pub some_weight : (h : Half) → 1 ≤ weight ns h
  some_weight (Whole x t) = omega (arith, some-nodes (tree_at ns x))
  some_weight (Load t) = omega arith
  some_weight (Operate o t u) = omega arith

  pub total_append : (f : Half → ℕ) (hs ks : List Half) → total ns f (hs ++ ks) ≡ total ns f hs + total ns f ks
  total_append f [] ks = omega arith
  total_append f (h ∷ hs) ks = omega (arith, total_append f hs ks)

  pub few_halves : (hs : List Half) → length hs ≤ total ns (weight ns) hs
  few_halves [] = omega arith
  few_halves (h ∷ hs) = omega (arith, some_weight h, few_halves hs)

  pending_append : (hs ks : List Half) (K : Coming) → pending ns (hs ++ ks) K ≡ pending ns ks (pending ns hs K)
  pending_append [] ks K = refl
  pending_append (h ∷ hs) ks K = pending_append hs ks (halved ns h K)

  fit_append : (hs ks : List Half) → AllFit ns hs → AllFit ns ks → AllFit ns (hs ++ ks)
  fit_append [] ks a b = b
  fit_append (h ∷ hs) ks a b = (a.0, fit_append hs ks a.1 b)

  fit_front : (hs ks : List Half) → AllFit ns (hs ++ ks) → AllFit ns hs
  fit_front [] ks a = tt
  fit_front (h ∷ hs) ks a = (a.0, fit_front hs ks a.1)

  pub fit_last : (hs : List Half) (h : Half) → AllFit ns (hs ++ (h ∷ [])) → Fit ns h
  fit_last [] h a = a.0
  fit_last (k ∷ hs) h a = fit_last hs h a.1

  -- t has some of f's lines more than s, and the rest is on the stack: n lines in all
  pub record Going (s t : Lines) (hs : List Half) (f : Coming → Coming) (n : ℕ) : Type 0 where
    pub made : Coming → Coming
    pub count : ℕ
    pub adds : Adds s t made count
    pub code : (K : Coming) → made (pending ns hs K) ≡ f K
    pub lines : count + total ns (line_count ns) hs ≡ n
    pub fits : AllFit ns hs

  pub begun : (s : Lines) (hs : List Half) → AllFit ns hs → Going s s hs (pending ns hs) (total ns (line_count ns) hs)
  begun s hs a = record { made = λ K. K; count = 0; adds = adds_none s; code = λ K. refl; lines = omega arith; fits = a }

  pub further : (s t u : Lines) (hs rest after : List Half) (h : Half) (f : Coming → Coming) (n : ℕ) → hs ≡ rest ++ (h ∷ []) → Goes ns t u rest after h → Going s t hs f n
      → Going s u after f n
  further s t u hs rest after h f n e g a =
      let G : Going s t (rest ++ (h ∷ [])) f n = subst (λ l. Going s t l f n) e a in
      let P : List Half → Type 0 = λ l. Going s u l f n in
      subst P (sym g.kept) (record {
        made = λ K. G.made (g.made K);
        count = G.count + g.count;
        adds = adds_then G.adds g.adds;
        code = λ K. ap (λ J. G.made (g.made J)) (pending_append rest g.parts K) ∙ ap G.made (g.code (pending ns rest K) ∙ sym (pending_append rest (h ∷ []) K)) ∙ G.code K;
        lines = omega (arith, total_append (line_count ns) rest g.parts, total_append (line_count ns) rest (h ∷ []), g.lines, G.lines);
        fits = fit_append rest g.parts (fit_front rest (h ∷ []) G.fits) g.fits;
      })

  -- once none is left, a node that was alone on the stack is done
  pub finished : {s t : Lines} {hs first : List Half} {x : NodeId} {u : Twin} → first ≡ Whole x u ∷ [] → hs ≡ [] → Going s t hs (pending ns first) (total ns (line_count ns) first)
      → Adds s t (computed u.number (tree_at ns x)) (nodes (tree_at ns x))
  finished {s = s} {t = t} {hs = hs} {x = x} {u = u} first none a =
      let P : List Half → Type 0 = λ l. Going s t hs (pending ns l) (total ns (line_count ns) l) in
      let Q : List Half → Type 0 = λ l. Going s t l (pending ns (Whole x u ∷ [])) (total ns (line_count ns) (Whole x u ∷ [])) in
      let G = subst Q none (subst P first a) in
      subst (Adds s t (computed u.number (tree_at ns x))) (omega (arith, G.lines)) (adds_same G.code G.adds)

  -- all of a half's lines are emitted
  pub goes_whole : {s t : Lines} {before : List Half} {h : Half} {f : Coming → Coming} {n : ℕ} → Adds s t f n → n ≡ line_count ns h → ((K : Coming) → f K ≡ halved ns h K)
      → Goes ns s t before before h
  goes_whole {before = before} {h = h} {f = f} {n = n} a e k = record {
    parts = [];
    kept = sym (append-nil before);
    made = f;
    count = n;
    adds = a;
    code = k;
    lines = omega (arith, e);
    lighter = some_weight h;
    fits = tt;
  }

  -- none is emitted, and its parts are kept: a cell's
  pub goes_cell : {s : Lines} {before after : List Half} (id a : NodeId) (t : Twin) → Entry ns id (Cell a) → Fit ns (Whole id t) → after ≡ before ++ (Load t ∷ Whole a t ∷ [])
      → Goes ns s s before after (Whole id t)
  goes_cell {s = s} id a t e f k = record {
    parts = Load t ∷ Whole a t ∷ [];
    kept = k;
    made = λ K. K;
    count = 0;
    adds = adds_none s;
    code = λ K. ap (λ x. computed t.number x K) (sym e.tree_is);
    lines = omega (arith, ap nodes e.tree_is);
    lighter = omega (arith, ap nodes e.tree_is);
    fits = (tt, ((omega (arith, e.before, f.0), omega (arith, ap width e.tree_is, f.1)), tt));
  }

  -- an operation's
  pub goes_binary : {s : Lines} {before after : List Half} (id x y : NodeId) (o : Arithmetic) (t u : Twin) → u.number ≡ t.number + 1 → Entry ns id (Binary o x y) → Fit ns (Whole id t)
      → after ≡ before ++ (Operate o t u ∷ Whole y u ∷ Whole x t ∷ []) → Goes ns s s before after (Whole id t)
  goes_binary {s = s} id x y o t u n e f k = record {
    parts = Operate o t u ∷ Whole y u ∷ Whole x t ∷ [];
    kept = k;
    made = λ K. K;
    count = 0;
    adds = adds_none s;
    code = λ K.
        let F : ℕ → Coming = λ m. computed t.number (tree_at ns x) (computed m (tree_at ns y) (one (over.set t.number (over.calc o t.number m)) K)) in
        ap F (n ∙ add-one t.number) ∙ ap (λ z. computed t.number z K) (sym e.tree_is);
    lines = omega (arith, ap nodes e.tree_is);
    lighter = omega (arith, ap nodes e.tree_is);
    fits = (tt, ((omega (arith, e.before, f.0), omega (arith, ap width e.tree_is, f.1, n)), ((omega (arith, e.before, f.0), omega (arith, ap width e.tree_is, f.1)), tt)));
  }
