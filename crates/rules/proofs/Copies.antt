-- The rules keep the two copies of the code apart.
use Rattle.std.proofs.Common.{◌≡◌, ℕ, zero, suc, ◌<◌, true, ◌⊎◌, [], ◌∷◌, ◌++◌, sym, refl, ap, ◌∙◌, subst, inl, inr, arith}
use Rattle.std.proofs.lemmas.Bool.{false≢true}
use Rattle.rules.specs.Limits.{Limits}
use Rattle.rules.specs.Expressions.{Expr}
use Rattle.rules.specs.Notes.{Colour, green, blue, Register, Kind, mov, cpy, arith as arith-op, ld, st, jmp, bz, halt, Note, nothing, note, Pending, Static, note_of, expr_of, noted?, colour?, has?, others, next}
use Rattle.rules.specs.Cards.{Entry, inside, start, entry, starts?}
use Rattle.rules.specs.Module.{Module, size, instr, enter, static, Keeps}
use Rattle.rules.specs.Copies.{OneColour, Stated, Turns, CopiesStand}
use Rattle.rules.proofs.Sameness.{same_eq}
use Rattle.rules.proofs.Relations.{Has, Own, Rule, rule_is, Passable}

same-colour : (c : Colour) → colour? c c ≡ true
same-colour green = refl
same-colour blue = refl

has : (S : Static) (r : Register) (c : Colour) → Has S r c → has? c (note_of S r) ≡ true
has S r c h = ap (has? c) h ∙ same-colour c

copied : (n : Note) → noted? n ≡ true → (c : Colour) × (has? c n ≡ true)
copied nothing h = absurd (false≢true h)
copied (note c e) h = (c, same-colour c)

apart : (L : Limits) (m : Module) (i : Kind) (S : Static) → Own L m.blocks i S → OneColour S i
apart L m (mov c a n) S h = record { colour = c; all = tt; agrees = refl }
apart L m (cpy a b) S h = let x = copied (note_of S b) h in record { colour = x.0; all = (x.1, tt); agrees = tt }
apart L m (arith-op o a b c) S h = record { colour = h.0; all = (has S b h.0 h.1, (has S c h.0 h.2, tt)); agrees = tt }
apart L m (ld c a b) S h = record { colour = c; all = (has S b c h, tt); agrees = refl }
apart L m (st green a b) S h = record { colour = green; all = (has S a green h.0, (has S b green h.1, tt)); agrees = refl }
apart L m (st blue a b) S h = record { colour = blue; all = (has S a blue h.0, (has S b blue h.1, tt)); agrees = refl }
apart L m (jmp green a) S h = record { colour = green; all = (has S a green h.1.0.0, tt); agrees = refl }
apart L m (jmp blue a) S h = record { colour = blue; all = (has S a blue h.0.0, tt); agrees = refl }
apart L m (bz green a b) S h = record { colour = green; all = (has S a green h.0, (has S b green h.1.0.0, tt)); agrees = refl }
apart L m (bz blue a b) S h = record { colour = blue; all = (has S a blue h.0, (has S b blue h.1.0, tt)); agrees = refl }
apart L m halt S h = record { colour = green; all = tt; agrees = tt }

-- a pair is among the pending ones
abbrev In : Expr → Expr → Pending → Type 0
In e f [] = ⊥
In e f (x ∷ ps) = (x ≡ (e, f)) ⊎ In e f ps

in_others : (e f : Expr) (ps : Pending) → In e f (others ps) → In e f ps
in_others e f [] h = h
in_others e f (x ∷ ps) h = inr h

in_pushed : (e f : Expr) (ps : Pending) (x : Expr × Expr) → In e f (ps ++ (x ∷ [])) → In e f ps ⊎ (x ≡ (e, f))
in_pushed e f [] x (inl h) = inr h
in_pushed e f [] x (inr h) = absurd h
in_pushed e f (y ∷ ps) x (inl h) = inl (inl h)
in_pushed e f (y ∷ ps) x (inr h) = deeper (in_pushed e f ps x h)
  where
    deeper : In e f ps ⊎ (x ≡ (e, f)) → ((y ≡ (e, f)) ⊎ In e f ps) ⊎ (x ≡ (e, f))
    deeper (inl k) = inl (inr k)
    deeper (inr k) = inr k

in_entered : (x : Entry) (S : Static) (e f : Expr) → In e f (enter x S).pending → In e f S.pending
in_entered inside S e f h = h
in_entered (start K) S e f h = absurd h

later : (m : Module) (p : ℕ) (e f : Expr) → Stated m p e f → Stated m (suc p) e f
later m p e f s = record {
  place = s.place;
  earlier = omega (arith, s.earlier);
  address = s.address;
  word = s.word;
  is = s.is;
  address_is = s.address_is;
  word_is = s.word_is;
}

module _ (m : Module) (p : ℕ) (e f : Expr) (known : In e f (static m p).pending → Stated m p e f) where
  old : In e f (static m p).pending → Stated m (suc p) e f
  old h = later m p e f (known h)

  here : (a b : Register) → instr m p ≡ st green a b → ◌≡◌ {A = Expr × Expr} (expr_of (note_of (static m p) a), expr_of (note_of (static m p) b)) (e, f) → Stated m (suc p) e f
  here a b i x = record {
    place = p;
    earlier = omega arith;
    address = a;
    word = b;
    is = i;
    address_is = ap (λ (y : Expr × Expr). y.0) x;
    word_is = ap (λ (y : Expr × Expr). y.1) x;
  }

  pushed-in : (a b : Register) → instr m p ≡ st green a b → In e f (static m p).pending ⊎ (◌≡◌ {A = Expr × Expr} (expr_of (note_of (static m p) a), expr_of (note_of (static m p) b)) (e, f)) → Stated m (suc p) e f
  pushed-in a b i (inl h) = old h
  pushed-in a b i (inr x) = here a b i x

  stepped : (k : Kind) → instr m p ≡ k → In e f (next k (static m p)).pending → Stated m (suc p) e f
  stepped (mov c a n) i h = old h
  stepped (cpy a b) i h = old h
  stepped (arith-op o a b c) i h = old h
  stepped (ld c a b) i h = old h
  stepped (st green a b) i h = pushed-in a b i (in_pushed e f (static m p).pending _ h)
  stepped (st blue a b) i h = old (in_others e f (static m p).pending h)
  stepped (jmp green a) i h = old h
  stepped (jmp blue a) i h = old h
  stepped (bz green a b) i h = old h
  stepped (bz blue a b) i h = old h
  stepped halt i h = old h

-- what is pending, green has stored
stated : (m : Module) (p : ℕ) (e f : Expr) → In e f (static m p).pending → Stated m p e f
stated m zero e f h = absurd (in_entered (entry m.blocks 0) _ e f h)
stated m (suc p) e f h = stepped m p e f (stated m p e f) (instr m p) refl (in_entered (entry m.blocks (suc p)) _ e f h)

module _ (L : Limits) (m : Module) (kept : Keeps L m) (p : ℕ) (low : p < size m) where
  rule : Rule L m p (instr m p) (static m p)
  rule = rule_is L m p (instr m p) (static m p) (kept p low)

  agreed : (a b : Register) → Own L m.blocks (st blue a b) (static m p) → Stated m p (expr_of (note_of (static m p) a)) (expr_of (note_of (static m p) b))
  agreed a b h =
      let o = h.2 in
      let x : ◌≡◌ {A = Expr × Expr} (o.address, o.word) (expr_of (note_of (static m p) a), expr_of (note_of (static m p) b)) =
      λ j. (sym (same_eq _ _ o.same_address) j, sym (same_eq _ _ o.same_word) j) in
      let P : Pending → Type 0 = In (expr_of (note_of (static m p) a)) (expr_of (note_of (static m p) b)) in
      stated m p _ _ (subst P (sym o.begins) (inl x))

turned : (L : Limits) (m : Module) (i : Kind) (S : Static) → Own L m.blocks i S → Turns i → S.pending ≡ []
turned L m (mov c a n) S h t = absurd t
turned L m (cpy a b) S h t = absurd t
turned L m (arith-op o a b c) S h t = absurd t
turned L m (ld c a b) S h t = absurd t
turned L m (st c a b) S h t = absurd t
turned L m (jmp green a) S h t = absurd t
turned L m (jmp blue a) S h t = h.2.0
turned L m (bz green a b) S h t = absurd t
turned L m (bz blue a b) S h t = h.3.0
turned L m halt S h t = h.0

ended : (x : Entry) (S : Static) → Passable x S → starts? x ≡ true → S.pending ≡ []
ended inside S h t = absurd (false≢true t)
ended (start K) S h t = h.0

pub copies : CopiesStand
copies L m kept = record {
  apart = λ p low. apart L m (instr m p) (static m p) (rule L m kept p low).own;
  agreed = λ p low a b i. agreed L m kept p low a b (subst (λ k. Own L m.blocks k (static m p)) i (rule L m kept p low).own);
  turned = λ p low t. turned L m (instr m p) (static m p) (rule L m kept p low).own t;
  ended = λ p low s e. ended (entry m.blocks (suc p)) _ ((rule L m kept p low).falls e).1 s;
}
