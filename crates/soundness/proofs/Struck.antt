-- A strike on one colour leaves what the other colour holds.
use Rattle.std.proofs.Common.{◌≡◌, ℕ, Bool, true, false, cond, eqb, Some, sym, refl, ◌∙◌, subst}
use Rattle.std.proofs.lemmas.Bool.{eqb-true}
use Rattle.machine.specs.Machine.{State}
use Rattle.rules.specs.Notes.{Colour, green, blue, Note, nothing, note, Notes}
use Rattle.soundness.specs.Strikes.{Place, register, counter, destination, address, word, strike}
use Rattle.soundness.specs.Finding.{note_colour, place_colour, Of}
use Rattle.rules.proofs.Relations.{Coloured, Sub}
use Rattle.soundness.proofs.Agree.{Agree, green≢blue}

abbrev pub other : Colour → Colour
other green = blue
other blue = green

other_not : (k : Colour) → k ≡ other k → ⊥
other_not green e = green≢blue e
other_not blue e = green≢blue (sym e)

-- what has colour k is not of the other colour
spares : (k c : Colour) → Of k (Some c) → other k ≡ c → ⊥
spares k c o e = other_not k (sym o ∙ sym e)

clash : (k : Colour) (n : Note) → Of k (note_colour n) → Coloured (other k) n → ⊥
clash k nothing o p = p
clash k (note c e) o p = spares k c o (sym p)

pub agree_same : (t : Colour) (N : Notes) (u : State) → Agree t N u u
agree_same t N u = record {
  cells = refl;
  stores = refl;
  regs = λ _ _. refl;
  green_counter = λ _. refl;
  destination = λ _. refl;
  queue = λ _. refl;
  blue_counter = λ _. refl;
}

-- fewer notes ask for less
pub agree_less : (t : Colour) (N O : Notes) (u f : State) → Sub O N → Agree t N u f → Agree t O u f
agree_less t N O u f h A = record {
  cells = A.cells;
  stores = A.stores;
  regs = λ r c. A.regs r (h t r c);
  green_counter = A.green_counter;
  destination = A.destination;
  queue = A.queue;
  blue_counter = A.blue_counter;
}

-- another state g in place of f, with the same cells and stores
agree_with : (t : Colour) (N : Notes) (u f g : State) → f.cells ≡ g.cells → f.stores ≡ g.stores → ((r : ℕ) → Coloured t (N r) → f.regs r ≡ g.regs r) →
    (t ≡ green → (f.green ≡ g.green) × (f.destination ≡ g.destination) × (f.queue ≡ g.queue)) → (t ≡ blue → f.blue ≡ g.blue) → Agree t N u f → Agree t N u g
agree_with t N u f g c s r G B A = record {
  cells = A.cells ∙ c;
  stores = A.stores ∙ s;
  regs = λ x h. A.regs x h ∙ r x h;
  green_counter = λ e. A.green_counter e ∙ (G e).0;
  destination = λ e. A.destination e ∙ (G e).1;
  queue = λ e. A.queue e ∙ (G e).2;
  blue_counter = λ e. A.blue_counter e ∙ B e;
}

module _ (k : Colour) (N : Notes) (u f : State) (A : Agree (other k) N u f) where
  -- green's latches, k being green
  green_struck : (g : State) → Of k (Some green) → f.cells ≡ g.cells → f.stores ≡ g.stores → f.regs ≡ g.regs → f.blue ≡ g.blue → Agree (other k) N u g
  green_struck g o c s r b = agree_with (other k) N u f g c s (λ x _ i. r i x) (λ e. absurd (spares k green o e)) (λ _. b) A

  pub strike_agree : (p : Place) (v : ℕ) → Of k (place_colour N p) → Agree (other k) N u (strike p v f)
  strike_agree (register r) v o =
      agree_with (other k) N u f (strike (register r) v f) refl refl (λ x h. one x h (eqb x r) (eqb-true x r)) (λ _. (refl, refl, refl)) (λ _. refl) A
    where
      one : (x : ℕ) → Coloured (other k) (N x) → (b : Bool) → (b ≡ true → x ≡ r) → f.regs x ≡ cond b v (f.regs x)
      one x h true e = absurd (clash k (N r) o (subst (λ y. Coloured (other k) (N y)) (e refl) h))
      one x h false e = refl
  strike_agree (counter green) v o = green_struck (strike (counter green) v f) o refl refl refl refl
  strike_agree (counter blue) v o =
      agree_with (other k) N u f (strike (counter blue) v f) refl refl (λ _ _. refl) (λ _. (refl, refl, refl)) (λ e. absurd (spares k blue o e)) A
  strike_agree destination v o = green_struck (strike destination v f) o refl refl refl refl
  strike_agree (address i) v o = green_struck (strike (address i) v f) o refl refl refl refl
  strike_agree (word i) v o = green_struck (strike (word i) v f) o refl refl refl refl
