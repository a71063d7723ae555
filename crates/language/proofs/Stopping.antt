-- A plan makes the stores up to the first one that cannot be made.
use Rattle.std.proofs.Common.{◌≡◌, ℕ, zero, suc, Bool, true, false, cond, List, [], ◌∷◌, ◌++◌, sym, refl, ap, ◌∙◌, subst}
use Rattle.std.proofs.lemmas.List.{append-nil, append_assoc}
use Rattle.language.specs.Plans.{Plan, done, assign, store, again}
use Rattle.language.specs.Meaning.{Store, Book, Result, fine, stuck, value_in, assigned, written, and_then, times, meaning, book_of}
use Rattle.language.specs.Laws.{AllWritable, Stops}

-- every cell is writable
abbrev pub all : ℕ → Bool
all a = true

-- stores are only added
abbrev Grows : Book → Result → Type 0
Grows s (fine u) = (more : List Store) × (u.made ≡ s.made ++ more)
Grows s (stuck u) = ⊥

grows_then : (s : Book) (r : Result) (g : Book → Result) → Grows s r → ((u : Book) → Grows u (g u)) → Grows s (and_then r g)
grows_then s (stuck u) g h k = h
grows_then s (fine u) g h k = further (g u) (k u)
  where
    further : (r : Result) → Grows u r → Grows s r
    further (stuck v) l = l
    further (fine v) l = (h.0 ++ l.0, l.1 ∙ ap (λ x. x ++ l.0) h.1 ∙ append_assoc s.made h.0 l.0)

grows_times : (f : Book → Result) → ((u : Book) → Grows u (f u)) → (n : ℕ) (s : Book) → Grows s (times f n s)
grows_times f h zero s = ([], sym (append-nil s.made))
grows_times f h (suc n) s = grows_then s (f s) (λ t. times f n t) (h s) (grows_times f h n)

grows : (P : Plan) (s : Book) → Grows s (meaning all P s)
grows done s = ([], sym (append-nil s.made))
grows (assign v e P) s = grows P (assigned s v (value_in e s))
grows (store a e P) s = added (meaning all P (written s (value_in a s) (value_in e s))) (grows P (written s (value_in a s) (value_in e s)))
  where
    added : (r : Result) → Grows (written s (value_in a s) (value_in e s)) r → Grows s r
    added (stuck v) l = l
    added (fine v) l = (record { address = value_in a s; word = value_in e s } ∷ l.0, l.1 ∙ append_assoc s.made (record { address = value_in a s; word = value_in e s } ∷ []) l.0)
grows (again e B P) s = grows_then s (times (λ t. meaning all B t) (value_in e s) s) (λ t. meaning all P t) (grows_times (λ t. meaning all B t) (grows B) (value_in e s) s) (grows P)

module _ (w : ℕ → Bool) where
  -- what is stuck stays so
  stuck_stops : (t u : Book) (x : Store) (later : List Store) → u.made ≡ t.made ++ (x ∷ later) → w x.address ≡ false → (r : Result) → Grows u r → Stops w (stuck t) r
  stuck_stops t u x later e h (stuck v) l = l
  stuck_stops t u x later e h (fine v) l = (x, later ++ l.0, l.1 ∙ ap (λ y. y ++ l.0) e ∙ append_assoc t.made (x ∷ later) l.0, h)

  stops_then : (r r' : Result) (g g' : Book → Result) → Stops w r r' → ((t : Book) → Stops w (g t) (g' t)) → ((t : Book) → Grows t (g' t)) → Stops w (and_then r g) (and_then r' g')
  stops_then (fine t) (stuck u) g g' h k l = absurd h
  stops_then (stuck t) (stuck u) g g' h k l = absurd h
  stops_then (fine t) (fine u) g g' h k l = subst (λ x. Stops w (g t) (g' x)) h (k t)
  stops_then (stuck t) (fine u) g g' h k l = stuck_stops t u h.0 h.1 h.2 h.3 (g' u) (l u)

  stops_times : (f f' : Book → Result) → ((t : Book) → Stops w (f t) (f' t)) → ((t : Book) → Grows t (f' t)) → (n : ℕ) (s : Book) → Stops w (times f n s) (times f' n s)
  stops_times f f' h l zero s = refl
  stops_times f f' h l (suc n) s = stops_then (f s) (f' s) (λ t. times f n t) (λ t. times f' n t) (h s) (stops_times f f' h l n) (grows_times f' l n)

  pub plan_stops : (P : Plan) (s : Book) → Stops w (meaning w P s) (meaning all P s)
  plan_stops done s = refl
  plan_stops (assign v e P) s = plan_stops P (assigned s v (value_in e s))
  plan_stops (store a e P) s = one (w (value_in a s)) refl (plan_stops P (written s (value_in a s) (value_in e s)))
    where
      one : (b : Bool) → w (value_in a s) ≡ b → Stops w (meaning w P (written s (value_in a s) (value_in e s))) (meaning all P (written s (value_in a s) (value_in e s))) →
          Stops w (cond b (meaning w P (written s (value_in a s) (value_in e s))) (stuck s)) (meaning all P (written s (value_in a s) (value_in e s)))
      one true h k = k
      one false h k =
          stuck_stops s (written s (value_in a s) (value_in e s)) (record { address = value_in a s; word = value_in e s }) [] refl h
          (meaning all P (written s (value_in a s) (value_in e s))) (grows P (written s (value_in a s) (value_in e s)))
  plan_stops (again e B P) s =
      stops_then (times (λ t. meaning w B t) (value_in e s) s) (times (λ t. meaning all B t) (value_in e s) s) (λ t. meaning w P t) (λ t. meaning all P t)
      (stops_times (λ t. meaning w B t) (λ t. meaning all B t) (plan_stops B) (grows B) (value_in e s) s) (plan_stops P) (grows P)

  -- one store more
  all_more : (l : List Store) (x : Store) → AllWritable w l → w x.address ≡ true → AllWritable w (l ++ (x ∷ []))
  all_more [] x h k = (k, tt)
  all_more (y ∷ l) x h k = (h.0, all_more l x h.1 k)

  abbrev Clean : Book → Type 0
  Clean s = AllWritable w s.made

  abbrev Cleans : (Book → Result) → Type 0
  Cleans f = (s : Book) → Clean s → Clean (book_of (f s))

  clean_then : (r : Result) (g : Book → Result) → Clean (book_of r) → Cleans g → Clean (book_of (and_then r g))
  clean_then (fine t) g h k = k t h
  clean_then (stuck t) g h k = h

  clean_times : (f : Book → Result) → Cleans f → (n : ℕ) → Cleans (λ s. times f n s)
  clean_times f h zero s c = c
  clean_times f h (suc n) s c = clean_then (f s) (λ t. times f n t) (h s c) (clean_times f h n)

  pub plan_clean : (P : Plan) → Cleans (λ s. meaning w P s)
  plan_clean done s c = c
  plan_clean (assign v e P) s c = plan_clean P (assigned s v (value_in e s)) c
  plan_clean (store a e P) s c = one (w (value_in a s)) refl (plan_clean P (written s (value_in a s) (value_in e s)))
    where
      one : (b : Bool) → w (value_in a s) ≡ b → (Clean (written s (value_in a s) (value_in e s)) → Clean (book_of (meaning w P (written s (value_in a s) (value_in e s))))) →
          Clean (book_of (cond b (meaning w P (written s (value_in a s) (value_in e s))) (stuck s)))
      one true h k = k (all_more s.made (record { address = value_in a s; word = value_in e s }) c h)
      one false h k = c
  plan_clean (again e B P) s c =
      clean_then (times (λ t. meaning w B t) (value_in e s) s) (λ t. meaning w P t) (clean_times (λ t. meaning w B t) (plan_clean B) (value_in e s) s c) (plan_clean P)
