-- Texts cut before a byte, and words cut off.
use Rattle.std.proofs.Common.{◌≡◌, ℕ, suc, ◌+◌, ◌<◌, Bool, true, false, cond, not, List, [], ◌∷◌, ◌++◌, length, get_or, drop, sym, refl, ap, ◌∙◌, arith}
use Rattle.std.specs.List.{position_or_len, before_first, after_first}
use Rattle.std.proofs.Math.Seq.{take-append_seam, drop-append_seam, drop-drop}
use Rattle.text.specs.Bytes.{white, glued, words}

-- no byte of a part passes a test, and the first of the rest does
abbrev pub Avoids : (ℕ → Bool) → List ℕ → Type 0
Avoids p part = (k : ℕ) → k < length part → false ≡ p (get_or part k 0)

abbrev pub Ends : (ℕ → Bool) → List ℕ → Type 0
Ends p rest = 0 < length rest → true ≡ p (get_or rest 0 0)

module _ (p : ℕ → Bool) where
  -- the place of the cut
  cut_place : (part rest : List ℕ) → Avoids p part → Ends p rest → position_or_len p (part ++ rest) ≡ length part
  cut_place [] [] h e = refl
  cut_place [] (b ∷ bs) h e = ap (λ t. cond (not t) (1 + position_or_len p bs) 0) (sym (e (omega arith)))
  cut_place (b ∷ part) rest h e =
      let here = ap (λ t. cond (not t) (1 + position_or_len p (part ++ rest)) 0) (sym (h 0 (omega arith))) in
      let behind = cut_place part rest (λ k l. h (suc k) (omega (arith, l))) e in
      here ∙ omega (arith, behind)

  pub cut_part : (text part rest : List ℕ) → text ≡ part ++ rest → Avoids p part → Ends p rest → part ≡ before_first p text
  cut_part text part rest w h e = sym (rw (w, cut_place part rest h e) (take-append_seam part rest))

  pub cut_rest : (text part rest : List ℕ) → text ≡ part ++ rest → Avoids p part → Ends p rest → rest ≡ drop (position_or_len p text) text
  cut_rest text part rest w h e = sym (rw (w, cut_place part rest h e) (drop-append_seam part rest))

  pub cut_behind : (text part rest : List ℕ) → text ≡ part ++ rest → Avoids p part → Ends p rest → drop 1 rest ≡ after_first p text
  cut_behind text part rest w h e = ap (drop 1) (cut_rest text part rest w h e) ∙ drop-drop 1 (position_or_len p text) text

-- white space before the words goes
words_white : (part rest : List ℕ) → Avoids (λ b. not (white b)) part → words (part ++ rest) ≡ words rest
words_white [] rest h = refl
words_white (b ∷ part) rest h = one (white b) (h 0 (omega arith)) ∙ words_white part rest (λ k l. h (suc k) (omega (arith, l)))
  where
    one : (t : Bool) → false ≡ not t → cond t (words (part ++ rest)) (glued b (part ++ rest) (words (part ++ rest))) ≡ words (part ++ rest)
    one true e = refl
    one false e = absurd cc

-- a word is cut off
word_off : (part rest : List ℕ) → Avoids white part → Ends white rest → 0 < length part → words (part ++ rest) ≡ part ∷ words rest
word_off [] rest h e s = absurd (omega arith)
word_off (b ∷ []) rest h e s = ap (λ t. cond t (words rest) (glued b rest (words rest))) (sym (h 0 (omega arith))) ∙ last rest e
  where
    last : (rest : List ℕ) → Ends white rest → glued b rest (words rest) ≡ (b ∷ []) ∷ words rest
    last [] e = refl
    last (c ∷ cs) e = alone (words (c ∷ cs))
      where
        alone : (ws : List (List ℕ)) → glued b (c ∷ cs) ws ≡ (b ∷ []) ∷ ws
        alone [] = refl
        alone (w ∷ ws) = ap (λ t. cond t ((b ∷ []) ∷ w ∷ ws) ((b ∷ w) ∷ ws)) (sym (e (omega arith)))
word_off (b ∷ c ∷ part) rest h e s =
    ap (λ t. cond t (words (c ∷ part ++ rest)) (glued b (c ∷ part ++ rest) (words (c ∷ part ++ rest)))) (sym (h 0 (omega arith)))
    ∙ ap (glued b (c ∷ part ++ rest)) (word_off (c ∷ part) rest (λ k l. h (suc k) (omega (arith, l))) e (omega arith))
    ∙ ap (λ t. cond t ((b ∷ []) ∷ (c ∷ part) ∷ words rest) ((b ∷ c ∷ part) ∷ words rest)) (sym (h 1 (omega arith)))

-- the first word behind white space, and no word
module _ (text white_part all part rest : List ℕ) (w : text ≡ white_part ++ all) (h : Avoids (λ b. not (white b)) white_part) (w' : all ≡ part ++ rest) where
  pub word_first : Avoids white part → Ends white rest → (length part ≡ 0 → ⊥) → words text ≡ part ∷ words rest
  word_first h' e s = ap words w ∙ words_white white_part all h ∙ ap words w' ∙ word_off part rest h' e (omega (arith, s))

  pub word_none : Ends (λ b. not (white b)) all → Ends white rest → length part ≡ 0 → words text ≡ []
  word_none a e s = ap words w ∙ words_white white_part all h ∙ ap words (none part w' s)
    where
      none : (part : List ℕ) → all ≡ part ++ rest → length part ≡ 0 → all ≡ []
      none (b ∷ bs) q s = absurd (omega arith)
      none [] q s = same all rest q a e
        where
          same : (xs ys : List ℕ) → xs ≡ ys → Ends (λ b. not (white b)) xs → Ends white ys → xs ≡ []
          same [] ys q a e = refl
          same (x ∷ xs) [] q a e = q
          same (x ∷ xs) (y ∷ ys) q a e =
              let light : true ≡ not (white x) = a (omega arith) in
              let dark : true ≡ white y = e (omega arith) in
              absurd cc
