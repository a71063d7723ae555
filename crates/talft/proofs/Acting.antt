-- Calls added one by one.
use Rattle.std.proofs.Common.{◌≡◌, ℕ, ◌+◌, ◌<◌, ◌≤◌, List, [], ◌∷◌, ◌++◌, map, length, get_or, drop, sym, ap, ◌∙◌, append_assoc, append-nil}
use Rattle.std.proofs.lemmas.List.{at_drop_more, at_drop_all, map_push}
use Rattle.simulator.specs.declared.call.Call.{Call}
use Rattle.talft.specs.declared.calls.Entry.{Entry}
use Rattle.talft.specs.Acts.{Act, seen, act, acts, last_words}

module _ (all : List Act) (ws : List ℕ) (es : List Entry) (i : ℕ) (cs : List Call) (inv : map seen cs ++ acts ws (drop i es) ≡ all) where
  module _ (d e : Entry) (at : e ≡ get_or es i d) (l : i < length es) (last : List ℕ) (b : last ≡ last_words ws e) where
    -- what is left behind a line
    behind : map seen cs ++ (act ws e ++ acts last (drop (i + 1) es)) ≡ all
    behind =
        ap (λ x. map seen cs ++ (act ws e ++ acts x (drop (i + 1) es))) b
        ∙ ap (λ x. map seen cs ++ (act ws x ++ acts (last_words ws x) (drop (i + 1) es))) at
        ∙ sym (ap (λ x. map seen cs ++ x) (at_drop_more (acts ws) es i d l)) ∙ inv

    -- a line that makes no call
    pub none_more : (more : List Call) → [] ≡ act ws e → more ≡ cs → map seen more ++ acts last (drop (i + 1) es) ≡ all
    none_more more h q = ap (λ x. map seen x ++ acts last (drop (i + 1) es)) q ∙ ap (λ x. map seen cs ++ (x ++ acts last (drop (i + 1) es))) h ∙ behind

    -- a line that makes one
    pub one_more : (c : Call) (more pushed : List Call) → seen c ∷ [] ≡ act ws e → more ≡ pushed → pushed ≡ cs ++ c ∷ [] → map seen more ++ acts last (drop (i + 1) es) ≡ all
    one_more c more pushed h p q =
        ap (λ x. map seen x ++ acts last (drop (i + 1) es)) (p ∙ q)
        ∙ ap (λ x. x ++ acts last (drop (i + 1) es)) (map_push seen cs c)
        ∙ append_assoc (map seen cs) (seen c ∷ []) (acts last (drop (i + 1) es))
        ∙ ap (λ x. map seen cs ++ (x ++ acts last (drop (i + 1) es))) h
        ∙ behind

  pub all_made : length es ≤ i → map seen cs ≡ all
  all_made l = sym (append-nil (map seen cs)) ∙ sym (ap (λ x. map seen cs ++ x) (at_drop_all (acts ws) es i l)) ∙ inv
