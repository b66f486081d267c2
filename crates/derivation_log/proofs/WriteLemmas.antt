-- Laws of texts that are added to a line part after part.
use Rattle.std.proofs.Common.{◌≡◌, ℕ, ◌+◌, ◌<◌, ◌≤◌, length, drop, get_or, sym, List, [], ◌∷◌, ◌++◌, ap, append_assoc, ◌∙◌}
use Rattle.std.specs.List.{flat_map}
use Rattle.std.proofs.lemmas.List.{at_drop_more, drop_all}
use Rattle.derivation_log.specs.Text.{list_text}

-- two parts of a text behind what is kept
pub behind_kept : (kept first second text : List ℕ) → first ++ second ≡ text → (kept ++ first) ++ second ≡ kept ++ text
behind_kept kept first second text both = append_assoc kept first second ∙ ap (λ back. kept ++ back) both

-- the words that are left begin with the next one
next_word : {X : Type 0} (spelled : X → List ℕ) (kept : List ℕ) (words : List X) (place : ℕ) (d : X) → place < length words → (kept ++ (spelled (get_or words place d) ++ 32 ∷ [])) ++ list_text spelled (drop (place + 1) words) ≡ kept ++ list_text spelled (drop place words)
next_word spelled kept words place d within =
    append_assoc kept (spelled (get_or words place d) ++ 32 ∷ []) (list_text spelled (drop (place + 1) words))
    ∙ ap (λ back. kept ++ back) (sym (append_assoc (spelled (get_or words place d) ++ 32 ∷ []) (flat_map (λ x. spelled x ++ 32 ∷ []) (drop (place + 1) words)) (48 ∷ [])) ∙ ap (λ front. front ++ 48 ∷ []) (sym (at_drop_more (flat_map (λ x. spelled x ++ 32 ∷ [])) words place d within)))

-- the same of the word that was read at the place
pub next_word_read : {X : Type 0} (spelled : X → List ℕ) (kept : List ℕ) (words : List X) (place : ℕ) (word : X) → place < length words → word ≡ get_or words place word → (kept ++ (spelled word ++ 32 ∷ [])) ++ list_text spelled (drop (place + 1) words) ≡ kept ++ list_text spelled (drop place words)
next_word_read spelled kept words place word within is =
    ap (λ one. (kept ++ (spelled one ++ 32 ∷ [])) ++ list_text spelled (drop (place + 1) words)) is ∙ next_word spelled kept words place word within

pub no_word_left : {X : Type 0} (spelled : X → List ℕ) (kept : List ℕ) (words : List X) (place : ℕ) → length words ≤ place → kept ++ 48 ∷ [] ≡ kept ++ list_text spelled (drop place words)
no_word_left spelled kept words place past = ap (λ words. kept ++ list_text spelled words) (sym (drop_all place words past))
