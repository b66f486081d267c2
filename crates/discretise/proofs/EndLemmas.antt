-- The ends of tracks at each node, track by track.
use Rattle.std.proofs.Common.{◌≡◌, ◌<◌, inl, inr, ℕ, List, [], ◌∷◌, ◌++◌, length, get_or, set, sym, ap, subst, ◌∙◌, arith, append_assoc}
use Rattle.std.specs.Prelude.{◌==◌, if◌then◌else◌, Bool, All}
use Rattle.std.proofs.lemmas.Bool.Decides.{eqb_tells}
use Rattle.std.proofs.lemmas.List.{append-nil, length-set, get_or-set_same, get_or-set_other}
use Rattle.std.proofs.lemmas.Grind.{flat_map-append}
use Rattle.discretise.specs.Joins.{AreEndsByNode, ends_at, track_ends_at, high_end, low_end}
use Rattle.discretise.specs.declared.tracks.GridTrack.{GridTrack}
use Rattle.discretise.specs.declared.ends.TrackEnd.{TrackEnd}

-- one more end in one row
abbrev pub with_end : List (List TrackEnd) → ℕ → TrackEnd → List (List TrackEnd)
with_end rows at e = set rows at (get_or rows at [] ++ e ∷ [])

row_more : (rows : List (List TrackEnd)) (at : ℕ) (e : TrackEnd) (n : ℕ) → at < length rows → get_or (with_end rows at e) n [] ≡ get_or rows n [] ++ (if at == n then e ∷ [] else [])
row_more rows at e n within = elim (eqb_tells at n) [
  | inl same ↦
      subst (λ m. get_or (with_end rows at e) m [] ≡ get_or rows m [] ++ (if at == n then e ∷ [] else [])) same.1
      (get_or-set_same rows at (get_or rows at [] ++ e ∷ []) [] within ∙ ap (λ (b : Bool). get_or rows at [] ++ (if b then e ∷ [] else [])) (sym same.0))
  | inr other ↦
      get_or-set_other rows at n (get_or rows at [] ++ e ∷ []) [] (λ is. other.1 (sym is))
      ∙ (sym (append-nil (get_or rows n [])) ∙ ap (λ (b : Bool). get_or rows n [] ++ (if b then e ∷ [] else [])) (sym other.0))
]

pub no_ends : (nodes : ℕ) (rows : List (List TrackEnd)) → length rows ≡ nodes → All (λ r. r ≡ []) rows → AreEndsByNode nodes [] rows
no_ends nodes rows count none = record { count = count; each = λ n within. none n [] (omega arith) }

ends_push : (gs : List GridTrack) (g : GridTrack) (n : ℕ) → ends_at (gs ++ g ∷ []) n ≡ ends_at gs n ++ track_ends_at n g
ends_push gs g n = flat_map-append (track_ends_at n) gs (g ∷ []) ∙ ap (λ es. ends_at gs n ++ es) (append-nil (track_ends_at n g))

-- one more track
pub ends_more : (nodes : ℕ) (gs : List GridTrack) (g : GridTrack) (rows mid new : List (List TrackEnd)) → AreEndsByNode nodes gs rows → g.from < nodes → g.to < nodes
    → mid ≡ with_end rows g.from (low_end g) → new ≡ with_end mid g.to (high_end g) → AreEndsByNode nodes (gs ++ g ∷ []) new
ends_more nodes gs g rows mid new all from to is_mid is_new =
    let long : length mid ≡ nodes = ap length is_mid ∙ (length-set rows g.from (get_or rows g.from [] ++ low_end g ∷ []) ∙ all.count) in record {
      count = ap length is_new ∙ (length-set mid g.to (get_or mid g.to [] ++ high_end g ∷ []) ∙ long);
      each = λ n within.
          ap (λ rs. get_or rs n []) is_new ∙ (row_more mid g.to (high_end g) n (omega arith)
          ∙ (ap (λ r. r ++ (if g.to == n then high_end g ∷ [] else [])) (ap (λ rs. get_or rs n []) is_mid ∙ row_more rows g.from (low_end g) n (omega (arith, all.count)))
          ∙ (append_assoc (get_or rows n []) (if g.from == n then low_end g ∷ [] else []) (if g.to == n then high_end g ∷ [] else [])
          ∙ (ap (λ r. r ++ track_ends_at n g) (all.each n within) ∙ sym (ends_push gs g n)))));
    }
