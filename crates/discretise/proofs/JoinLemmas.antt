-- Joins that are added pair by pair.
use Rattle.std.proofs.Common.{◌≡◌, ◌+◌, ◌<◌, ℕ, zero, suc, List, [], ◌∷◌, ◌++◌, length, map, take, get_or, refl, sym, ap, subst, ◌∙◌, arith, append_assoc}
use Rattle.std.specs.List.{range_with_len}
use Rattle.std.proofs.lemmas.List.{append-nil, map_push, take_more, map-append}
use Rattle.cell_net.specs.declared.cells.End.TheVariants.{Low}
use Rattle.cell_net.specs.declared.cells.JoinSpec.{JoinSpec}
use Rattle.rail_net.specs.declared.parts.NetParts.{NetParts}
use Rattle.discretise.specs.Joins.{AddsJoins, AreEndsByNode, IsPassage, ends_at, NodePair, join_of, pair_with, pairs_from, pairs_of}
use Rattle.discretise.specs.declared.tracks.GridTrack.{GridTrack}
use Rattle.discretise.specs.declared.ends.TrackEnd.{TrackEnd}
use Rattle.discretise.proofs.PickLaws.{picks_append, picks_not, picks_one}

-- what is read past the ends of tracks
abbrev pub no_end : TrackEnd
no_end = record { track = 0; end = record { cell = record { 0 = 0 }; end = Low } }

module _ (p : NetParts) where
  pub adds_none : (old : List JoinSpec) → AddsJoins p [] old old
  unfolding AddsJoins
  adds_none old = ([], refl, sym (append-nil old))

  pub adds_both : (xs ys : List NodePair) (old mid new : List JoinSpec) → AddsJoins p xs old mid → AddsJoins p ys mid new → AddsJoins p (xs ++ ys) old new
  unfolding AddsJoins
  adds_both xs ys old mid new (first, picked, is) (second, also, then) = (
    first ++ second,
    picks_append (IsPassage p) xs ys first second picked also,
    then ∙ (ap (λ js. js ++ map join_of second) is ∙ (append_assoc old (map join_of first) (map join_of second) ∙ ap (λ js. old ++ js) (sym (map-append join_of first second)))),
  )

  pub adds_one : (pair : NodePair) (old : List JoinSpec) → IsPassage p pair → AddsJoins p (pair ∷ []) old (old ++ join_of pair ∷ [])
  unfolding AddsJoins
  adds_one pair old leads = (pair ∷ [], picks_one (IsPassage p) pair leads, refl)

  pub adds_not : (pair : NodePair) (old : List JoinSpec) → ¬ IsPassage p pair → AddsJoins p (pair ∷ []) old old
  unfolding AddsJoins
  adds_not pair old none = ([], picks_not (IsPassage p) pair none, sym (append-nil old))

-- the pairs of an end with those up to a place, and with that there
pub with_more : (node : ℕ) (e : TrackEnd) (others : List TrackEnd) (i : ℕ) (d : TrackEnd) → i < length others
    → map (pair_with node e) (take (i + 1) others) ≡ map (pair_with node e) (take i others) ++ pair_with node e (get_or others i d) ∷ []
with_more node e others i d within = ap (map (pair_with node e)) (take_more others i d within) ∙ map_push (pair_with node e) (take i others) (get_or others i d)

-- the pairs at one more node
pub pairs_push : (k : ℕ) (rows : List (List TrackEnd)) (row : List TrackEnd) → pairs_from k (rows ++ row ∷ []) ≡ pairs_from k rows ++ pairs_of (k + length rows) row
pairs_push k [] row = append-nil (pairs_of k row) ∙ ap (λ n. pairs_of n row) (let same : k ≡ k + 0 = omega arith in same)
pairs_push k (r ∷ rows) row =
    ap (λ ps. pairs_of k r ++ ps) (pairs_push (k + 1) rows row ∙ ap (λ n. pairs_from (k + 1) rows ++ pairs_of n row) (let same : k + 1 + length rows ≡ k + length (r ∷ rows) = omega arith in same))
    ∙ sym (append_assoc (pairs_of k r) (pairs_from (k + 1) rows) (pairs_of (k + length (r ∷ rows)) row))

-- rows that are those of numbers in turn
pub rows_map : {X : Type 0} (f : ℕ → List X) (rows : List (List X)) (k : ℕ) → ((i : ℕ) → i < length rows → get_or rows i [] ≡ f (k + i)) → rows ≡ map f (range_with_len k (length rows))
rows_map f [] k each = refl
rows_map f (row ∷ rows) k each =
    let first : row ≡ f k = each zero (omega arith) ∙ ap f (let same : k + 0 ≡ k = omega arith in same) in
    let later : rows ≡ map f (range_with_len (k + 1) (length rows)) = rows_map f rows (k + 1) (λ i within. each (suc i) (omega arith) ∙ ap f (let same : k + suc i ≡ k + 1 + i = omega arith in same)) in
    ap (λ r. r ∷ rows) first ∙ ap (λ rs. f k ∷ rs) later

pub rows_are : (nodes : ℕ) (gs : List GridTrack) (rows : List (List TrackEnd)) → AreEndsByNode nodes gs rows → rows ≡ map (ends_at gs) (range_with_len 0 nodes)
rows_are nodes gs rows all =
    subst (λ n. rows ≡ map (ends_at gs) (range_with_len 0 n)) all.count
    (rows_map (ends_at gs) rows 0 (λ i within. all.each i (subst (λ n. i < n) all.count within) ∙ ap (ends_at gs) (let same : i ≡ 0 + i = omega arith in same)))
