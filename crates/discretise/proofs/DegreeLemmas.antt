-- How many ends of tracks stand at a node, and that they are of different cells.
use Rattle.std.proofs.Common.{◌≡◌, ◌+◌, ◌-◌, ℕ, Bool, true, false, List, [], ◌∷◌, ◌++◌, length, cond, Some, slice_get, refl, sym, ap, ◌∙◌, arith}
use Rattle.std.specs.Prelude.{◌==◌, if◌then◌else◌, bytes_eq, count_by}
use Rattle.std.proofs.lemmas.Bool.Decides.{Decides-eqb}
use Rattle.std.proofs.lemmas.List.{length-append}
use Rattle.std.proofs.lemmas.List.Sums.{sum_by-cons}
use Rattle.std.proofs.lemmas.Option.{same_Some}
use Rattle.std.proofs.lemmas.Slice.Eq.{bytes_eq-Decides}
use Rattle.rail_net.specs.Parts.{IsNode, node_names}
use Rattle.rail_net.specs.Refusals.{IsNet}
use Rattle.rail_net.specs.Rules.{degree}
use Rattle.rail_net.specs.declared.parts.NodePart.{NodePart}
use Rattle.rail_net.specs.declared.parts.TrackPart.{TrackPart}
use Rattle.rail_net.specs.declared.parts.NetParts.{NetParts}
use Rattle.rail_net.proofs.ListLaws.{map_at}
use Rattle.rail_net.proofs.ListingLemmas.{same_test}
use Rattle.rail_net.proofs.NameLaws.{same_number}
use Rattle.timetable.specs.declared.parts.Timetable.{Timetable}
use Rattle.discretise.specs.Tracks.{AreGridTracks, AreLaid}
use Rattle.discretise.specs.Joins.{ends_at, track_ends_at, high_end, low_end}
use Rattle.discretise.specs.declared.tracks.GridTrack.{GridTrack}

-- 1 for what is so
abbrev pub one_if : Bool → ℕ
one_if b = cond b 1 0

ends_in_count : (node : ℕ) (g : GridTrack) → length (track_ends_at node g) ≡ one_if (g.from == node) + one_if (g.to == node)
ends_in_count node g = go (g.from == node) (g.to == node)
  where
    go : (a b : Bool) → length ((if a then low_end g ∷ [] else []) ++ (if b then high_end g ∷ [] else [])) ≡ one_if a + one_if b
    go true true = refl
    go true false = refl
    go false true = refl
    go false false = refl

module _ (p : NetParts) (t : Timetable) (net : IsNet p) (node : ℕ) (name : List ℕ) (is : IsNode p name node) where
  -- a number is the node's exactly if the name is
  name_test : (number : ℕ) (its : List ℕ) → IsNode p its number → (number == node) ≡ bytes_eq its name
  name_test number its at = same_test (number == node) (bytes_eq its name)
      (λ told. (bytes_eq-Decides its name).1 (same_Some its name (sym at ∙ (ap (slice_get (node_names p)) ((Decides-eqb number node).0 told) ∙ is))))
      (λ told. (Decides-eqb number node).1 (same_number (λ (n : NodePart). n.name) p.nodes net.new_nodes number node name (at ∙ ap Some ((bytes_eq-Decides its name).0 told)) is))

  laid_count : (number first cut : ℕ) (parts : List TrackPart) (gs : List GridTrack) → AreLaid p t number first cut parts gs
      → length (ends_at gs node) ≡ count_by (λ x. bytes_eq x.from name) parts + count_by (λ x. bytes_eq x.to name) parts
  laid_count number first cut [] [] laid = refl
  laid_count number first cut [] (g ∷ gs) laid = absurd laid
  laid_count number first cut (x ∷ parts) [] laid = absurd laid
  laid_count number first cut (x ∷ parts) (g ∷ gs) laid =
      let rest = laid_count (number + 1) (first + g.count) (cut + (g.count - 1)) parts gs laid.1 in
      let both : length (ends_at (g ∷ gs) node) ≡ length (track_ends_at node g) + length (ends_at gs node) = length-append (track_ends_at node g) (ends_at gs node) in
      let from : one_if (g.from == node) ≡ one_if (bytes_eq x.from name) = ap one_if (name_test g.from x.from laid.0.from) in
      let to : one_if (g.to == node) ≡ one_if (bytes_eq x.to name) = ap one_if (name_test g.to x.to laid.0.to) in
      let begins : count_by (λ (y : TrackPart). bytes_eq y.from name) (x ∷ parts) ≡ one_if (bytes_eq x.from name) + count_by (λ (y : TrackPart). bytes_eq y.from name) parts = sum_by-cons (λ (y : TrackPart). one_if (bytes_eq y.from name)) x parts in
      let ends : count_by (λ (y : TrackPart). bytes_eq y.to name) (x ∷ parts) ≡ one_if (bytes_eq x.to name) + count_by (λ (y : TrackPart). bytes_eq y.to name) parts = sum_by-cons (λ (y : TrackPart). one_if (bytes_eq y.to name)) x parts in
      let own = ends_in_count node g in
      omega arith

-- as many ends stand at a node as its kind has
pub ends_count : (p : NetParts) (t : Timetable) (gs : List GridTrack) → IsNet p → AreGridTracks p t gs → (node : ℕ) (part : NodePart) → slice_get p.nodes node ≡ Some part → length (ends_at gs node) ≡ degree part.kind
unfolding AreGridTracks
ends_count p t gs net all node part is =
    laid_count p t net node part.name (map_at (λ (n : NodePart). n.name) p.nodes node part is) 0 0 (length p.nodes) p.tracks gs all ∙ net.degrees.at_each node part is
