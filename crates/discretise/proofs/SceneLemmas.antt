-- What the making of a scene asks of the grid.
use Rattle.std.proofs.Common.{◌≡◌, ◌+◌, ◌-◌, ◌<◌, ◌≤◌, ◌^◌, ℕ, zero, suc, List, [], ◌∷◌, length, get_or, map, Some, slice_get, refl, sym, ap, subst, ◌∙◌, arith}
use Rattle.std.specs.Prelude.{All}
use Rattle.std.specs.List.{AllZip, Contains, range_with_len}
use Rattle.std.proofs.lemmas.List.Elements.{All-contains, Contains-get_or}
use Rattle.std.proofs.lemmas.List.Sums.{sum_by-cons}
use Rattle.std.proofs.lemmas.Option.{get_or_from_slice_get, slice_get-get_or, slice_get_within}
use Rattle.vss_lists.specs.Orders.{AreKept}
use Rattle.cell_net.specs.Rules.{HasFewStops, IsInstance}
use Rattle.cell_net.specs.declared.ids.CandidateId.{CandidateId}
use Rattle.cell_net.specs.declared.ids.NodeId.{NodeId}
use Rattle.cell_net.specs.declared.trains.TrainSpec.{TrainSpec}
use Rattle.cell_net.specs.declared.parts.InstanceParts.{InstanceParts}
use Rattle.rail_net.specs.Refusals.{IsNet}
use Rattle.rail_net.specs.Rules.{IsGoodLimit}
use Rattle.rail_net.specs.declared.parts.NodeKind.TheVariants.{EndNode}
use Rattle.rail_net.specs.declared.parts.NodePart.{NodePart}
use Rattle.rail_net.specs.declared.parts.TrackPart.{TrackPart}
use Rattle.rail_net.specs.declared.parts.NetParts.{NetParts}
use Rattle.rail_net.proofs.ListLaws.{contains_at, map_at, there_is}
use Rattle.timetable.specs.Timetables.{IsEndNode, IsTimetable, IsTrainOf}
use Rattle.timetable.specs.declared.parts.TrainPart.{TrainPart}
use Rattle.timetable.specs.declared.parts.Timetable.{Timetable}
use Rattle.discretise.specs.Tracks.{AreGridTracks, AreLaid, cell_total, cut_total}
use Rattle.discretise.specs.Joins.{AreAtNodes, AreEndsByNode, ends_at}
use Rattle.discretise.specs.Places.{AreFreeJoints, IsFreeJoint, IsKeptPlace, candidate, nodes_of_candidates}
use Rattle.discretise.specs.Trains.{HasItsEnds, IsGridTrain, IsTrainBetween, IsTrainOver}
use Rattle.discretise.specs.Refusals.{cut_rules}
use Rattle.discretise.specs.Scenes.{AreParts}
use Rattle.discretise.specs.declared.tracks.GridTrack.{GridTrack}
use Rattle.discretise.specs.declared.ends.TrackEnd.{TrackEnd}
use Rattle.discretise.proofs.CandidateLemmas.{candidates_rise}
use Rattle.discretise.proofs.DegreeLemmas.{ends_count}
use Rattle.discretise.proofs.NetLemmas.{of_end}
use Rattle.discretise.proofs.PickLaws.{picked_holds}
use Rattle.discretise.proofs.RisingLaws.{RisesTo, rises_picked, rises_within}
use Rattle.discretise.proofs.RestLemmas.{zip_length}
use Rattle.discretise.proofs.SoundLemmas.{few_cells}
use Rattle.discretise.proofs.TrackLemmas.{node_there}

-- there are no more cuts than cells, and as many tracks on the grid as there are tracks
cuts_below : (gs : List GridTrack) → cut_total gs ≤ cell_total gs
cuts_below [] = omega arith
cuts_below (g ∷ gs) =
    let cells : cell_total (g ∷ gs) ≡ g.count + cell_total gs = sum_by-cons (λ (y : GridTrack). y.count) g gs in
    let cuts : cut_total (g ∷ gs) ≡ g.count - 1 + cut_total gs = sum_by-cons (λ (y : GridTrack). y.count - 1) g gs in
    let rest = cuts_below gs in
    omega arith

laid_length : (p : NetParts) (t : Timetable) (number first cut : ℕ) (parts : List TrackPart) (gs : List GridTrack) → AreLaid p t number first cut parts gs → length gs ≡ length parts
laid_length p t number first cut [] [] laid = refl
laid_length p t number first cut [] (g ∷ gs) laid = absurd laid
laid_length p t number first cut (x ∷ parts) [] laid = absurd laid
laid_length p t number first cut (x ∷ parts) (g ∷ gs) laid = let rest = laid_length p t (number + 1) (first + g.count) (cut + (g.count - 1)) parts gs laid.1 in omega arith

pub grid_length : (p : NetParts) (t : Timetable) (gs : List GridTrack) → AreGridTracks p t gs → length gs ≡ length p.tracks
unfolding AreGridTracks
grid_length p t gs all = laid_length p t 0 0 (length p.nodes) p.tracks gs all

pub few_cuts : (p : NetParts) (t : Timetable) (gs : List GridTrack) → IsNet p → IsTimetable p t → AreKept (cut_rules p t) → AreGridTracks p t gs → cut_total gs ≤ 1000
few_cuts p t gs net timed kept all =
    let cells = few_cells p t gs net timed all kept.1.1.1.1.0 kept.0 in
    let below = cuts_below gs in
    omega arith

-- the row of a node
pub row_of : (nodes : ℕ) (gs : List GridTrack) (rows : List (List TrackEnd)) → AreEndsByNode nodes gs rows → (n : ℕ) (row : List TrackEnd) → slice_get rows n ≡ Some row → (n < nodes) × (row ≡ ends_at gs n)
row_of nodes gs rows all n row is =
    let within : n < nodes = subst (λ m. n < m) all.count (slice_get_within rows n row is) in
    (within, sym (get_or_from_slice_get rows n row [] is) ∙ all.each n within)

pub at_nodes : (p : NetParts) (t : Timetable) (gs : List GridTrack) (rows : List (List TrackEnd)) → IsNet p → AreGridTracks p t gs → AreEndsByNode (length p.nodes) gs rows → AreAtNodes p rows
at_nodes p t gs rows net all ends = record {
  each = λ n row is.
      let at = row_of (length p.nodes) gs rows ends n row is in
      let part = there_is p.nodes n at.0 in
      let named = map_at (λ (x : NodePart). x.name) p.nodes n part.0 part.1 in
      λ k d within.
      let e : TrackEnd = get_or row k d in
      let has : Contains (ends_at gs n) e = subst (λ es. Contains es e) at.1 (Contains-get_or row k d within) in
      record { name = part.0.name; is_node = named; ends = (of_end p t gs net all n part.0.name named e has).1 };
}

-- candidates are nodes
pub candidates_within : (p : NetParts) (t : Timetable) (gs : List GridTrack) (joints : List ℕ) (candidates : List NodeId) (nodes : ℕ) → AreGridTracks p t gs → AreFreeJoints p joints → candidates ≡ nodes_of_candidates joints gs → nodes ≡ length p.nodes + cut_total gs
    → All (λ n. n.0 < nodes) candidates
candidates_within p t gs joints candidates nodes all free are total =
    subst (All (λ n. n.0 < nodes)) (sym are) (λ k d within.
    let n : NodeId = get_or (nodes_of_candidates joints gs) k d in
    let at = rises_within (λ (m : NodeId). m.0) 0 (length p.nodes + cut_total gs) (nodes_of_candidates joints gs) (candidates_rise p t gs joints all free) k n (slice_get-get_or (nodes_of_candidates joints gs) k d within) in
    omega (arith, at.1, total))

pub joints_within : (p : NetParts) (joints : List ℕ) → AreFreeJoints p joints → All (λ n. n < length p.nodes) joints
joints_within p joints free k d within =
    let n : ℕ = get_or joints k d in
    let picked = picked_holds (IsFreeJoint p) (range_with_len 0 (length p.nodes)) joints free n (Contains-get_or joints k d within) in
    node_there p n picked.1.name picked.1.is_node

pub limits_good : (p : NetParts) → IsNet p → All (λ (x : TrackPart). IsGoodLimit x.limit_kmh) p.tracks
limits_good p net k d within = net.limits.at_each k (get_or p.tracks k d) (slice_get-get_or p.tracks k d within)

-- one end of a track stands at each end node
end_node : (p : NetParts) (t : Timetable) (gs : List GridTrack) (rows : List (List TrackEnd)) → IsNet p → AreGridTracks p t gs → AreEndsByNode (length p.nodes) gs rows → (n : ℕ) → IsEndNode p n
    → (n < length rows) × (get_or rows n [] ≡ ends_at gs n) × (length (ends_at gs n) ≡ 1)
end_node p t gs rows net all ends n is =
    let within : n < length p.nodes = slice_get_within p.nodes n (record { name = is.name; kind = EndNode }) is.is_node in
    (subst (λ m. n < m) (sym ends.count) within, ends.each n within, ends_count p t gs net all n (record { name = is.name; kind = EndNode }) is.is_node)

pub trains_end : (p : NetParts) (t : Timetable) (gs : List GridTrack) (rows : List (List TrackEnd)) → IsNet p → IsTimetable p t → AreGridTracks p t gs → AreEndsByNode (length p.nodes) gs rows → All (HasItsEnds rows) t.trains
trains_end p t gs rows net timed all ends k d within =
    let x : TrainPart = get_or t.trains k d in
    let its = timed.trains k d within in
    let from = end_node p t gs rows net all ends x.from its.from in
    let to = end_node p t gs rows net all ends x.to its.to in
    record {
      from_within = from.0;
      to_within = to.0;
      from = subst (λ (es : List TrackEnd). length es ≡ 1) (sym from.1) from.2;
      to = subst (λ (es : List TrackEnd). length es ≡ 1) (sym to.1) to.2;
    }

zip_change : {X Y : Type 0} (R S : X → Y → Type 0) (xs : List X) (ys : List Y) → ((k : ℕ) (x : X) (y : Y) → slice_get xs k ≡ Some x → R x y → S x y) → AllZip R xs ys → AllZip S xs ys
zip_change R S [] [] change zipped = tt
zip_change R S [] (y ∷ ys) change zipped = absurd zipped
zip_change R S (x ∷ xs) [] change zipped = absurd zipped
zip_change R S (x ∷ xs) (y ∷ ys) change zipped = (change zero x y refl zipped.0, zip_change R S xs ys (λ k. change (suc k)) zipped.1)

pub trains_on_grid : (p : NetParts) (t : Timetable) (gs : List GridTrack) (rows : List (List TrackEnd)) (trains : List TrainSpec) → IsNet p → IsTimetable p t → AreGridTracks p t gs → AreEndsByNode (length p.nodes) gs rows
    → AllZip (IsTrainBetween rows t) t.trains trains → AllZip (IsGridTrain gs t) t.trains trains
trains_on_grid p t gs rows trains net timed all ends zipped =
    zip_change (IsTrainBetween rows t) (IsGridTrain gs t) t.trains trains (λ k x s is train.
    let its = All-contains (IsTrainOf p) t.trains x timed.trains (contains_at t.trains k x is) in
    let from = end_node p t gs rows net all ends x.from its.from in
    let to = end_node p t gs rows net all ends x.to its.to in
    subst (λ es. IsTrainOver es (ends_at gs x.to) t x s) from.1 (subst (λ es. IsTrainOver (get_or rows x.from []) es t x s) to.1 train)) zipped

-- ---- the lists of an instance are short

rises_length : {X : Type 0} (number : X → ℕ) (low high : ℕ) (xs : List X) → RisesTo number low high xs → low + length xs ≤ high
rises_length number low high [] rises = omega arith
rises_length number low high (x ∷ xs) rises = let rest = rises_length number (number x + 1) high xs rises.1 in omega (arith, rises.0)

pub record IsShortOf (i : InstanceParts) : Type 0 where
  pub cells : length i.cells < 2 ^ 32
  pub candidates : length i.candidates < 2 ^ 32
  pub kept : length i.kept < 2 ^ 32
  pub stations : length i.stations < 2 ^ 32
  pub trains : length i.trains < 2 ^ 32
  pub stops : HasFewStops i

pub short : (p : NetParts) (t : Timetable) (gs : List GridTrack) (joints : List ℕ) (i : InstanceParts) → IsNet p → IsInstance i → AreParts p t gs joints i → IsShortOf i
short p t gs joints i net is parts =
    let rising : RisesTo (λ (x : CandidateId). x.0) 0 (0 + length i.candidates) (map candidate parts.kept.numbers) = rises_picked (λ (x : CandidateId). x.0) candidate (λ n. refl) (IsKeptPlace p t gs i.candidates) 0 (length i.candidates) parts.kept.numbers parts.kept.picked in
    let kept = rises_length (λ (x : CandidateId). x.0) 0 (0 + length i.candidates) (map candidate parts.kept.numbers) rising in
    let long : length i.kept ≡ length (map candidate parts.kept.numbers) = ap length parts.kept.are in
    let stations : length p.stations ≡ length i.stations = zip_length _ p.stations i.stations parts.stations in
    record {
      cells = omega (arith, is.few_cells);
      candidates = omega (arith, is.few_candidates);
      kept = omega (arith, is.few_candidates);
      stations = omega (arith, net.few.stations);
      trains = omega (arith, is.few_trains);
      stops = is.few_stops;
    }
