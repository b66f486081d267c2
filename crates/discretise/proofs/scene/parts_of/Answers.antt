-- Why `parts_of` does what its contract says.
use Rattle.std.proofs.Common.{◌≡◌, ◌+◌, ◌≤◌, List, length, sym, ap, subst, ◌∙◌, arith}
use Rattle.std.specs.List.{AllZip}
use Rattle.cell_net.specs.declared.ids.CandidateId.{CandidateId}
use Rattle.cell_net.specs.declared.ids.NodeId.{NodeId}
use Rattle.cell_net.specs.declared.parts.InstanceParts.{InstanceParts}
use Rattle.rail_net.specs.declared.parts.NetParts.{NetParts}
use Rattle.discretise.specs.Tracks.{AreGridTracks, cut_total}
use Rattle.discretise.specs.Joins.{AreEndsByNode, AreJoins}
use Rattle.discretise.specs.Places.{AreKeptPlaces, nodes_of_candidates}
use Rattle.discretise.specs.Stations.{IsStationOf}
use Rattle.discretise.specs.Scenes.{AreParts}
use Rattle.discretise.specs.Trains.{IsGridTrain}
use Rattle.discretise.specs.declared.tracks.GridTrack.{GridTrack}
use Rattle.discretise.specs.declared.ends.TrackEnd.{TrackEnd}
use Rattle.discretise.proofs.InstanceLemmas.{few_candidates, trains_fit}
use Rattle.discretise.proofs.SceneLemmas.{at_nodes, candidates_within, few_cuts, grid_length, trains_end, trains_on_grid}
use Rattle.discretise.proofs.scene.parts_of.Goals as goal

pub cut_total-requires : goal.cut_total-requires
cut_total-requires c =
    let p = c.args.net.now in
    let t = c.args.timetable.now in
    let net = c.parts-parts.ensures.rules in
    let gs : List GridTrack = c.as_slice-tracks.result.now in
    let all : AreGridTracks p t gs = subst (AreGridTracks p t) (sym c.as_slice-tracks.ensures.value) c.requires.grid.tracks in
    few_cuts p t gs net c.requires.timetable c.requires.kept all

pub overflow_add-nodes : goal.overflow_add-nodes
overflow_add-nodes c =
    let p = c.args.net.now in
    let t = c.args.timetable.now in
    let net = c.parts-parts.ensures.rules in
    let gs : List GridTrack = c.as_slice-tracks.result.now in
    let all : AreGridTracks p t gs = subst (AreGridTracks p t) (sym c.as_slice-tracks.ensures.value) c.requires.grid.tracks in
    let nodes : length c.parts-parts.result.now.nodes ≡ length p.nodes = ap (λ (q : NetParts). length q.nodes) c.parts-parts.ensures.parts in
    let few = few_cuts p t gs net c.requires.timetable c.requires.kept all in
    record { fits = omega (arith, c.len.ensures, c.cut_total.ensures, c.requires.grid.nodes) }

pub joins_of-requires-clause-there : goal.joins_of-requires-clause-there
joins_of-requires-clause-there c =
    let p = c.args.net.now in
    let t = c.args.timetable.now in
    let net = c.parts-parts.ensures.rules in
    let gs : List GridTrack = c.as_slice-tracks.result.now in
    let all : AreGridTracks p t gs = subst (AreGridTracks p t) (sym c.as_slice-tracks.ensures.value) c.requires.grid.tracks in
    let rows : List (List TrackEnd) = c.as_slice-ends.result.now in
    let ends : AreEndsByNode (length p.nodes) gs rows = subst (λ (hs : List GridTrack). AreEndsByNode (length p.nodes) hs rows) (sym c.as_slice-tracks.ensures.value)
    (subst (λ (es : List (List TrackEnd)). AreEndsByNode (length p.nodes) c.args.grid.tracks.items es) (sym c.as_slice-ends.ensures.value) c.requires.grid.are_ends) in
    at_nodes p t gs rows net all ends

pub kept_places-requires-clause-few : goal.kept_places-requires-clause-few
kept_places-requires-clause-few c =
    let p = c.args.net.now in
    let t = c.args.timetable.now in
    let net = c.parts-parts.ensures.rules in
    let gs : List GridTrack = c.as_slice-tracks.result.now in
    let all : AreGridTracks p t gs = subst (AreGridTracks p t) (sym c.as_slice-tracks.ensures.value) c.requires.grid.tracks in
    let places : List NodeId = c.as_slice-places.result.now in
    let are : places ≡ nodes_of_candidates c.args.grid.joints.items gs = c.as_slice-places.ensures.value ∙ (c.requires.grid.are_candidates ∙ ap (nodes_of_candidates c.args.grid.joints.items) (sym c.as_slice-tracks.ensures.value)) in
    let few : length places ≤ 512 = subst (λ (ns : List NodeId). length ns ≤ 512) (sym are) (few_candidates p t gs c.args.grid.joints.items net all c.requires.grid.are_joints c.requires.kept.1.0) in
    omega arith

pub kept_places-requires-clause-within : goal.kept_places-requires-clause-within
kept_places-requires-clause-within c =
    let p = c.args.net.now in
    let t = c.args.timetable.now in
    let net = c.parts-parts.ensures.rules in
    let gs : List GridTrack = c.as_slice-tracks.result.now in
    let all : AreGridTracks p t gs = subst (AreGridTracks p t) (sym c.as_slice-tracks.ensures.value) c.requires.grid.tracks in
    let nodes : length c.parts-parts.result.now.nodes ≡ length p.nodes = ap (λ (q : NetParts). length q.nodes) c.parts-parts.ensures.parts in
    let places : List NodeId = c.as_slice-places.result.now in
    let are : places ≡ nodes_of_candidates c.args.grid.joints.items gs = c.as_slice-places.ensures.value ∙ (c.requires.grid.are_candidates ∙ ap (nodes_of_candidates c.args.grid.joints.items) (sym c.as_slice-tracks.ensures.value)) in
    candidates_within p t gs c.args.grid.joints.items places (c.len.result + c.cut_total.result) all c.requires.grid.are_joints are (omega (arith, c.len.ensures, c.cut_total.ensures))

pub stations_of-requires-clause-count : goal.stations_of-requires-clause-count
stations_of-requires-clause-count c =
    let p = c.args.net.now in
    let t = c.args.timetable.now in
    let net = c.parts-parts.ensures.rules in
    let gs : List GridTrack = c.as_slice-tracks.result.now in
    let all : AreGridTracks p t gs = subst (AreGridTracks p t) (sym c.as_slice-tracks.ensures.value) c.requires.grid.tracks in
    grid_length p t gs all

pub trains_of-requires-clause-fit : goal.trains_of-requires-clause-fit
trains_of-requires-clause-fit c = trains_fit c.args.net.now c.args.timetable.now c.requires.kept

pub trains_of-requires-clause-ends : goal.trains_of-requires-clause-ends
trains_of-requires-clause-ends c =
    let p = c.args.net.now in
    let t = c.args.timetable.now in
    let net = c.parts-parts.ensures.rules in
    let gs : List GridTrack = c.as_slice-tracks.result.now in
    let all : AreGridTracks p t gs = subst (AreGridTracks p t) (sym c.as_slice-tracks.ensures.value) c.requires.grid.tracks in
    let rows : List (List TrackEnd) = c.as_slice-ends.result.now in
    let ends : AreEndsByNode (length p.nodes) gs rows = subst (λ (hs : List GridTrack). AreEndsByNode (length p.nodes) hs rows) (sym c.as_slice-tracks.ensures.value)
    (subst (λ (es : List (List TrackEnd)). AreEndsByNode (length p.nodes) c.args.grid.tracks.items es) (sym c.as_slice-ends.ensures.value) c.requires.grid.are_ends) in
    trains_end p t gs rows net c.requires.timetable all ends

pub returns-clause-parts : goal.returns-clause-parts
returns-clause-parts c =
    let p = c.args.net.now in
    let t = c.args.timetable.now in
    let net = c.parts-parts.ensures.rules in
    let gs : List GridTrack = c.as_slice-tracks.result.now in
    let all : AreGridTracks p t gs = subst (AreGridTracks p t) (sym c.as_slice-tracks.ensures.value) c.requires.grid.tracks in
    let rows : List (List TrackEnd) = c.as_slice-ends.result.now in
    let ends : AreEndsByNode (length p.nodes) gs rows = subst (λ (hs : List GridTrack). AreEndsByNode (length p.nodes) hs rows) (sym c.as_slice-tracks.ensures.value)
    (subst (λ (es : List (List TrackEnd)). AreEndsByNode (length p.nodes) c.args.grid.tracks.items es) (sym c.as_slice-ends.ensures.value) c.requires.grid.are_ends) in
    let places : List NodeId = c.as_slice-places.result.now in
    let are : places ≡ nodes_of_candidates c.args.grid.joints.items gs = c.as_slice-places.ensures.value ∙ (c.requires.grid.are_candidates ∙ ap (nodes_of_candidates c.args.grid.joints.items) (sym c.as_slice-tracks.ensures.value)) in
    let nodes : length c.parts-parts.result.now.nodes ≡ length p.nodes = ap (λ (q : NetParts). length q.nodes) c.parts-parts.ensures.parts in
    let kept : AreKeptPlaces p t gs c.from_vec-3.result c.from_vec-4.result =
    subst (λ (ks : List CandidateId). AreKeptPlaces p t gs c.from_vec-3.result ks) (sym c.from_vec-4.ensures)
    (subst (λ (ns : List NodeId). AreKeptPlaces p t gs ns c.in_ok-kept.kept.items) (c.as_slice-places.ensures.value ∙ sym c.from_vec-3.ensures) c.in_ok-kept.ensures) in
    let trains = trains_on_grid p t gs rows c.in_ok-trains.trains.items net c.requires.timetable all ends c.in_ok-trains.ensures in
    let i : InstanceParts = record {
      nodes = c.len.result + c.cut_total.result;
      sections = c.len-2.result;
      cells = c.from_vec.result;
      joins = c.from_vec-2.result;
      candidates = c.from_vec-3.result;
      kept = c.from_vec-4.result;
      stations = c.from_vec-5.result;
      trains = c.from_vec-6.result;
      steps = c.step_count.result;
    } in
    let total : c.len.result + c.cut_total.result ≡ length p.nodes + cut_total gs = omega (arith, c.len.ensures, c.cut_total.ensures) in
    subst (λ (hs : List GridTrack). AreParts p t hs c.args.grid.joints.items i) c.as_slice-tracks.ensures.value (record {
      nodes = total;
      sections = c.len-2.ensures ∙ ap (λ (q : NetParts). length q.sections) c.parts-parts.ensures.parts;
      cells = c.from_vec.ensures ∙ c.in_ok-cells.ensures;
      joins = subst (AreJoins p gs) (sym c.from_vec-2.ensures) c.in_ok-joins.ensures;
      candidates = c.from_vec-3.ensures ∙ (c.requires.grid.are_candidates ∙ ap (nodes_of_candidates c.args.grid.joints.items) (sym c.as_slice-tracks.ensures.value));
      kept = kept;
      stations = subst (AllZip (IsStationOf p gs) p.stations) (sym c.from_vec-5.ensures) c.in_ok-stations.ensures;
      trains = subst (AllZip (IsGridTrain gs t) t.trains) (sym c.from_vec-6.ensures) trains;
      steps = c.step_count.ensures;
    })

pub returns-clause-joins : goal.returns-clause-joins
returns-clause-joins c =
    let long : length c.from_vec-2.result ≡ length c.in_ok-joins.joins.items = ap length c.from_vec-2.ensures in
    let seen : length c.as_slice.result.now ≡ length c.in_ok-joins.joins.items = ap length c.as_slice.ensures.value in
    omega (arith, c.if-as_slice.false)
