-- The parts of a scene keep every rule of an instance.
use Rattle.std.proofs.Common.{◌≡◌, ◌<◌, ◌≤◌, ℕ, List, length, Some, slice_get, sym, subst, arith}
use Rattle.std.specs.Prelude.{All, slice_index_or}
use Rattle.std.proofs.lemmas.Option.{slice_get-get_or}
use Rattle.vss_lists.specs.Orders.{AreKept}
use Rattle.cell_net.specs.Rules.{IsInstance}
use Rattle.cell_net.specs.declared.parts.InstanceParts.{InstanceParts}
use Rattle.rail_net.specs.Refusals.{IsNet}
use Rattle.rail_net.specs.declared.parts.NetParts.{NetParts}
use Rattle.timetable.specs.Timetables.{IsTimetable}
use Rattle.timetable.specs.declared.parts.TrainPart.{TrainPart}
use Rattle.timetable.specs.declared.parts.Timetable.{Timetable}
use Rattle.discretise.specs.Tracks.{AreGridTracks, cell_total}
use Rattle.discretise.specs.Places.{AreFreeJoints, nodes_of_candidates}
use Rattle.discretise.specs.Refusals.{FitsGrid, HasFewCandidates, cut_rules}
use Rattle.discretise.specs.Scenes.{AreParts}
use Rattle.discretise.specs.declared.tracks.GridTrack.{GridTrack}
use Rattle.discretise.proofs.CandidateLemmas.{good_candidates}
use Rattle.discretise.proofs.JoinLaws.{good_joins}
use Rattle.discretise.proofs.OneLemmas.{one_grid}
use Rattle.discretise.proofs.PickLaws.{picks_same}
use Rattle.discretise.proofs.RestLemmas.{few_stops, good_kept, good_stations, good_trains, some_time, zip_length}
use Rattle.discretise.proofs.SectionLemmas.{connected}
use Rattle.discretise.proofs.SoundLemmas.{cell_count, few_cells, good_cells, sound}

-- each train fits the grid, where the rules of trains are kept
pub trains_fit : (p : NetParts) (t : Timetable) → AreKept (cut_rules p t) → All (FitsGrid t) t.trains
trains_fit p t kept k d within =
    let x : TrainPart = slice_index_or t.trains k d in
    let is : slice_get t.trains k ≡ Some x = slice_get-get_or t.trains k d within in
    record {
      not_too_slow = kept.1.1.1.1.1.1.0.at_each k x is;
      not_too_fast = kept.1.1.1.1.1.1.1.0.at_each k x is;
      not_too_long = kept.1.1.1.1.1.1.1.1.0.at_each k x is;
      enters = kept.1.1.1.1.1.1.1.1.1.0.at_each k x is;
      arrives = kept.1.1.1.1.1.1.1.1.1.1.0.at_each k x is;
      window = kept.1.1.1.1.1.1.1.1.1.1.1.0.at_each k x is;
      stops = kept.1.1.1.1.1.1.1.1.1.1.1.1.0.at_each k x is;
    }

-- the candidates are few
pub few_candidates : (p : NetParts) (t : Timetable) (gs : List GridTrack) (joints : List ℕ) → IsNet p → AreGridTracks p t gs → AreFreeJoints p joints → HasFewCandidates p t → length (nodes_of_candidates joints gs) ≤ 512
few_candidates p t gs joints net all free few =
    let tracks : few.tracks ≡ gs = one_grid p t few.tracks gs net few.are_tracks all in
    let same : few.joints ≡ joints = picks_same _ _ few.joints joints few.are_joints free in
    subst (λ js. length (nodes_of_candidates js gs) ≤ 512) same (subst (λ hs. length (nodes_of_candidates few.joints hs) ≤ 512) tracks few.few)

pub is_instance : (p : NetParts) (t : Timetable) (gs : List GridTrack) (joints : List ℕ) (i : InstanceParts) → IsNet p → IsTimetable p t → AreKept (cut_rules p t) → AreGridTracks p t gs → AreFreeJoints p joints → AreParts p t gs joints i → IsInstance i
is_instance p t gs joints i net timed kept all free parts =
    let all_sound = sound p t gs net timed all kept.1.1.1.1.0 in
    let few : cell_total gs ≤ 1000 = few_cells p t gs net timed all kept.1.1.1.1.0 kept.0 in
    let count = cell_count p t gs i all parts.cells in
    let fits = trains_fit p t kept in
    let stations : length i.stations ≡ length p.stations = sym (zip_length _ p.stations i.stations parts.stations) in
    let trains : length i.trains ≡ length t.trains = sym (zip_length _ t.trains i.trains parts.trains) in
    let candidates = few_candidates p t gs joints net all free kept.1.0 in
    record {
      steps = record { some = subst (λ n. 0 < n) (sym parts.steps) (some_time t timed.steps.some_time timed.steps.one_step); few = subst (λ n. n ≤ 400) (sym parts.steps) kept.1.1.1.0 };
      cells = good_cells p t gs i all parts.cells net timed kept.1.1.1.1.0 few parts.nodes parts.sections;
      joins = good_joins p t gs i net all parts.cells (λ k g is. (all_sound k g is).some) i.joins parts.joins;
      sections = record { at_each = λ k below. connected p t gs i net all parts.cells (λ j g is. (all_sound j g is).some) k };
      candidates = good_candidates p t gs i net all parts.cells all_sound joints free parts.nodes parts.candidates candidates;
      kept = good_kept p t gs i parts.kept;
      stations = good_stations p t gs i net all count all_sound parts.stations;
      trains = good_trains p t gs i net timed all parts.cells count all_sound stations parts.steps kept.1.1.0 fits parts.trains;
      few_cells = omega arith;
      few_candidates = subst (λ cs. length cs ≤ 512) (sym parts.candidates) candidates;
      few_trains = omega (arith, kept.1.1.0);
      few_stops = few_stops p t gs i net timed all parts.cells count all_sound stations parts.steps parts.trains;
    }
