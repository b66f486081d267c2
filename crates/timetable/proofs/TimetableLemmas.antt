-- What a timetable keeps, and that entries have one.
use Rattle.std.proofs.Common.{◌≡◌, ◌<◌, ◌^◌, ℕ, List, length, get_or, Some, slice_get, sym, subst, ◌∙◌}
use Rattle.std.specs.List.{All, AllZip}
use Rattle.std.proofs.lemmas.List.{length-map}
use Rattle.std.proofs.lemmas.Option.{get_or_from_slice_get, slice_get-get_or, slice_get_within}
use Rattle.std.proofs.lemmas.Slice.Zip.{AllZip-long}
use Rattle.vss_lists.specs.Orders.{AreKept}
use Rattle.vss_names.specs.Names.{IsName}
use Rattle.rail_net.proofs.ListLaws.{map_at}
use Rattle.rail_net.proofs.NameLaws.{same_number}
use Rattle.rail_net.specs.Parts.{IsNode, IsStation, station_names}
use Rattle.rail_net.specs.Refusals.{IsNet}
use Rattle.rail_net.specs.declared.parts.GroupPart.{GroupPart}
use Rattle.rail_net.specs.declared.parts.NetParts.{NetParts}
use Rattle.rail_net.specs.declared.parts.NodeKind.TheVariants as kind
use Rattle.rail_net.specs.declared.parts.NodePart.{NodePart}
use Rattle.timetable.specs.Document.{HasFewEntries, HasFewStopEntries}
use Rattle.timetable.specs.Places.{IsBetweenEnds, IsEndName, IsStopFor, IsTimetableFor, IsTrainFor}
use Rattle.timetable.specs.Ranges.{AreGoodSteps, IsGoodIfThere, IsGoodLength, IsGoodSpeed, IsGoodTime}
use Rattle.timetable.specs.Rules.{HasGoodNumbers, HasGoodTimes, time_rules}
use Rattle.timetable.specs.Timetables.{IsEndNode, IsStopOf, IsTimetable, IsTrainOf}
use Rattle.timetable.specs.declared.entries.Entries.{Entries}
use Rattle.timetable.specs.declared.entries.StopEntry.{StopEntry}
use Rattle.timetable.specs.declared.entries.TrainEntry.{TrainEntry}
use Rattle.timetable.specs.declared.parts.StopPart.{StopPart}
use Rattle.timetable.specs.declared.parts.Timetable.{Timetable}
use Rattle.timetable.specs.declared.parts.TrainPart.{TrainPart}
use Rattle.timetable.proofs.ZipLemmas.{zip_at, zip_same}

one_node : (p : NetParts) → IsNet p → (name : List ℕ) (i j : ℕ) → IsNode p name i → IsNode p name j → i ≡ j
one_node p net name i j first second = same_number (λ (x : NodePart). x.name) p.nodes net.new_nodes i j name first second

one_station : (p : NetParts) → IsNet p → (name : List ℕ) (i j : ℕ) → IsStation p name i → IsStation p name j → i ≡ j
one_station p net name i j first second = same_number (λ (x : GroupPart). x.name) p.stations net.new_stations i j name first second

-- the node of that number is an end node, if its name is that of one
end_node : (p : NetParts) (name : List ℕ) (node : ℕ) → IsNet p → IsEndName p name → IsNode p name node → IsEndNode p node
unfolding IsEndName
end_node p name node net ends is =
    let at : IsNode p name ends.0 = map_at (λ (x : NodePart). x.name) p.nodes ends.0 (record { name = name; kind = kind.EndNode }) ends.1 in
    record {
      name = name;
      is_node = subst (λ n. slice_get p.nodes n ≡ Some (record { name = name; kind = kind.EndNode })) (one_node p net name ends.0 node at is) ends.1;
    }

station_within : (p : NetParts) (station : ℕ) (name : List ℕ) → IsStation p name station → station < length p.stations
station_within p station name is = subst (λ n. station < n) (length-map p.stations (λ (g : GroupPart). g.name)) (slice_get_within (station_names p) station name is)

-- a stop of the network, from its entry
stop_kept : (p : NetParts) (e : StopEntry) (s : StopPart) → IsStopFor p e s → HasGoodTimes e → IsStopOf p s
stop_kept p e s is good = record {
  station = station_within p s.station e.station is.station;
  from_s = subst IsGoodTime (sym is.from_s) good.from_s;
  until_s = subst IsGoodTime (sym is.until_s) good.until_s;
  dwell_s = subst IsGoodTime (sym is.dwell_s) good.dwell_s;
}

stops_kept : (p : NetParts) (es : List StopEntry) (ss : List StopPart) → AllZip (IsStopFor p) es ss → All HasGoodTimes es → All (IsStopOf p) ss
stops_kept p es ss pairs good k d within =
    let s = get_or ss k d in
    let pair = zip_at (IsStopFor p) es ss pairs k s (slice_get-get_or ss k d within) in
    let e : StopEntry = pair.0 in
    let times : HasGoodTimes e = subst HasGoodTimes (get_or_from_slice_get es k e e pair.1) (good k e (slice_get_within es k e pair.1)) in
    stop_kept p e s pair.2 times

-- a train of the network, from its entry
train_kept : (p : NetParts) (e : TrainEntry) (t : TrainPart) → IsNet p → IsTrainFor p e t → IsName e.name → IsBetweenEnds p e → HasGoodNumbers e → HasFewStopEntries e → IsTrainOf p t
train_kept p e t net is named ends good few = record {
  name = subst IsName (sym is.name) named;
  from = end_node p e.from t.from net ends.from is.from;
  to = end_node p e.to t.to net ends.to is.to;
  length_m = subst IsGoodLength (sym is.length_m) good.length_m;
  speed_kmh = subst IsGoodSpeed (sym is.speed_kmh) good.speed_kmh;
  entry_s = subst IsGoodTime (sym is.entry_s) good.entry_s;
  arrive_s = subst IsGoodIfThere (sym is.arrive_s) good.arrive_s;
  entry_until_s = subst IsGoodIfThere (sym is.entry_until_s) good.entry_until_s;
  few_stops = subst (λ n. n < 2 ^ 32) (sym (AllZip-long (IsStopFor p) e.stops t.stops is.stops)) few;
  stops = stops_kept p e.stops t.stops is.stops good.stops;
}

trains_kept : (p : NetParts) (e : Entries) (ts : List TrainPart) → IsNet p → HasFewEntries e → AreKept (time_rules p e) → AllZip (IsTrainFor p) e.trains ts → All (IsTrainOf p) ts
trains_kept p e ts net few kept pairs k d within =
    let t = get_or ts k d in
    let pair = zip_at (IsTrainFor p) e.trains ts pairs k t (slice_get-get_or ts k d within) in
    let x : TrainEntry = pair.0 in
    let few_stops : HasFewStopEntries x = subst HasFewStopEntries (get_or_from_slice_get e.trains k x x pair.1) (few.stops k x (slice_get_within e.trains k x pair.1)) in
    train_kept p x t net pair.2 (kept.0.at_each k x pair.1) (kept.1.1.1.1.0.at_each k x pair.1) (kept.1.1.1.1.1.1.0.at_each k x pair.1) few_stops

steps_kept : (e : Entries) (t : Timetable) → t.space_step_m ≡ e.space_step_m → t.time_step_s ≡ e.time_step_s → t.horizon_s ≡ e.horizon_s
    → AreGoodSteps e.space_step_m e.time_step_s e.horizon_s → AreGoodSteps t.space_step_m t.time_step_s t.horizon_s
steps_kept e t space time horizon good =
    subst (λ n. AreGoodSteps n t.time_step_s t.horizon_s) (sym space)
    (subst (λ n. AreGoodSteps e.space_step_m n t.horizon_s) (sym time) (subst (AreGoodSteps e.space_step_m e.time_step_s) (sym horizon) good))

-- the timetable of entries that keep the rules is one of the network
pub timetable_kept : (p : NetParts) (e : Entries) (t : Timetable) → IsNet p → HasFewEntries e → AreKept (time_rules p e) → IsTimetableFor p e t → IsTimetable p t
timetable_kept p e t net few kept is = record {
  few = subst (λ n. n < 2 ^ 32) (sym (AllZip-long (IsTrainFor p) e.trains t.trains is.trains)) few.trains;
  steps = steps_kept e t is.space_step_m is.time_step_s is.horizon_s kept.1.1.1.1.1.0;
  trains = trains_kept p e t.trains net few kept is.trains;
  new_names = record {
    at_each = λ k train at j earlier low there same.
        let x = zip_at (IsTrainFor p) e.trains t.trains is.trains k train at in
        let w = zip_at (IsTrainFor p) e.trains t.trains is.trains j earlier there in
        kept.1.1.0.at_each k x.0 x.1 j w.0 low w.1 (sym w.2.name ∙ (same ∙ x.2.name));
  };
}

same_stop : (p : NetParts) → IsNet p → (e : StopEntry) (s t : StopPart) → IsStopFor p e s → IsStopFor p e t → s ≡ t
same_stop p net e s t first second =
    let station : s.station ≡ t.station = one_station p net e.station s.station t.station first.station second.station in
    let from_s : s.from_s ≡ t.from_s = first.from_s ∙ sym second.from_s in
    let until_s : s.until_s ≡ t.until_s = first.until_s ∙ sym second.until_s in
    let dwell_s : s.dwell_s ≡ t.dwell_s = first.dwell_s ∙ sym second.dwell_s in
    λ i. record { station = station i; from_s = from_s i; until_s = until_s i; dwell_s = dwell_s i }

same_train : (p : NetParts) → IsNet p → (e : TrainEntry) (t u : TrainPart) → IsTrainFor p e t → IsTrainFor p e u → t ≡ u
same_train p net e t u first second =
    let name : t.name ≡ u.name = first.name ∙ sym second.name in
    let length_m : t.length_m ≡ u.length_m = first.length_m ∙ sym second.length_m in
    let speed_kmh : t.speed_kmh ≡ u.speed_kmh = first.speed_kmh ∙ sym second.speed_kmh in
    let from : t.from ≡ u.from = one_node p net e.from t.from u.from first.from second.from in
    let to : t.to ≡ u.to = one_node p net e.to t.to u.to first.to second.to in
    let entry_s : t.entry_s ≡ u.entry_s = first.entry_s ∙ sym second.entry_s in
    let arrive_s : t.arrive_s ≡ u.arrive_s = first.arrive_s ∙ sym second.arrive_s in
    let until_s : t.entry_until_s ≡ u.entry_until_s = first.entry_until_s ∙ sym second.entry_until_s in
    let stops : t.stops ≡ u.stops = zip_same (IsStopFor p) (same_stop p net) e.stops t.stops u.stops first.stops second.stops in
    λ i. record {
      name = name i;
      length_m = length_m i;
      speed_kmh = speed_kmh i;
      from = from i;
      to = to i;
      entry_s = entry_s i;
      arrive_s = arrive_s i;
      entry_until_s = until_s i;
      stops = stops i;
    }

-- entries have one timetable
pub same_timetable : (p : NetParts) → IsNet p → (e : Entries) (t u : Timetable) → IsTimetableFor p e t → IsTimetableFor p e u → t ≡ u
same_timetable p net e t u first second =
    let space : t.space_step_m ≡ u.space_step_m = first.space_step_m ∙ sym second.space_step_m in
    let time : t.time_step_s ≡ u.time_step_s = first.time_step_s ∙ sym second.time_step_s in
    let horizon : t.horizon_s ≡ u.horizon_s = first.horizon_s ∙ sym second.horizon_s in
    let trains : t.trains ≡ u.trains = zip_same (IsTrainFor p) (same_train p net) e.trains t.trains u.trains first.trains second.trains in
    λ i. record { space_step_m = space i; time_step_s = time i; horizon_s = horizon i; trains = trains i }
