-- Names of a document and the nodes and stations that have them.
use Rattle.std.proofs.Common.{◌≡◌, ◌↔◌, ℕ, List, Some, slice_get, sym, ap, ◌∙◌}
use Rattle.std.proofs.lemmas.Option.{same_Some}
use Rattle.rail_net.proofs.ListLaws.{map_at}
use Rattle.rail_net.proofs.NameLaws.{same_number}
use Rattle.rail_net.specs.Parts.{IsNode, IsStation}
use Rattle.rail_net.specs.Refusals.{IsNet}
use Rattle.rail_net.specs.declared.parts.NetParts.{NetParts}
use Rattle.rail_net.specs.declared.parts.NodeKind.TheVariants as kind
use Rattle.rail_net.specs.declared.parts.NodePart.{NodePart}
use Rattle.timetable.specs.Places.{IsEndName, IsNodeThere, IsStationThere, IsStopFor, IsTrainFor, KnowsPlaces}
use Rattle.timetable.specs.declared.entries.StopEntry.{StopEntry}
use Rattle.timetable.specs.declared.entries.TrainEntry.{TrainEntry}
use Rattle.timetable.specs.declared.parts.StopPart.{StopPart}
use Rattle.timetable.specs.declared.parts.TrainPart.{TrainPart}
use Rattle.timetable.proofs.ZipLemmas.{zip_each}

-- the node of that number is an end node exactly if its kind is
pub end_if : (p : NetParts) (name : List ℕ) (n : ℕ) (part : NodePart) → IsNet p → IsNode p name n → slice_get p.nodes n ≡ Some part
    → (part.kind ≡ kind.EndNode) ↔ IsEndName p name
unfolding IsEndName
end_if p name n part net is there =
    let own : part.name ≡ name = same_Some part.name name (sym (map_at (λ (x : NodePart). x.name) p.nodes n part there) ∙ is) in (
      λ ends. (n, there ∙ ap Some (ap (λ m. record { name = m; kind = part.kind }) own ∙ ap (λ k. record { name = name; kind = k }) ends)),
      λ has.
          let at : IsNode p name has.0 = map_at (λ (x : NodePart). x.name) p.nodes has.0 (record { name = name; kind = kind.EndNode }) has.1 in
          let same : has.0 ≡ n = same_number (λ (x : NodePart). x.name) p.nodes net.new_nodes has.0 n name at is in
          let whole : part ≡ record { name = name; kind = kind.EndNode } =
          same_Some part (record { name = name; kind = kind.EndNode }) (sym there ∙ (ap (slice_get p.nodes) (sym same) ∙ has.1)) in
          ap (λ (x : NodePart). x.kind) whole,
    )

-- a name of no node is that of no end node
pub not_end : (p : NetParts) (name : List ℕ) → ((node : ℕ) → ¬ IsNode p name node) → ¬ IsEndName p name
unfolding IsEndName
not_end p name none has = none has.0 (map_at (λ (x : NodePart). x.name) p.nodes has.0 (record { name = name; kind = kind.EndNode }) has.1)

-- a name with a number is there
pub node_there : (p : NetParts) (name : List ℕ) (node : ℕ) → IsNode p name node → IsNodeThere p name
unfolding IsNodeThere
node_there p name node is = (node, is)

pub station_there : (p : NetParts) (name : List ℕ) (station : ℕ) → IsStation p name station → IsStationThere p name
unfolding IsStationThere
station_there p name station is = (station, is)

-- a name of no node, of no station, isn't there
pub no_node_there : (p : NetParts) (name : List ℕ) → ((node : ℕ) → ¬ IsNode p name node) → ¬ IsNodeThere p name
unfolding IsNodeThere
no_node_there p name none there = none there.0 there.1

pub no_station_there : (p : NetParts) (name : List ℕ) → ((station : ℕ) → ¬ IsStation p name station) → ¬ IsStationThere p name
unfolding IsStationThere
no_station_there p name none there = none there.0 there.1

-- what a train refers to is there, where it has a number
stop_known : (p : NetParts) (entry : StopEntry) (s : StopPart) → IsStopFor p entry s → IsStationThere p entry.station
stop_known p entry s is = station_there p entry.station s.station is.station

pub train_known : (p : NetParts) (entry : TrainEntry) (t : TrainPart) → IsTrainFor p entry t → KnowsPlaces p entry
train_known p entry t is = record {
  from = node_there p entry.from t.from is.from;
  to = node_there p entry.to t.to is.to;
  stations = zip_each (IsStopFor p) (λ (e : StopEntry). IsStationThere p e.station) (stop_known p) entry.stops t.stops is.stops;
}
