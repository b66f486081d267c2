-- A network and a timetable have one grid, and one scene.
use Rattle.std.proofs.Common.{◌≡◌, ◌+◌, ◌-◌, ℕ, List, [], ◌∷◌, ◌++◌, length, map, slice_get, refl, sym, ap, subst, ◌∙◌}
use Rattle.std.specs.List.{AllZip, flat_map}
use Rattle.std.proofs.lemmas.Option.{same_Some}
use Rattle.cell_net.specs.Space.{head_of, opposite, tail_of}
use Rattle.cell_net.specs.declared.ids.CellId.{CellId}
use Rattle.cell_net.specs.declared.cells.CellEnd.{CellEnd}
use Rattle.cell_net.specs.declared.cells.DirCell.{DirCell}
use Rattle.cell_net.specs.declared.cells.End.{End}
use Rattle.cell_net.specs.declared.cells.End.TheVariants.{Low, High}
use Rattle.cell_net.specs.declared.cells.JoinSpec.{JoinSpec}
use Rattle.cell_net.specs.declared.trains.TrainSpec.{TrainSpec}
use Rattle.cell_net.specs.declared.labels.Labels.{Labels}
use Rattle.cell_net.specs.declared.parts.InstanceParts.{InstanceParts}
use Rattle.rail_net.specs.Refusals.{IsNet}
use Rattle.rail_net.specs.declared.parts.GroupPart.{GroupPart}
use Rattle.rail_net.specs.declared.parts.NodePart.{NodePart}
use Rattle.rail_net.specs.declared.parts.TrackPart.{TrackPart}
use Rattle.rail_net.specs.declared.parts.NetParts.{NetParts}
use Rattle.rail_net.proofs.ListingLemmas.{one_section}
use Rattle.rail_net.proofs.NameLaws.{same_number}
use Rattle.timetable.specs.declared.parts.TrainPart.{TrainPart}
use Rattle.timetable.specs.declared.parts.Timetable.{Timetable}
use Rattle.discretise.specs.Rounding.{latest_entry}
use Rattle.discretise.specs.Tracks.{AreGridTracks, AreLaid, IsGridTrack}
use Rattle.discretise.specs.Joins.{AreJoins, cut_joins, ends_at, join_of}
use Rattle.discretise.specs.Places.{AreKeptPlaces, candidate}
use Rattle.discretise.specs.Stations.{IsStationOf, cell_ids}
use Rattle.discretise.specs.Trains.{IsGridTrain, IsOneEnd}
use Rattle.discretise.specs.Scenes.{AreNames, AreParts, IsScene}
use Rattle.discretise.specs.declared.tracks.GridTrack.{GridTrack}
use Rattle.discretise.specs.declared.ends.TrackEnd.{TrackEnd}
use Rattle.discretise.proofs.PickLaws.{picks_same}

one_track : (p : NetParts) (t : Timetable) (number first cut : ℕ) (part : TrackPart) (g h : GridTrack) → IsNet p → IsGridTrack p t number first cut part g → IsGridTrack p t number first cut part h → g ≡ h
one_track p t number first cut part g h net one other =
    let numbers : g.number ≡ h.number = one.number ∙ sym other.number in
    let from : g.from ≡ h.from = same_number (λ (n : NodePart). n.name) p.nodes net.new_nodes g.from h.from part.from one.from other.from in
    let to : g.to ≡ h.to = same_number (λ (n : NodePart). n.name) p.nodes net.new_nodes g.to h.to part.to one.to other.to in
    let section : g.section ≡ h.section = one_section p g.section h.section number net.once one.section other.section in
    let limit : g.limit ≡ h.limit = one.limit ∙ sym other.limit in
    let virtual : g.is_virtual ≡ h.is_virtual = one.is_virtual ∙ sym other.is_virtual in
    let count : g.count ≡ h.count = one.count ∙ sym other.count in
    let firsts : g.first ≡ h.first = one.first ∙ sym other.first in
    let cuts : g.cut ≡ h.cut = one.cut ∙ sym other.cut in
    λ i. record { number = numbers i; from = from i; to = to i; section = section i; limit = limit i; is_virtual = virtual i; count = count i; first = firsts i; cut = cuts i }

one_laid : (p : NetParts) (t : Timetable) (number first cut : ℕ) (parts : List TrackPart) (gs hs : List GridTrack) → IsNet p → AreLaid p t number first cut parts gs → AreLaid p t number first cut parts hs → gs ≡ hs
one_laid p t number first cut [] [] [] net one other = refl
one_laid p t number first cut [] [] (h ∷ hs) net one other = absurd other
one_laid p t number first cut [] (g ∷ gs) hs net one other = absurd one
one_laid p t number first cut (x ∷ parts) [] hs net one other = absurd one
one_laid p t number first cut (x ∷ parts) (g ∷ gs) [] net one other = absurd other
one_laid p t number first cut (x ∷ parts) (g ∷ gs) (h ∷ hs) net one other =
    let same : g ≡ h = one_track p t number first cut x g h net one.0 other.0 in
    let rest = one_laid p t (number + 1) (first + g.count) (cut + (g.count - 1)) parts gs hs net one.1 (subst (λ (k : GridTrack). AreLaid p t (number + 1) (first + k.count) (cut + (k.count - 1)) parts hs) (sym same) other.1) in
    ap (λ k. k ∷ gs) same ∙ ap (λ ks. h ∷ ks) rest

pub one_grid : (p : NetParts) (t : Timetable) (gs hs : List GridTrack) → IsNet p → AreGridTracks p t gs → AreGridTracks p t hs → gs ≡ hs
unfolding AreGridTracks
one_grid p t gs hs net one other = one_laid p t 0 0 (length p.nodes) p.tracks gs hs net one other

one_joins : (p : NetParts) (gs : List GridTrack) (js ks : List JoinSpec) → AreJoins p gs js → AreJoins p gs ks → js ≡ ks
one_joins p gs js ks one other = one.are ∙ (ap (λ ps. cut_joins gs ++ map join_of ps) (picks_same _ _ one.passages other.passages one.picked other.picked) ∙ sym other.are)

one_kept : (p : NetParts) (t : Timetable) (gs : List GridTrack) (i j : InstanceParts) → i.candidates ≡ j.candidates → AreKeptPlaces p t gs i.candidates i.kept → AreKeptPlaces p t gs j.candidates j.kept → i.kept ≡ j.kept
one_kept p t gs i j same one other =
    let also : AreKeptPlaces p t gs i.candidates j.kept = subst (λ ns. AreKeptPlaces p t gs ns j.kept) (sym same) other in
    one.are ∙ (ap (map candidate) (picks_same _ _ one.numbers also.numbers one.picked also.picked) ∙ sym also.are)

one_zip : {X Y : Type 0} (R : X → Y → Type 0) → ((x : X) (y z : Y) → R x y → R x z → y ≡ z) → (xs : List X) (ys zs : List Y) → AllZip R xs ys → AllZip R xs zs → ys ≡ zs
one_zip R each [] [] [] one other = refl
one_zip R each [] [] (z ∷ zs) one other = absurd other
one_zip R each [] (y ∷ ys) zs one other = absurd one
one_zip R each (x ∷ xs) [] zs one other = absurd one
one_zip R each (x ∷ xs) (y ∷ ys) [] one other = absurd other
one_zip R each (x ∷ xs) (y ∷ ys) (z ∷ zs) one other =
    ap (λ w. w ∷ ys) (each x y z one.0 other.0) ∙ ap (λ ws. z ∷ ws) (one_zip R each xs ys zs one.1 other.1)

one_station : (p : NetParts) (gs : List GridTrack) (s : GroupPart) (cs ds : List CellId) → IsStationOf p gs s cs → IsStationOf p gs s ds → cs ≡ ds
one_station p gs s cs ds one other = one.are ∙ (ap (flat_map cell_ids) (picks_same _ _ one.tracks other.tracks one.picked other.picked) ∙ sym other.are)

first_same : (e f : TrackEnd) → (e ∷ []) ≡ (f ∷ []) → e ≡ f
first_same e f same = same_Some e f (ap (λ (es : List TrackEnd). slice_get es 0) same)

one_end : (ends : List TrackEnd) (e f : CellEnd) → IsOneEnd ends e → IsOneEnd ends f → e ≡ f
one_end ends e f one other = sym one.is ∙ (ap (λ (x : TrackEnd). x.end) (first_same one.its other.its (sym one.only ∙ other.only)) ∙ other.is)

same_opposite : (a b : End) → opposite a ≡ opposite b → a ≡ b
same_opposite Low Low same = refl
same_opposite High High same = refl
same_opposite Low High same = sym same
same_opposite High Low same = sym same

same_tail : (d e : DirCell) → tail_of d ≡ tail_of e → d ≡ e
same_tail d e same =
    let cells : d.cell ≡ e.cell = ap (λ (x : CellEnd). x.cell) same in
    let ends : d.end ≡ e.end = same_opposite d.end e.end (ap (λ (x : CellEnd). x.end) same) in
    λ i. record { cell = cells i; end = ends i }

same_head : (d e : DirCell) → head_of d ≡ head_of e → d ≡ e
same_head d e same =
    let cells : d.cell ≡ e.cell = ap (λ (x : CellEnd). x.cell) same in
    let ends : d.end ≡ e.end = ap (λ (x : CellEnd). x.end) same in
    λ i. record { cell = cells i; end = ends i }

one_train : (gs : List GridTrack) (t : Timetable) (x : TrainPart) (r s : TrainSpec) → IsGridTrain gs t x r → IsGridTrain gs t x s → r ≡ s
one_train gs t x r s one other =
    let long : r.length ≡ s.length = one.its_length ∙ sym other.its_length in
    let advance : r.advance ≡ s.advance = one.advance ∙ sym other.advance in
    let entry : r.entry ≡ s.entry = same_tail r.entry s.entry (one_end (ends_at gs x.from) (tail_of r.entry) (tail_of s.entry) one.entry other.entry) in
    let goal : r.goal ≡ s.goal = same_head r.goal s.goal (one_end (ends_at gs x.to) (head_of r.goal) (head_of s.goal) one.goal other.goal) in
    let start : r.start ≡ s.start = one.start ∙ sym other.start in
    let last : r.by ≡ s.by = one.by ∙ sym other.by in
    let latest : r.latest ≡ s.latest = one.latest ∙ (ap (λ n. latest_entry t n r.by x.entry_until_s) start ∙ (ap (λ n. latest_entry t s.start n x.entry_until_s) last ∙ sym other.latest)) in
    let stops : r.stops ≡ s.stops = one.stops ∙ sym other.stops in
    λ i. record { length = long i; advance = advance i; entry = entry i; goal = goal i; start = start i; latest = latest i; by = last i; stops = stops i }

one_parts : (p : NetParts) (t : Timetable) (gs : List GridTrack) (joints : List ℕ) (i j : InstanceParts) → AreParts p t gs joints i → AreParts p t gs joints j → i ≡ j
one_parts p t gs joints i j one other =
    let nodes : i.nodes ≡ j.nodes = one.nodes ∙ sym other.nodes in
    let sections : i.sections ≡ j.sections = one.sections ∙ sym other.sections in
    let cells : i.cells ≡ j.cells = one.cells ∙ sym other.cells in
    let joins : i.joins ≡ j.joins = one_joins p gs i.joins j.joins one.joins other.joins in
    let candidates : i.candidates ≡ j.candidates = one.candidates ∙ sym other.candidates in
    let kept : i.kept ≡ j.kept = one_kept p t gs i j candidates one.kept other.kept in
    let stations : i.stations ≡ j.stations = one_zip (IsStationOf p gs) (one_station p gs) p.stations i.stations j.stations one.stations other.stations in
    let trains : i.trains ≡ j.trains = one_zip (IsGridTrain gs t) (one_train gs t) t.trains i.trains j.trains one.trains other.trains in
    let steps : i.steps ≡ j.steps = one.steps ∙ sym other.steps in
    λ k. record { nodes = nodes k; sections = sections k; cells = cells k; joins = joins k; candidates = candidates k; kept = kept k; stations = stations k; trains = trains k; steps = steps k }

one_labels : (p : NetParts) (t : Timetable) (gs : List GridTrack) (joints : List ℕ) (l m : Labels) → AreNames p t gs joints l → AreNames p t gs joints m → l ≡ m
one_labels p t gs joints l m one other =
    let tracks : l.tracks ≡ m.tracks = one.tracks ∙ sym other.tracks in
    let cells : l.cells ≡ m.cells = one.cells ∙ sym other.cells in
    let places : l.places ≡ m.places = one.places ∙ sym other.places in
    let trains : l.trains ≡ m.trains = one.trains ∙ sym other.trains in
    λ k. record { tracks = tracks k; cells = cells k; places = places k; trains = trains k }

-- they have one scene
pub one_scene : (p : NetParts) (t : Timetable) (i j : InstanceParts) (l m : Labels) → IsNet p → IsScene p t i l → IsScene p t j m → (i ≡ j) × (l ≡ m)
one_scene p t i j l m net one other =
    let tracks : other.tracks ≡ one.tracks = one_grid p t other.tracks one.tracks net other.are_tracks one.are_tracks in
    let joints : other.joints ≡ one.joints = picks_same _ _ other.joints one.joints other.are_joints one.are_joints in
    let parts : AreParts p t one.tracks one.joints j = subst (λ js. AreParts p t one.tracks js j) joints (subst (λ gs. AreParts p t gs other.joints j) tracks other.parts) in
    let names : AreNames p t one.tracks one.joints m = subst (λ js. AreNames p t one.tracks js m) joints (subst (λ gs. AreNames p t gs other.joints m) tracks other.names) in
    (one_parts p t one.tracks one.joints i j one.parts parts, one_labels p t one.tracks one.joints l m one.names names)
