-- Kept candidates, stations and trains of the grid keep the rules of an instance.
use Rattle.std.proofs.Common.{◌≡◌, ◌+◌, ◌<◌, ◌≤◌, ◌^◌, ℕ, zero, suc, List, [], ◌∷◌, length, map, get_or, Some, None, slice_get, refl, sym, ap, subst, ◌∙◌, arith}
use Rattle.std.specs.Prelude.{All, Option}
use Rattle.std.specs.List.{AllZip, Contains}
use Rattle.std.proofs.lemmas.List.{length-map}
use Rattle.std.proofs.lemmas.List.Elements.{All-contains, All-map, Contains-get_or}
use Rattle.std.proofs.lemmas.Option.{same_Some, slice_get_within, slice_get-get_or}
use Rattle.std.proofs.lemmas.Nat.{le-div}
use Rattle.vss_lists.specs.Breaks.{HoldsOfEach}
use Rattle.cell_net.specs.Borders.{IsAboveLast}
use Rattle.cell_net.specs.Rules.{IsGoodKept, IsGoodStation, IsGoodStop, IsGoodTrain}
use Rattle.cell_net.specs.Space.{IsCell, head_of, tail_of}
use Rattle.cell_net.specs.declared.ids.CandidateId.{CandidateId}
use Rattle.cell_net.specs.declared.ids.CellId.{CellId}
use Rattle.cell_net.specs.declared.cells.CellEnd.{CellEnd}
use Rattle.cell_net.specs.declared.trains.TrainSpec.{TrainSpec}
use Rattle.cell_net.specs.declared.parts.InstanceParts.{InstanceParts}
use Rattle.rail_net.specs.Parts.{IsTrack, track_names}
use Rattle.rail_net.specs.Refusals.{IsNet}
use Rattle.rail_net.specs.Rules.{AreKnown}
use Rattle.rail_net.specs.declared.parts.GroupPart.{GroupPart}
use Rattle.rail_net.specs.declared.parts.TrackPart.{TrackPart}
use Rattle.rail_net.specs.declared.parts.NetParts.{NetParts}
use Rattle.rail_net.proofs.ListLaws.{contains_at, mapped_at, place_of}
use Rattle.timetable.specs.Timetables.{IsTimetable, IsTrainOf}
use Rattle.timetable.specs.declared.parts.StopPart.{StopPart}
use Rattle.timetable.specs.declared.parts.TrainPart.{TrainPart}
use Rattle.timetable.specs.declared.parts.Timetable.{Timetable}
use Rattle.discretise.specs.Rounding.{last_step, latest_entry, step_count, step_from}
use Rattle.discretise.specs.Tracks.{AreGridTracks, cell_total}
use Rattle.discretise.specs.Cells.{cell, cells_on}
use Rattle.discretise.specs.Joins.{ends_at}
use Rattle.discretise.specs.Places.{AreKeptPlaces, IsKeptPlace, candidate}
use Rattle.discretise.specs.Stations.{IsStationOf, IsTrackOf, cell_ids}
use Rattle.discretise.specs.Trains.{IsGridTrain, IsOneEnd, stop_of}
use Rattle.discretise.specs.Refusals.{FitsGrid, HasTimeToStop, IsWindow}
use Rattle.discretise.specs.declared.tracks.GridTrack.{GridTrack}
use Rattle.discretise.proofs.ChainLemmas.{row_has, row_is}
use Rattle.discretise.proofs.GridLemmas.{flat_has, has_flat}
use Rattle.discretise.proofs.JoinLaws.{cell_of_end}
use Rattle.discretise.proofs.NetLemmas.{grid_of, has_number}
use Rattle.discretise.proofs.PickLaws.{picked_holds, picks_all}
use Rattle.discretise.proofs.RisingLaws.{RisesTo, rises_above, rises_picked, rises_within}
use Rattle.discretise.proofs.RowLemmas.{has_first}
use Rattle.discretise.proofs.SoundLemmas.{IsSound}
use Rattle.discretise.proofs.TrackLemmas.{some_cells}

-- ---- kept candidates

pub good_kept : (p : NetParts) (t : Timetable) (gs : List GridTrack) (i : InstanceParts) → AreKeptPlaces p t gs i.candidates i.kept → HoldsOfEach (IsGoodKept i) i.kept
good_kept p t gs i are = record {
  at_each = λ k c is.
      let there : slice_get (map candidate are.numbers) k ≡ Some c = subst (λ cs. slice_get cs k ≡ Some c) are.are is in
      let rising : RisesTo (λ (x : CandidateId). x.0) 0 (0 + length i.candidates) (map candidate are.numbers) = rises_picked (λ (x : CandidateId). x.0) candidate (λ n. refl) (IsKeptPlace p t gs i.candidates) 0 (length i.candidates) are.numbers are.picked in
      let within = rises_within (λ (x : CandidateId). x.0) 0 (0 + length i.candidates) (map candidate are.numbers) rising k c there in
      record {
        rises = subst (λ cs. IsAboveLast (λ (x : CandidateId). x.0) cs k c) (sym are.are) (rises_above (λ (x : CandidateId). x.0) 0 (0 + length i.candidates) (map candidate are.numbers) rising k c there);
        in_range = omega (arith, within.1);
      };
}

-- ---- zips by places

pub zip_at : {X Y : Type 0} (R : X → Y → Type 0) (xs : List X) (ys : List Y) → AllZip R xs ys → (k : ℕ) (y : Y) → slice_get ys k ≡ Some y → (x : X) × (slice_get xs k ≡ Some x) × R x y
zip_at R [] [] zipped k y is = absurd (grind arith)
zip_at R [] (b ∷ ys) zipped k y is = absurd zipped
zip_at R (a ∷ xs) [] zipped k y is = absurd zipped
zip_at R (a ∷ xs) (b ∷ ys) zipped zero y is = (a, refl, subst (R a) (same_Some b y is) zipped.0)
zip_at R (a ∷ xs) (b ∷ ys) zipped (suc k) y is = zip_at R xs ys zipped.1 k y is

pub zip_length : {X Y : Type 0} (R : X → Y → Type 0) (xs : List X) (ys : List Y) → AllZip R xs ys → length xs ≡ length ys
zip_length R [] [] zipped = refl
zip_length R [] (b ∷ ys) zipped = absurd zipped
zip_length R (a ∷ xs) [] zipped = absurd zipped
zip_length R (a ∷ xs) (b ∷ ys) zipped = let rest = zip_length R xs ys zipped.1 in omega arith

-- ---- stations

module _ (p : NetParts) (t : Timetable) (gs : List GridTrack) (i : InstanceParts) (net : IsNet p) (all : AreGridTracks p t gs) (count : length i.cells ≡ cell_total gs) (sound : (k : ℕ) (g : GridTrack) → slice_get gs k ≡ Some g → IsSound p gs g) where
  ids_within : (g : GridTrack) → Contains gs g → (c : CellId) → Contains (cell_ids g) c → IsCell i c
  ids_within g there c has =
      let s = sound g.number g (has_number p t gs net all g there) in
      let at = place_of (cell_ids g) c has in
      let row = row_is (λ (k : ℕ). cell (g.first + k)) g.count at.0 c at.1 in
      let number : g.first + at.0 ≡ c.0 = ap (λ (x : CellId). x.0) row.1 in
      omega (arith, s.cells, row.0)

  station_cells : (s : GroupPart) (cells : List CellId) → IsStationOf p gs s cells → (c : CellId) → Contains cells c → IsCell i c
  station_cells s cells are c there =
      let at = flat_has cell_ids are.tracks c (subst (λ cs. Contains cs c) are.are there) in
      let picked = picked_holds (IsTrackOf p s) gs are.tracks are.picked at.0 at.1 in
      ids_within at.0 picked.0 c at.2

  station_known : (k : ℕ) (s : GroupPart) → slice_get p.stations k ≡ Some s → (j : ℕ) (name : List ℕ) → slice_get s.tracks j ≡ Some name → Contains (track_names p) name
  unfolding AreKnown
  station_known k s is j name at = net.stations_know.at_each k s is j name at

  -- a station lists a track, and so has a cell
  station_some : (k : ℕ) (s : GroupPart) (cells : List CellId) → slice_get p.stations k ≡ Some s → IsStationOf p gs s cells → 0 < length cells
  station_some k s cells is are =
      let listed : 0 < length s.tracks = All-contains (λ (x : GroupPart). 0 < length x.tracks) p.stations s net.named.station_tracks (contains_at p.stations k s is) in
      let name : List ℕ = get_or s.tracks 0 [] in
      let known : Contains (track_names p) name = station_known k s is 0 name (slice_get-get_or s.tracks 0 [] listed) in
      let place = place_of (track_names p) name known in
      let part = mapped_at (λ (x : TrackPart). x.name) p.tracks place.0 name place.1 in
      let grid = grid_of p t gs net all place.0 part.0 part.1 in
      let g = grid.0 in
      let number : g.number ≡ place.0 = grid.1.own.number in
      let has : Contains gs g = contains_at gs place.0 g grid.1.is_grid in
      let picked : Contains are.tracks g = picks_all (IsTrackOf p s) gs are.tracks are.picked g has (record { name = name; is_track = subst (λ n. IsTrack p name n) (sym number) place.1; listed = Contains-get_or s.tracks 0 [] listed }) in
      let first : Contains (cell_ids g) (cell (g.first + 0)) = first_id g (sound place.0 g grid.1.is_grid).some in
      let there : Contains cells (cell (g.first + 0)) = subst (λ cs. Contains cs (cell (g.first + 0))) (sym are.are) (has_flat cell_ids are.tracks g (cell (g.first + 0)) picked first) in
      omega (arith, there.1)
    where
      first_id : (g : GridTrack) → 0 < g.count → Contains (cell_ids g) (cell (g.first + 0))
      first_id g some = contains_at (cell_ids g) 0 (cell (g.first + 0)) (row_has (λ (k : ℕ). cell (g.first + k)) g.count 0 some)

  pub good_stations : AllZip (IsStationOf p gs) p.stations i.stations → HoldsOfEach (IsGoodStation i) i.stations
  good_stations zipped = record {
    at_each = λ k cells is.
        let at = zip_at (IsStationOf p gs) p.stations i.stations zipped k cells is in
        record {
          some = station_some k at.0 cells at.1 at.2;
          in_range = λ j d within. station_cells at.0 cells at.2 (get_or cells j d) (Contains-get_or cells j d within);
        };
  }

-- ---- trains

entry_order : (t : Timetable) (start by : ℕ) (until_s : Option ℕ) → start ≤ by → IsWindow t start until_s → (start ≤ latest_entry t start by until_s) × (latest_entry t start by until_s ≤ by)
entry_order t start by None order window = (omega arith, order)
entry_order t start by (Some until_s) order window = (omega (arith, window), omega arith)

last_below : (t : Timetable) (arrive_s : Option ℕ) → 0 < step_count t → last_step t arrive_s < step_count t
last_below t None some = omega arith
last_below t (Some arrive_s) some = omega arith

pub some_time : (t : Timetable) → 1 ≤ t.time_step_s → t.time_step_s ≤ t.horizon_s → 0 < step_count t
some_time t some one = le-div 1 t.horizon_s t.time_step_s some (omega arith)

module _ (p : NetParts) (t : Timetable) (gs : List GridTrack) (i : InstanceParts) (net : IsNet p) (timed : IsTimetable p t) (all : AreGridTracks p t gs) (cells : i.cells ≡ cells_on gs) (count : length i.cells ≡ cell_total gs) (sound : (k : ℕ) (g : GridTrack) → slice_get gs k ≡ Some g → IsSound p gs g) (stations : length i.stations ≡ length p.stations) (steps : i.steps ≡ step_count t) where
  end_cell : (node : ℕ) (e : CellEnd) → IsOneEnd (ends_at gs node) e → IsCell i e.cell
  end_cell node e one =
      let its : Contains (ends_at gs node) one.its = subst (λ es. Contains es one.its) (sym one.only) (has_first one.its []) in
      let at = cell_of_end p t gs i net all cells (λ k g is. (sound k g is).some) node one.its its in
      let s = sound at.g.number at.g at.there in
      let same : one.its.end.cell.0 ≡ e.cell.0 = ap (λ (x : CellEnd). x.cell.0) one.is in
      omega (arith, at.number, at.within, s.cells)

  good_stop : (s : StopPart) → s.station < length p.stations → HasTimeToStop t s → IsGoodStop i (stop_of t s)
  good_stop s station fits = record { station = omega arith; stands = omega arith; fits = fits }

  good_train : (k : ℕ) (x : TrainPart) (s : TrainSpec) → k < 32 → IsTrainOf p x → FitsGrid t x → IsGridTrain gs t x s → IsGoodTrain i k s
  good_train k x s few its fits is =
      let order : s.start ≤ s.by = subst (λ n. n ≤ s.by) (sym is.start) (subst (λ n. step_from t x.entry_s ≤ n) (sym is.by) fits.arrives.in_order) in
      let window = entry_order t s.start s.by x.entry_until_s order (subst (λ n. IsWindow t n x.entry_until_s) (sym is.start) fits.window) in
      let last = last_below t x.arrive_s (some_time t timed.steps.some_time timed.steps.one_step) in
      record {
        few = few;
        long = subst (λ n. 0 < n) (sym is.its_length) (some_cells x.length_m t.space_step_m its.length_m.some timed.steps.some_space);
        short = subst (λ n. n ≤ 64) (sym is.its_length) fits.not_too_long;
        moves = subst (λ n. 0 < n) (sym is.advance) fits.not_too_slow;
        limited = subst (λ n. n ≤ 20) (sym is.advance) fits.not_too_fast;
        entry = end_cell x.from (tail_of s.entry) is.entry;
        goal = end_cell x.to (head_of s.goal) is.goal;
        window = subst (λ n. s.start ≤ n) (sym is.latest) window.0;
        in_order = subst (λ n. n ≤ s.by) (sym is.latest) window.1;
        in_time = omega (arith, is.by, last, steps);
        stops = subst (All (IsGoodStop i)) (sym is.stops) (All-map (IsGoodStop i) (stop_of t) x.stops (λ j d within.
            good_stop (get_or x.stops j d) (its.stops j d within).station (fits.stops j d within)));
      }

  pub good_trains : length t.trains ≤ 32 → All (FitsGrid t) t.trains → AllZip (IsGridTrain gs t) t.trains i.trains → HoldsOfEach (IsGoodTrain i) i.trains
  good_trains few fits zipped = record {
    at_each = λ k s is.
        let at = zip_at (IsGridTrain gs t) t.trains i.trains zipped k s is in
        let within : k < length t.trains = slice_get_within t.trains k at.0 at.1 in
        let there : Contains t.trains at.0 = contains_at t.trains k at.0 at.1 in
        good_train k at.0 s (omega arith) (All-contains (IsTrainOf p) t.trains at.0 timed.trains there) (All-contains (FitsGrid t) t.trains at.0 fits there) at.2;
  }

  pub few_stops : AllZip (IsGridTrain gs t) t.trains i.trains → All (λ s. length s.stops < 2 ^ 32) i.trains
  few_stops zipped k d within =
      let s : TrainSpec = get_or i.trains k d in
      let at = zip_at (IsGridTrain gs t) t.trains i.trains zipped k s (slice_get-get_or i.trains k d within) in
      let its = All-contains (IsTrainOf p) t.trains at.0 timed.trains (contains_at t.trains k at.0 at.1) in
      let long : length s.stops ≡ length at.0.stops = ap length at.2.stops ∙ length-map at.0.stops (stop_of t) in
      omega (arith, its.few_stops)
