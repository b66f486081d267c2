-- The rules of the grid in their order, and which refusal tells the first that is broken.
use Rattle.std.specs.Prelude.{◌≡◌, ◌≢◌, ◌<◌, ◌≤◌, ◌+◌, ◌*◌, ℕ, List, [], ◌∷◌, ◌++◌, length, sum_by, ⊤, Option, None, Some, All}
use Rattle.cell_net.specs.declared.limits.TheConstants.{ADVANCE, CANDIDATES, CELLS, LENGTH, STEPS, TRAINS}
use Rattle.vss_lists.specs.Orders.{OrderRule, IsFirstBroken, rule, rule_of_each}
use Rattle.rail_net.specs.declared.parts.TrackPart.{TrackPart}
use Rattle.rail_net.specs.declared.parts.BorderPart.{BorderPart}
use Rattle.rail_net.specs.declared.parts.BorderPart.TheVariants as border
use Rattle.rail_net.specs.declared.parts.NetParts.{NetParts}
use Rattle.rail_net.specs.declared.refusal.ListKind.{ListKind}
use Rattle.rail_net.specs.declared.refusal.ListKind.TheVariants.{Document, Tracks, Borders, Trains}
use Rattle.timetable.specs.declared.parts.StopPart.{StopPart}
use Rattle.timetable.specs.declared.parts.TrainPart.{TrainPart}
use Rattle.timetable.specs.declared.parts.Timetable.{Timetable}
use Rattle.discretise.specs.Rounding.{HasStepUntil, advance_of, length_in_cells, dwell_steps, last_step, limit_of, step_count, step_from, steps_until}
use Rattle.discretise.specs.Tracks.{AreGridTracks}
use Rattle.discretise.specs.Places.{AreFreeJoints, nodes_of_candidates}
use Rattle.discretise.specs.declared.tracks.GridTrack.{GridTrack}
use Rattle.discretise.specs.declared.refusal.CutFault.{CutFault}
use Rattle.discretise.specs.declared.refusal.CutFault.TheVariants.{TooManyCells, TooManyCandidates, TooManyTrains, TooManySteps, LimitTooLow, BorderOffGrid, TooSlow, StepTooCoarse, TrainTooLong, EntryPastHorizon, ArrivalBeforeEntry, WindowEmpty, StopWindow}
use Rattle.discretise.specs.declared.refusal.CutRefusal.{CutRefusal}
use Rattle.discretise.specs.declared.refusal.CutRefusal.TheVariants.{Named, Memory}

-- the rule is broken by an item of the list
abbrev pub cut_at : CutFault → ListKind → ℕ → CutRefusal
cut_at kind list item = Named kind (record { list = list; item = item })

abbrev pub CutRules : Type 1
CutRules = List (OrderRule CutRefusal)

-- not too many cells
abbrev pub HasFewCells : NetParts → Timetable → Type 0
HasFewCells p t = sum_by (λ track. length_in_cells t track.length_m) p.tracks ≤ CELLS

-- not too many candidates: joints and cuts together
pub record HasFewCandidates (p : NetParts) (t : Timetable) : Type 0 where
  pub tracks : List GridTrack
  pub joints : List ℕ
  pub are_tracks : AreGridTracks p t tracks
  pub are_joints : AreFreeJoints p joints
  pub few : length (nodes_of_candidates joints tracks) ≤ CANDIDATES

-- a train may advance on the track
abbrev pub HasSomeLimit : Timetable → ℕ → TrackPart → Type 0
HasSomeLimit t place track = 0 < limit_of t track.limit_kmh

-- the metres are whole steps of space
pub record AreWholeSteps (t : Timetable) (metres : ℕ) : Type 0 where
  pub steps : ℕ
  pub whole : metres ≡ steps * t.space_step_m

-- a border within a track stands at a cut
abbrev pub IsOnGrid : Timetable → ℕ → BorderPart → Type 0
IsOnGrid t place (border.Cut track at_m) = AreWholeSteps t at_m
IsOnGrid t place (border.Joint name) = ⊤

-- the rules of a train
abbrev pub IsNotTooSlow : Timetable → ℕ → TrainPart → Type 0
IsNotTooSlow t place x = 0 < advance_of t x.speed_kmh

abbrev pub IsNotTooFast : Timetable → ℕ → TrainPart → Type 0
IsNotTooFast t place x = advance_of t x.speed_kmh ≤ ADVANCE

abbrev pub IsNotTooLong : Timetable → ℕ → TrainPart → Type 0
IsNotTooLong t place x = length_in_cells t x.length_m ≤ LENGTH

abbrev pub EntersInTime : Timetable → ℕ → TrainPart → Type 0
EntersInTime t place x = step_from t x.entry_s < step_count t

-- a step ends at the arrival time or before, and the last of them isn't before the first step of the train
pub record ArrivesInTime (t : Timetable) (x : TrainPart) : Type 0 where
  pub some : HasStepUntil t x.arrive_s
  pub in_order : step_from t x.entry_s ≤ last_step t x.arrive_s

-- a window of entry isn't over before the train enters
abbrev pub IsWindow : Timetable → ℕ → Option ℕ → Type 0
IsWindow t start None = ⊤
IsWindow t start (Some entry_until_s) = start ≤ steps_until t entry_until_s

abbrev pub HasWindow : Timetable → ℕ → TrainPart → Type 0
HasWindow t place x = IsWindow t (step_from t x.entry_s) x.entry_until_s

-- the stop fits between its times
abbrev pub HasTimeToStop : Timetable → StopPart → Type 0
HasTimeToStop t s = step_from t s.from_s + dwell_steps t s.dwell_s ≤ steps_until t s.until_s

abbrev pub HasTimeForStops : Timetable → ℕ → TrainPart → Type 0
HasTimeForStops t place x = All (HasTimeToStop t) x.stops

-- the train keeps all of these
pub record FitsGrid (t : Timetable) (x : TrainPart) : Type 0 where
  pub not_too_slow : IsNotTooSlow t 0 x
  pub not_too_fast : IsNotTooFast t 0 x
  pub not_too_long : IsNotTooLong t 0 x
  pub enters : EntersInTime t 0 x
  pub arrives : ArrivesInTime t x
  pub window : HasWindow t 0 x
  pub stops : HasTimeForStops t 0 x

-- not too many of anything
abbrev pub size_rules : NetParts → Timetable → CutRules
size_rules p t =
    rule (cut_at TooManyCells Document 0) (HasFewCells p t) ∷
    rule (cut_at TooManyCandidates Document 0) (HasFewCandidates p t) ∷
    rule (cut_at TooManyTrains Document 0) (length t.trains ≤ TRAINS) ∷
    rule (cut_at TooManySteps Document 0) (step_count t ≤ STEPS) ∷ []

-- tracks and borders fit the grid
abbrev pub track_rules : NetParts → Timetable → CutRules
track_rules p t =
    rule_of_each (cut_at LimitTooLow Tracks) (HasSomeLimit t) p.tracks ∷
    rule_of_each (cut_at BorderOffGrid Borders) (IsOnGrid t) p.borders ∷ []

-- trains fit the grid
abbrev pub train_rules : Timetable → CutRules
train_rules t =
    rule_of_each (cut_at TooSlow Trains) (IsNotTooSlow t) t.trains ∷
    rule_of_each (cut_at StepTooCoarse Trains) (IsNotTooFast t) t.trains ∷
    rule_of_each (cut_at TrainTooLong Trains) (IsNotTooLong t) t.trains ∷
    rule_of_each (cut_at EntryPastHorizon Trains) (EntersInTime t) t.trains ∷
    rule_of_each (cut_at ArrivalBeforeEntry Trains) (λ place x. ArrivesInTime t x) t.trains ∷
    rule_of_each (cut_at WindowEmpty Trains) (HasWindow t) t.trains ∷
    rule_of_each (cut_at StopWindow Trains) (HasTimeForStops t) t.trains ∷ []

-- all rules, in their order
abbrev pub cut_rules : NetParts → Timetable → CutRules
cut_rules p t = size_rules p t ++ (track_rules p t ++ train_rules t)

-- the refusal tells the first of the rules that is broken; want of memory says nothing of them
abbrev pub RefusesCut : CutRules → CutRefusal → Type 0
RefusesCut rules refusal = refusal ≢ Memory → IsFirstBroken rules refusal
