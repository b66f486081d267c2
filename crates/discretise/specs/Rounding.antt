-- Rounding: metres as cells, and seconds as steps. All divisions are of whole numbers.
use Rattle.std.specs.Prelude.{ℕ, ◌-◌, ◌*◌, ◌/◌, min, max, Option, None, Some, ⊤, ◌≤◌}
use Rattle.std.specs.Int.{div_ceil}
use Rattle.cell_net.specs.declared.limits.TheConstants.{ADVANCE}
use Rattle.timetable.specs.Ranges.{AreGoodSteps}
use Rattle.timetable.specs.declared.parts.Timetable.{Timetable}

-- its steps are in their ranges
abbrev pub HasSteps : Timetable → Type 0
HasSteps t = AreGoodSteps t.space_step_m t.time_step_s t.horizon_s

-- a length in cells, rounded up
abbrev pub length_in_cells : Timetable → ℕ → ℕ
length_in_cells t length_m = div_ceil length_m t.space_step_m

-- how many whole cells a speed covers in a step of time: 18 km/h are 5 m/s
abbrev pub advance_of : Timetable → ℕ → ℕ
advance_of t speed_kmh = speed_kmh * t.time_step_s * 5 / (18 * t.space_step_m)

-- how many cells a train may advance on a track with this limit: no limit is the greatest one, and so is any
-- that is greater
abbrev pub limit_of : Timetable → Option ℕ → ℕ
limit_of t None = ADVANCE
limit_of t (Some limit_kmh) = min (advance_of t limit_kmh) ADVANCE

-- the steps that end at the horizon or before
abbrev pub step_count : Timetable → ℕ
step_count t = t.horizon_s / t.time_step_s

-- the first step that begins at the time or later
abbrev pub step_from : Timetable → ℕ → ℕ
step_from t time_s = div_ceil time_s t.time_step_s

-- how many steps end at the time or before
abbrev pub steps_until : Timetable → ℕ → ℕ
steps_until t time_s = time_s / t.time_step_s

-- some step ends at the time or before, where there is one
abbrev pub HasStepUntil : Timetable → Option ℕ → Type 0
HasStepUntil t None = ⊤
HasStepUntil t (Some time_s) = 1 ≤ steps_until t time_s

-- the last step that ends at the arrival time or before, within the horizon
abbrev pub last_step : Timetable → Option ℕ → ℕ
last_step t None = step_count t - 1
last_step t (Some arrive_s) = min (steps_until t arrive_s - 1) (step_count t - 1)

-- the last step at which a train may enter that enters from `start` on and arrives by step `by`: it waits until the
-- time that it has for that, and without one it doesn't wait
abbrev pub latest_entry : Timetable → (start by : ℕ) → Option ℕ → ℕ
latest_entry t start by None = start
latest_entry t start by (Some entry_until_s) = min (steps_until t entry_until_s) by

-- how many steps a stop takes: one at least
abbrev pub dwell_steps : Timetable → ℕ → ℕ
dwell_steps t dwell_s = max 1 (step_from t dwell_s)
