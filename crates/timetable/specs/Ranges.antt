-- The ranges of a timetable's numbers.
use Rattle.std.specs.Prelude.{◌≤◌, ℕ, Option, None, Some, ⊤}

-- the latest time, in seconds
abbrev pub latest_s : ℕ
latest_s = 10000000

-- a step of space of 1 to 100,000 m, one of time of 1 to 86,400 s, and an end from one step of time to the latest time
pub record AreGoodSteps (space_step_m time_step_s horizon_s : ℕ) : Type 0 where
  pub some_space : 1 ≤ space_step_m
  pub space_at_most : space_step_m ≤ 100000
  pub some_time : 1 ≤ time_step_s
  pub time_at_most : time_step_s ≤ 86400
  pub one_step : time_step_s ≤ horizon_s
  pub horizon_at_most : horizon_s ≤ latest_s

-- a length of 1 to 1,000,000 m
pub record IsGoodLength (length_m : ℕ) : Type 0 where
  pub some : 1 ≤ length_m
  pub at_most : length_m ≤ 1000000

-- a speed of 1 to 500 km/h
pub record IsGoodSpeed (speed_kmh : ℕ) : Type 0 where
  pub some : 1 ≤ speed_kmh
  pub at_most : speed_kmh ≤ 500

-- a time that isn't past the latest
abbrev pub IsGoodTime : ℕ → Type 0
IsGoodTime time = time ≤ latest_s

-- a time, where there is one, isn't past the latest
abbrev pub IsGoodIfThere : Option ℕ → Type 0
IsGoodIfThere None = ⊤
IsGoodIfThere (Some time) = IsGoodTime time
