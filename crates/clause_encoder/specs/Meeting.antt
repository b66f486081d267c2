-- The steps at which a train may begin to meet a stop, as the encoder's code names them.
use Rattle.std.specs.Prelude.{ℕ, ◌+◌, ◌-◌, min, max, List, [], ◌∷◌, map, cond, not, nat_lt}
use Rattle.sat_core.specs.declared.literal.Lit.{Lit}
use Rattle.cell_net.specs.declared.trains.StopSpec.{StopSpec}
use Rattle.clause_list.specs.Ranges.{from_below}
use Rattle.clause_list.specs.Numbers.{CodedTrain, is}
use Rattle.clause_list.specs.StopClauses.{stop_at, meets, last_of_stop, stop_in_run, entered, stand}
use Rattle.sweep_table.specs.Tables.{Table, stands_in}

-- the first step of the beginnings of a stop, and the step behind the last
abbrev pub first_beginning : CodedTrain → StopSpec → ℕ
first_beginning a stop = max stop.from a.start

abbrev pub end_of_beginnings : CodedTrain → StopSpec → ℕ
end_of_beginnings a stop = min stop.until (a.by + 1) + 1 - stop.dwell

-- the stop of that place is met from one of the steps on
abbrev pub met_at : CodedTrain → ℕ → ℕ → Lit
met_at a i s = is (meets a i s)

abbrev pub met_from : CodedTrain → ℕ → ℕ → ℕ → List Lit
met_from a i from end = map (met_at a i) (from_below from end)

-- for each beginning: at the last step of the stop the run has not ended, if it may have
unfoldable pub in_run_at : CodedTrain → ℕ → ℕ → List (List Lit)
in_run_at a i s = cond (nat_lt a.start (last_of_stop a i s)) (stop_in_run a i s ∷ []) []

-- for each beginning: the run does not begin after it, if it may
unfoldable pub entered_at : CodedTrain → ℕ → ℕ → List (List Lit)
entered_at a i s = cond (nat_lt s a.latest) (entered a i s ∷ []) []

-- for each item of a step: it stands in the station, or the stop is not met from a step on
unfoldable pub stand_at : Table → CodedTrain → ℕ → ℕ → ℕ → ℕ → List (List Lit)
stand_at table a i s t w = cond (not (stands_in table (stop_at a i).station.0 w)) (stand a i s t w ∷ []) []
