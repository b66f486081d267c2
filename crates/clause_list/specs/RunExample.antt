-- An example with a run: the row of four cells, and a train that goes over it from the first cell to the last in three steps.
use Rattle.std.specs.Prelude.{◌≡◌, ℕ, List, [], ◌∷◌, length, refl, true, false}
use Rattle.sat_core.specs.declared.literal.Lit.{Lit}
use Rattle.cell_net.specs.declared.cells.DirCell.{DirCell}
use Rattle.cell_net.specs.declared.cells.End.TheVariants.{High}
use Rattle.sweep_table.specs.Tables.{Table}
use Rattle.border_counter.specs.Counter.{sum_to, gate_at, row_clauses, gates_of, order_at, order_clauses}
use Rattle.clause_list.specs.Ranges.{from_below}
use Rattle.clause_list.specs.Numbers.{CodedTrain, behind_train, first_of_trains}
use Rattle.clause_list.specs.Cones.{is_ahead_by, leads_home_by, is_in_both, cone_at, cones_of}
use Rattle.clause_list.specs.RunClauses.{enter_clauses, go_on_clauses, goes_on_at, stay_ended_clauses, gone_clauses, gone_at, touch_clauses, touches_at, touches_of}
use Rattle.clause_list.specs.StopClauses.{stop_met_clauses, stop_in_run_clauses, stand_clauses, stop_after_entry_clauses}
use Rattle.clause_list.specs.BorderClauses.{kept_clauses, given_clauses, borders_between, borders_from, gap_clauses}
use Rattle.clause_list.specs.WholeList.{of_train, of_each_train, by_train, by_each_train, apart_of, apart_of_all, whole, free_families, given_families}
use Rattle.clause_list.specs.Example.{row, one_walk}

-- the cell, towards its high end
abbrev pub up : ℕ → DirCell
up e = record { cell = record { 0 = e }; end = High }

-- its sweeps are of two cells each
abbrev pub sweeps : Table
sweeps = record {
  cells = (up 0 ∷ up 1 ∷ []) ∷ (up 1 ∷ up 2 ∷ []) ∷ (up 2 ∷ up 3 ∷ []) ∷ [];
  next = (record { 0 = 1 } ∷ []) ∷ (record { 0 = 2 } ∷ []) ∷ [] ∷ [];
  prev = [] ∷ (record { 0 = 0 } ∷ []) ∷ (record { 0 = 1 } ∷ []) ∷ [];
  entries = true ∷ false ∷ false ∷ [];
  goals = false ∷ false ∷ true ∷ [];
  stands = λ station. [];
}

abbrev pub through : CodedTrain
through = record { start = 0; latest = 0; by = 2; stops = []; cells = 4; first = first_of_trains row; cones = cones_of sweeps 0 2 }

-- each cone has one sweep
pub one_sweep_each : cones_of sweeps 0 2 ≡ (0 ∷ []) ∷ (1 ∷ []) ∷ (2 ∷ []) ∷ []
unfolding from_below is_ahead_by leads_home_by is_in_both cone_at
one_sweep_each = refl

-- 26 variables, and 32 with the counter's
pub variables_end : behind_train through ≡ 27
unfolding from_below is_ahead_by leads_home_by is_in_both cone_at
variables_end = refl

abbrev pub free_clauses : ℕ → List (List Lit)
free_clauses most = whole (free_families one_walk row (sweeps ∷ []) (through ∷ []) (behind_train through) most)

pub thirty_eight_clauses : length (free_clauses 3) ≡ 38
unfolding from_below is_ahead_by leads_home_by is_in_both cone_at sum_to enter_clauses go_on_clauses goes_on_at stay_ended_clauses gone_clauses gone_at touch_clauses touches_at touches_of stop_met_clauses stop_in_run_clauses stand_clauses stop_after_entry_clauses kept_clauses borders_between borders_from gap_clauses of_train of_each_train by_train by_each_train apart_of apart_of_all gate_at row_clauses gates_of order_at order_clauses
thirty_eight_clauses = refl

pub one_with_no_border : length (free_clauses 0) ≡ 39
unfolding from_below is_ahead_by leads_home_by is_in_both cone_at sum_to enter_clauses go_on_clauses goes_on_at stay_ended_clauses gone_clauses gone_at touch_clauses touches_at touches_of stop_met_clauses stop_in_run_clauses stand_clauses stop_after_entry_clauses kept_clauses borders_between borders_from gap_clauses of_train of_each_train by_train by_each_train apart_of apart_of_all gate_at row_clauses gates_of order_at order_clauses
one_with_no_border = refl

pub of_empty_layout : length (whole (given_families one_walk row (sweeps ∷ []) (through ∷ []) [])) ≡ 21
unfolding from_below is_ahead_by leads_home_by is_in_both cone_at enter_clauses go_on_clauses goes_on_at stay_ended_clauses gone_clauses gone_at touch_clauses touches_at touches_of stop_met_clauses stop_in_run_clauses stand_clauses stop_after_entry_clauses given_clauses borders_between borders_from gap_clauses of_train of_each_train by_train by_each_train apart_of apart_of_all
of_empty_layout = refl
