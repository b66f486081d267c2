-- The formulas of an instance, over its gaps and the tables of its trains.
use Rattle.std.specs.Prelude.{◌+◌, List, length}
use Rattle.cell_net.specs.declared.ids.CandidateId.{CandidateId}
use Rattle.cell_net.specs.declared.parts.InstanceParts.{InstanceParts}
use Rattle.border_counter.specs.Counter.{at_least_var}
use Rattle.sweep_table.specs.Tables.{Table}
use Rattle.clause_list.specs.Coding.{network_of, trains_of, first_of_count, given_variables, free_variables, given_task, walks_in}
use Rattle.clause_list.specs.Numbers.{is_not}
use Rattle.clause_list.specs.WholeList.{counted_families, whole}
use Rattle.task_driver.specs.Questions.{Formulas}

-- the formula of the kept borders; the free one with its counter; and as unit of a bound that no more borders stand
abbrev pub formulas_of : InstanceParts → List (List (List (List CandidateId))) → List Table → Formulas
formulas_of p gaps tables = record {
  given_vars = given_variables p tables;
  given = given_task p gaps tables p.kept;
  free_vars = free_variables p tables;
  free = whole (counted_families (walks_in gaps) (network_of p) tables (trains_of p tables) (first_of_count p tables));
  unit = λ k. is_not (at_least_var (first_of_count p tables) (length p.candidates) (k + 1));
}
