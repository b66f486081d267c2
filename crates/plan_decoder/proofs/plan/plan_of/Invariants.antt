-- What the loop of `plan_of` keeps: the runs of the trains so far.
use Rattle.std.specs.Prelude.{◌≡◌, map}
use Rattle.clause_list.specs.Ranges.{from_below}
use Rattle.clause_encoder.specs.TableLists.{tables_of}
use Rattle.plan_laws.specs.Telling.{told_run_of}
use Rattle.plan_decoder.proofs.plan.plan_of.Given as goal

abbrev pub invariant-loop-train : goal.invariant-loop-train
invariant-loop-train g l = l.runs.items ≡ map (told_run_of l.values (tables_of g.M.Moves.table l.inst l.tables) l.map.trains) (from_below 0 l.train)
