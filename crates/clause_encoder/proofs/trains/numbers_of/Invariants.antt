-- What the loop of `numbers_of` keeps from turn to turn.
use Rattle.std.specs.Prelude.{◌≡◌, ◌≤◌, ◌+◌, take}
use Rattle.clause_list.specs.Coding.{coded_from, behind_all}
use Rattle.clause_encoder.specs.declared.limits.TheConstants.{VARIABLES}
use Rattle.clause_encoder.specs.TableLists.{tables_of}
use Rattle.clause_encoder.proofs.trains.numbers_of.Given as goal

abbrev pub invariant-loop-place : goal.invariant-loop-place
invariant-loop-place g l = (l.trains.items ≡ coded_from l.inst l.first (take l.place (tables_of g.M.Moves.table l.inst l.tables)) (take l.place l.inst.trains)) × (l.next ≡ behind_all l.first l.trains.items) × (1 ≤ l.next) × (l.next ≤ VARIABLES + 1)
