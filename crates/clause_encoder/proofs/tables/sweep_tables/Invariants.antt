-- What the loop of `sweep_tables` keeps from turn to turn.
use Rattle.clause_encoder.specs.SweepTables.{HaveTables}
use Rattle.clause_encoder.proofs.tables.sweep_tables.Given as goal

abbrev pub invariant-loop-place : goal.invariant-loop-place
invariant-loop-place l = HaveTables l.inst l.place l.tables.items
