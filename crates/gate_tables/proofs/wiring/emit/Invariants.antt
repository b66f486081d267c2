-- What the loop of `emit` keeps from turn to turn.
use Rattle.std.proofs.Common.{◌++◌, ◌∷◌, []}
use Rattle.gate_tables.specs.Gates.{clauses_of}
use Rattle.gate_tables.proofs.EmitLemmas.{IsEmitted}
use Rattle.gate_tables.proofs.wiring.emit.Given as goal

abbrev pub invariant-loop-clause : goal.invariant-loop-clause
invariant-loop-clause g l = IsEmitted (l.inputs ++ l.out ∷ []) (clauses_of l.clause-items) l.initial.formula l.formula l.clause-index
