-- What the loop of `are_satisfied` keeps from turn to turn.
use Rattle.std.proofs.Common.{ℕ, ◌<◌}
use Rattle.std.specs.Prelude.{List, slice_index_or}
use Rattle.sat_core.specs.declared.literal.Lit.{Lit}
use Rattle.sat_core.specs.Clauses.{Satisfies}
use Rattle.vss_rows.specs.Pieces.{pieces}
use Rattle.sat_core.proofs.pieces.are_satisfied.Given as goal

-- the clauses up to here are satisfied
abbrev pub invariant-loop-place : goal.invariant-loop-place
invariant-loop-place l = (k : ℕ) (d : List Lit) → k < l.place → Satisfies l.values (slice_index_or (pieces l.row 0 l.ends) k d)
