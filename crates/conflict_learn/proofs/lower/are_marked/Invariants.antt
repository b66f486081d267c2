-- What the loop of `are_marked` keeps from turn to turn.
use Rattle.std.specs.Prelude.{◌≡◌, ℕ, ◌-◌, ◌<◌, true, false, slice_index_or}
use Rattle.sat_core.specs.declared.literal.Lit.{Lit}
use Rattle.conflict_learn.proofs.lower.are_marked.Given as goal

abbrev pub invariant-loop-lit : goal.invariant-loop-lit
invariant-loop-lit l = (k : ℕ) (d : Lit) → k < l.lit-index → slice_index_or l.marks ((slice_index_or l.lits k d).var.0 - 1) false ≡ true
