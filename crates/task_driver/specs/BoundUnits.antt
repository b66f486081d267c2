-- The units of falling bounds among the events of a search, and the hints that derive an earlier one from the last.
use Rattle.std.specs.Prelude.{◌≡◌, ℕ, zero, suc, ◌+◌, ◌-◌, List, [], ◌∷◌, map, ⊤}
use Rattle.border_counter.specs.Counter.{not_at_least_lit}
use Rattle.clause_encoder.specs.Maps.{MapParts}
use Rattle.log_rebase.specs.declared.mark.UnitMark.{UnitMark}
use Rattle.sat_core.specs.declared.literal.ClauseId.{ClauseId}
use Rattle.sat_core.specs.declared.literal.Lit.{Lit}
use Rattle.sat_core.specs.Derivation.{adds, drops}
use Rattle.sat_core.specs.Search.{Event, gives, derives}
use Rattle.task_driver.specs.declared.units.BoundUnit.{BoundUnit}

-- the units that the events give, each under the next number behind that one
abbrev pub AreUnitsOf : (ℕ → Lit) → ℕ → List Event → List BoundUnit → Type 0
AreUnitsOf unit_of last [] [] = ⊤
AreUnitsOf unit_of last [] (u ∷ units) = ⊥
AreUnitsOf unit_of last (gives lit ∷ events) [] = ⊥
AreUnitsOf unit_of last (gives lit ∷ events) (u ∷ units) = (u.id.0 ≡ last + 1) × (unit_of u.most ≡ lit) × AreUnitsOf unit_of (last + 1) events units
AreUnitsOf unit_of last (derives (adds id lits hints) ∷ events) units = AreUnitsOf unit_of (last + 1) events units
AreUnitsOf unit_of last (derives (drops ids) ∷ events) units = AreUnitsOf unit_of last events units

-- the clauses of the counter's order from that of low + steps down to that of low + 1, and then the last unit, which stands directly
-- behind the formula of so many clauses
abbrev pub order_hints : ℕ → ℕ → ℕ → ℕ → List ClauseId
order_hints before clauses low zero = record { 0 = clauses + 1 } ∷ []
order_hints before clauses low (suc steps) = record { 0 = before + (low + suc steps) } ∷ order_hints before clauses low steps

-- a unit with the hints that derive it from the last one
abbrev pub mark_in : MapParts → ℕ → ℕ → BoundUnit → UnitMark
mark_in m clauses last u = record {
  id = u.id;
  lit = not_at_least_lit m.first_of_count m.candidates (u.most + 1);
  hints = order_hints m.before_order clauses last (u.most - last);
}

-- the bounds of the units
abbrev pub bounds_in : List BoundUnit → List ℕ
bounds_in units = map (λ u. u.most) units
