-- The units that a solver was given, as the rebasing of its log takes them.
use Rattle.std.proofs.Common.{◌≡◌, ◌∙◌, ℕ, ◌+◌, ◌<◌, ◌≤◌, List, [], ◌∷◌, ◌++◌, length, map, refl, sym, subst, arith}
use Rattle.sat_core.specs.declared.literal.Lit.{Lit}
use Rattle.sat_core.specs.Derivation.{DerivedStep, adds, drops}
use Rattle.sat_core.specs.Search.{Event, gives, derives, log_of, units_of, adds_in}
use Rattle.log_rebase.specs.Rebasing.{AreMarksOf, RiseFrom}
use Rattle.log_rebase.specs.declared.mark.UnitMark.{UnitMark}
use Rattle.task_driver.specs.BoundUnits.{AreUnitsOf}
use Rattle.task_driver.specs.declared.units.BoundUnit.{BoundUnit}

-- steps give no unit
units_in_steps : (unit_of : ℕ → Lit) (last : ℕ) (steps : List DerivedStep) → AreUnitsOf unit_of last (map derives steps) []
units_in_steps unit_of last [] = tt
units_in_steps unit_of last (adds id lits hints ∷ steps) = units_in_steps unit_of (last + 1) steps
units_in_steps unit_of last (drops ids ∷ steps) = units_in_steps unit_of last steps

pub units_still : (unit_of : ℕ → Lit) (last : ℕ) (events : List Event) (steps : List DerivedStep) (units : List BoundUnit) → AreUnitsOf unit_of last events units → AreUnitsOf unit_of last (events ++ map derives steps) units
units_still unit_of last [] steps [] are = units_in_steps unit_of last steps
units_still unit_of last [] steps (u ∷ units) are = absurd are
units_still unit_of last (gives lit ∷ events) steps [] are = absurd are
units_still unit_of last (gives lit ∷ events) steps (u ∷ units) are = (are.0, are.1, units_still unit_of (last + 1) events steps units are.2)
units_still unit_of last (derives (adds id lits hints) ∷ events) steps units are = units_still unit_of (last + 1) events steps units are
units_still unit_of last (derives (drops ids) ∷ events) steps units are = units_still unit_of last events steps units are

-- a further unit takes the number behind all that were taken
pub unit_more : (unit_of : ℕ → Lit) (last : ℕ) (events : List Event) (units : List BoundUnit) (u : BoundUnit) → u.id.0 ≡ last + length (units_of events) + adds_in (log_of events) + 1 → AreUnitsOf unit_of last events units
    → AreUnitsOf unit_of last (events ++ gives (unit_of u.most) ∷ []) (units ++ u ∷ [])
unit_more unit_of last [] [] u number are = (omega arith, refl, tt)
unit_more unit_of last [] (v ∷ units) u number are = absurd are
unit_more unit_of last (gives lit ∷ events) [] u number are = absurd are
unit_more unit_of last (gives lit ∷ events) (v ∷ units) u number are = (are.0, are.1, unit_more unit_of (last + 1) events units u (omega arith) are.2)
unit_more unit_of last (derives (adds id lits hints) ∷ events) units u number are = unit_more unit_of (last + 1) events units u (omega arith) are
unit_more unit_of last (derives (drops ids) ∷ events) units u number are = unit_more unit_of last events units u number are

module _ (unit_of : ℕ → Lit) (mark : BoundUnit → UnitMark) (same_id : (u : BoundUnit) → (mark u).id.0 ≡ u.id.0) (same_lit : (u : BoundUnit) → (mark u).lit ≡ unit_of u.most) where
  pub are_marks : (last : ℕ) (events : List Event) (units : List BoundUnit) → AreUnitsOf unit_of last events units → AreMarksOf last events (map mark units)
  are_marks last [] [] are = tt
  are_marks last [] (u ∷ units) are = absurd are
  are_marks last (gives lit ∷ events) [] are = absurd are
  are_marks last (gives lit ∷ events) (u ∷ units) are = (same_id u ∙ are.0, same_lit u ∙ are.1, are_marks (last + 1) events units are.2)
  are_marks last (derives (adds id lits hints) ∷ events) units are = are_marks (last + 1) events units are
  are_marks last (derives (drops ids) ∷ events) units are = are_marks last events units are

rise_lower : (one other : ℕ) (marks : List UnitMark) → RiseFrom one marks → other ≤ one → RiseFrom other marks
rise_lower one other [] rise less = tt
rise_lower one other (mark ∷ marks) rise less = let first : one < mark.id.0 = rise.0 in (omega arith, rise.1)

-- the marks of events rise
pub marks_in_order : (last : ℕ) (events : List Event) (marks : List UnitMark) → AreMarksOf last events marks → RiseFrom last marks
marks_in_order last [] [] are = tt
marks_in_order last [] (mark ∷ marks) are = absurd are
marks_in_order last (gives lit ∷ events) [] are = absurd are
marks_in_order last (gives lit ∷ events) (mark ∷ marks) are = (omega (arith, are.0), subst (λ (n : ℕ). RiseFrom n marks) (sym are.0) (marks_in_order (last + 1) events marks are.2))
marks_in_order last (derives (adds id lits hints) ∷ events) marks are = rise_lower (last + 1) last marks (marks_in_order (last + 1) events marks are) (omega arith)
marks_in_order last (derives (drops ids) ∷ events) marks are = marks_in_order last events marks are
