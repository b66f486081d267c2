-- A search for the fewest borders, between two calls of its solver.
use Rattle.std.specs.Prelude.{◌≡◌, ◌<◌, ◌≤◌, ◌+◌, ◌-◌, ℕ, List, [], ◌∷◌, map, length, true, Option, Some, slice_get}
use Rattle.border_counter.specs.Counter.{at_least_var, at_least_lit, not_at_least_lit}
use Rattle.clause_encoder.specs.Maps.{MapParts}
use Rattle.clause_encoder.specs.declared.task.Task.TheVariants.{Free}
use Rattle.derivation_log.specs.declared.step.Bound.TheVariants.{AtMost}
use Rattle.cell_net.specs.declared.ids.CandidateId.{CandidateId}
use Rattle.cell_net.specs.declared.parts.InstanceParts.{InstanceParts}
use Rattle.cell_net.specs.declared.plans.Plan.{Plan}
use Rattle.sat_core.specs.Search.{log_of, units_of, adds_in}
use Rattle.solver_face.specs.Solving.{Solving, IsSound}
use Rattle.task_driver.specs.BoundUnits.{AreUnitsOf, bounds_in}
use Rattle.task_driver.specs.Questions.{of_fewest, Formulas}
use Rattle.task_driver.specs.TaskEnds.{AreFormulasOf}
use Rattle.task_driver.specs.declared.units.BoundUnit.{BoundUnit}
use Rattle.task_driver.specs.Sessions.{Entry, bounds_of, BeginsWithBound, session_events, AreLater, IsBest}

-- the last of the numbers, or that one
abbrev pub last_number : ℕ → List ℕ → ℕ
last_number most [] = most
last_number most (k ∷ ks) = last_number k ks

-- the solver was given the units of the bounds, from the number of candidates down, and what it derives is a session
pub record IsUnderway (f : Formulas) (p : InstanceParts) (budget : ℕ) (s : Solving) (left : ℕ) (bounds : List ℕ) (best : Option (List CandidateId × Plan)) : Type 0 where
  pub entries : List Entry
  pub bounds_are : bounds_of entries ≡ AtMost (length p.candidates) ∷ map AtMost bounds
  pub begins : BeginsWithBound entries
  pub falling : AreLater p of_fewest (AtMost (length p.candidates)) (map AtMost bounds)
  pub vars : s.vars ≡ f.free_vars
  pub formula : s.formula ≡ f.free
  pub events : s.events ≡ session_events f.unit (length p.candidates) entries
  pub units : units_of s.events ≡ map f.unit bounds
  pub sound : IsSound s
  pub spent : adds_in (log_of s.events) + left ≡ budget
  pub best_is : IsBest p (AtMost (length p.candidates)) (map AtMost bounds) best

-- the map has the counter of the formulas: its literals, and the places of its order clauses
pub record HasCounter (p : InstanceParts) (f : Formulas) (m : MapParts) : Type 0 where
  pub counts : m.counts ≡ true
  pub candidates : m.candidates ≡ length p.candidates
  pub unit : (k : ℕ) → f.unit k ≡ not_at_least_lit m.first_of_count m.candidates (k + 1)
  pub after : 1 ≤ m.first_of_count
  pub before : (k : ℕ) → k < length p.candidates → at_least_var m.first_of_count m.candidates (k + 1) ≤ f.free_vars
  pub order : (j : ℕ) → 1 ≤ j → j < length p.candidates → slice_get f.free (m.before_order + j - 1) ≡ Some (not_at_least_lit m.first_of_count m.candidates (j + 1) ∷ at_least_lit m.first_of_count m.candidates j ∷ [])

-- a search over the formulas of the instance, whose solver was given these units
pub record IsSearching (f : Formulas) (p : InstanceParts) (m : MapParts) (budget : ℕ) (s : Solving) (left : ℕ) (units : List BoundUnit) (best : Option (List CandidateId × Plan)) : Type 0 where
  pub formulas : AreFormulasOf p Free f
  pub counter : HasCounter p f m
  pub underway : IsUnderway f p budget s left (bounds_in units) best
  pub numbered : AreUnitsOf f.unit (length f.free) s.events units
