-- Sessions: what a task tries with a budget of conflicts.
use Rattle.std.specs.Prelude.{◌≡◌, ◌<◌, ◌≤◌, ◌+◌, ℕ, nat_lt, cond, List, [], ◌∷◌, ◌++◌, length, Option, Some, None}
use Rattle.sat_core.specs.declared.literal.Lit.{Lit}
use Rattle.sat_core.specs.Derivation.{DerivedStep}
use Rattle.derivation_log.specs.declared.step.Bound.{Bound}
use Rattle.derivation_log.specs.declared.step.Bound.TheVariants.{Given, AtMost}
use Rattle.cell_net.specs.declared.ids.CandidateId.{CandidateId}
use Rattle.cell_net.specs.declared.parts.InstanceParts.{InstanceParts}
use Rattle.cell_net.specs.declared.plans.Plan.{Plan}
use Rattle.cell_net.specs.Plans.{IsFeasible, IsLawful}
use Rattle.sat_core.specs.Search.{Event, gives, derives, search_of, AreNext, log_of, adds_in}
use Rattle.solver_face.specs.Solving.{EndsInAdd, AddNoEmptyClause}
use Rattle.task_driver.specs.Questions.{Question, of_kept, of_at_most, of_fewest, first_bound, Formulas}

-- an entry: a bound from which on the search goes, or a step that it derives
pub data Entry : Type 0 where
  bound : Bound → Entry
  step : DerivedStep → Entry

abbrev pub bounds_of : List Entry → List Bound
bounds_of [] = []
bounds_of (bound b ∷ entries) = b ∷ bounds_of entries
bounds_of (step s ∷ entries) = bounds_of entries

abbrev pub BeginsWithBound : List Entry → Type 0
BeginsWithBound [] = ⊥
BeginsWithBound (bound b ∷ entries) = Unit {0}
BeginsWithBound (step s ∷ entries) = ⊥

-- the last of the bounds behind this one, or this one
abbrev pub last_of : Bound → List Bound → Bound
last_of b [] = b
last_of b (next ∷ later) = last_of next later

-- a bound below the number of candidates makes its unit live
abbrev pub event_of : (ℕ → Lit) → ℕ → Entry → List Event
event_of unit_of most (bound Given) = []
event_of unit_of most (bound (AtMost k)) = cond (nat_lt k most) (gives (unit_of k) ∷ []) []
event_of unit_of most (step s) = derives s ∷ []

-- what a solver of the first formula is given and derives
abbrev pub session_events : (ℕ → Lit) → ℕ → List Entry → List Event
session_events unit_of most [] = []
session_events unit_of most (entry ∷ entries) = event_of unit_of most entry ++ session_events unit_of most entries

-- a later bound asks for fewer borders than a feasible layout has, and for no fewer than are kept
pub record IsLater (p : InstanceParts) (before next : Bound) : Type 0 where
  pub most : ℕ
  pub is : next ≡ AtMost most
  pub had : ℕ
  pub was : before ≡ AtMost had
  pub below : most < had
  pub not_below_kept : length p.kept ≤ most
  pub borders : List CandidateId
  pub feasible : IsFeasible p borders
  pub one_more : length borders ≡ most + 1

-- the bounds behind this one
abbrev pub AreLater : InstanceParts → Question → Bound → List Bound → Type 0
AreLater p q before [] = Unit {0}
AreLater p of_fewest before (next ∷ later) = IsLater p before next × AreLater p of_fewest next later
AreLater p of_kept before (next ∷ later) = ⊥
AreLater p (of_at_most most) before (next ∷ later) = ⊥

-- the formula that the question begins with
abbrev pub first_vars : Formulas → Question → ℕ
first_vars f of_kept = f.given_vars
first_vars f (of_at_most most) = f.free_vars
first_vars f of_fewest = f.free_vars

abbrev pub first_formula : Formulas → Question → List (List Lit)
first_formula f of_kept = f.given
first_formula f (of_at_most most) = f.free
first_formula f of_fewest = f.free

-- the session of a question: it begins with the first bound; each later bound is one less than a feasible layout has;
-- each derives step is accepted and fresh over what is live just before it; there are as many Add entries as the
-- budget has conflicts, the last entry is one, and none adds the empty clause
pub record IsSession (f : Formulas) (p : InstanceParts) (q : Question) (budget : ℕ) (entries : List Entry) : Type 0 where
  pub later : List Bound
  pub bounds : bounds_of entries ≡ first_bound p q ∷ later
  pub begins : BeginsWithBound entries
  pub falling : AreLater p q (first_bound p q) later
  pub search : AreNext (search_of (first_vars f q) (first_formula f q)) (session_events f.unit (length p.candidates) entries)
  pub conflicts : adds_in (log_of (session_events f.unit (length p.candidates) entries)) ≡ budget
  pub last_adds : EndsInAdd (log_of (session_events f.unit (length p.candidates) entries))
  pub none_empty : AddNoEmptyClause (log_of (session_events f.unit (length p.candidates) entries))

-- the best design, behind the first bound: none just where there was no later bound, and else a lawful one of a border
-- more than the last bound
abbrev pub IsBest : InstanceParts → Bound → List Bound → Option (List CandidateId × Plan) → Type 0
IsBest p first [] None = Unit {0}
IsBest p first [] (Some design) = ⊥
IsBest p first (next ∷ later) None = ⊥
IsBest p first (next ∷ later) (Some design) = (k : ℕ) × (last_of next later ≡ AtMost k) × (length design.0 ≡ k + 1) × IsLawful p design.0 design.1
