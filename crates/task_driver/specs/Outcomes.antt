-- What the outcome of a task shows, and what it means.
use Rattle.std.specs.Prelude.{◌≡◌, ◌<◌, ◌≤◌, ◌-◌, ℕ, nat_lt, cond, List, [], ◌∷◌, ◌++◌, length, Option}
use Rattle.sat_core.specs.declared.literal.Lit.{Lit}
use Rattle.sat_core.specs.Derivation.{DerivedStep, Refutes}
use Rattle.derivation_log.specs.Steps.{derived_steps}
use Rattle.derivation_log.specs.declared.step.Bound.{Bound}
use Rattle.derivation_log.specs.declared.step.Bound.TheVariants.{Given, AtMost}
use Rattle.derivation_log.specs.declared.step.Refutation.{Refutation}
use Rattle.cell_net.specs.declared.ids.CandidateId.{CandidateId}
use Rattle.cell_net.specs.declared.parts.InstanceParts.{InstanceParts}
use Rattle.cell_net.specs.declared.plans.Plan.{Plan}
use Rattle.cell_net.specs.Plans.{IsFeasible, IsLawful}
use Rattle.task_driver.specs.Questions.{Question, of_fewest, IsAskedFor, first_bound, IsPossible, Formulas}
use Rattle.task_driver.specs.Sessions.{Entry, IsSession, IsBest}
use Rattle.vss_report.specs.declared.outcome.Design.{Design}
use Rattle.vss_report.specs.declared.outcome.Smaller.{Smaller}
use Rattle.vss_report.specs.declared.outcome.Smaller.TheVariants as smaller
use Rattle.vss_report.specs.declared.outcome.Outcome.{Outcome}
use Rattle.vss_report.specs.declared.outcome.Outcome.TheVariants as outcome

-- the formula of a bound, and its variables
abbrev pub vars_of : Formulas → Bound → ℕ
vars_of f Given = f.given_vars
vars_of f (AtMost k) = f.free_vars

abbrev pub formula_of : Formulas → InstanceParts → Bound → List (List Lit)
formula_of f p Given = f.given
formula_of f p (AtMost k) = f.free ++ cond (nat_lt k (length p.candidates)) ((f.unit k ∷ []) ∷ []) []

-- the steps refute the formula of the bound
abbrev pub RefuteBound : Formulas → InstanceParts → Bound → List DerivedStep → Type 0
RefuteBound f p bound steps = Refutes (vars_of f bound) (formula_of f p bound) steps

-- the refutation is of that bound, and its log refutes the formula
pub record IsRefutation (f : Formulas) (p : InstanceParts) (bound : Bound) (r : Refutation) : Type 0 where
  pub bound_is : r.bound ≡ bound
  pub refutes : RefuteBound f p bound (derived_steps r.log.steps)

-- what stands beside a design of so many borders: where the fewest are asked for, the refutation of one border less,
-- or nothing just where only the kept borders remain
abbrev pub IsSmaller : Formulas → InstanceParts → Question → ℕ → Smaller → Type 0
IsSmaller f p of_fewest count smaller.NotAsked = ⊥
IsSmaller f p of_fewest count smaller.Nothing = count ≡ length p.kept
IsSmaller f p of_fewest count (smaller.Refuted r) = (length p.kept < count) × IsRefutation f p (AtMost (count - 1)) r
IsSmaller f p q count smaller.NotAsked = Unit {0}
IsSmaller f p q count other = ⊥

-- a design: a layout that was asked for, with a lawful plan
pub record IsDesign (f : Formulas) (p : InstanceParts) (q : Question) (d : Design) : Type 0 where
  pub asked : IsAskedFor p q d.layout
  pub lawful : IsLawful p d.layout d.plan
  pub smaller : IsSmaller f p q (length d.layout) d.smaller

-- a session with this budget, with these conflicts and this best design
pub record IsSpent (f : Formulas) (p : InstanceParts) (q : Question) (budget conflicts : ℕ) (best : Option (List CandidateId × Plan)) : Type 0 where
  pub entries : List Entry
  pub session : IsSession f p q budget entries
  pub conflicts_are : conflicts ≡ budget
  pub best_is : IsBest p (first_bound p q) session.later best

-- what the outcome shows
abbrev pub Shows : Formulas → InstanceParts → Question → ℕ → Outcome → Type 0
Shows f p q budget (outcome.Done design) = IsDesign f p q design
Shows f p q budget (outcome.Impossible r) = IsRefutation f p (first_bound p q) r
Shows f p q budget (outcome.Spent conflicts best) = IsSpent f p q budget conflicts best

-- some layout that the question asks about has a lawful plan
abbrev pub HasAnswer : InstanceParts → Question → Type 0
HasAnswer p q = (borders : List CandidateId) × IsAskedFor p q borders × IsFeasible p borders

-- no feasible layout has fewer borders, where the fewest are asked for
abbrev pub IsFewest : InstanceParts → Question → ℕ → Type 0
IsFewest p of_fewest count = (others : List CandidateId) → IsFeasible p others → count ≤ length others
IsFewest p q count = Unit {0}

-- what the outcome means, by the rules of layouts and plans alone
abbrev pub Answers : InstanceParts → Question → Outcome → Type 0
Answers p q (outcome.Done design) = IsAskedFor p q design.layout × IsLawful p design.layout design.plan × IsFewest p q (length design.layout)
Answers p q (outcome.Impossible r) = ¬ HasAnswer p q
Answers p q (outcome.Spent conflicts best) = Unit {0}

-- refuted bounds are impossible
abbrev pub AreComplete : Formulas → InstanceParts → Type 0
AreComplete f p = (b : Bound) (steps : List DerivedStep) → RefuteBound f p b steps → ¬ IsPossible p b
