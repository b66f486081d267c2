-- The questions of the tasks, and the formulas that ask them.
use Rattle.std.specs.Prelude.{◌≡◌, ◌≤◌, ℕ, List, length, min}
use Rattle.sat_core.specs.declared.literal.Lit.{Lit}
use Rattle.derivation_log.specs.declared.step.Bound.{Bound}
use Rattle.derivation_log.specs.declared.step.Bound.TheVariants.{Given, AtMost}
use Rattle.cell_net.specs.declared.ids.CandidateId.{CandidateId}
use Rattle.cell_net.specs.declared.parts.InstanceParts.{InstanceParts}
use Rattle.cell_net.specs.Plans.{IsFeasible, IsPossibleWithin}

-- is there a plan for the kept borders; is there a layout of at most so many borders; which one has the fewest
pub data Question : Type 0 where
  of_kept : Question
  of_at_most : ℕ → Question
  of_fewest : Question

-- the layout is one that the question asks about
abbrev pub IsAskedFor : InstanceParts → Question → List CandidateId → Type 0
IsAskedFor p of_kept borders = borders ≡ p.kept
IsAskedFor p (of_at_most most) borders = length borders ≤ most
IsAskedFor p of_fewest borders = Unit {0}

-- the bound that is tried first
abbrev pub first_bound : InstanceParts → Question → Bound
first_bound p of_kept = Given
first_bound p (of_at_most most) = AtMost (min most (length p.candidates))
first_bound p of_fewest = AtMost (length p.candidates)

-- a layout within the bound has a lawful plan
abbrev pub IsPossible : InstanceParts → Bound → Type 0
IsPossible p Given = IsFeasible p p.kept
IsPossible p (AtMost most) = IsPossibleWithin p most

-- the formulas of an instance: the variables and clauses of the kept borders alone; those of a free layout, without
-- a unit; and the unit of a bound below the number of candidates
pub record Formulas : Type 0 where
  pub given_vars : ℕ
  pub given : List (List Lit)
  pub free_vars : ℕ
  pub free : List (List Lit)
  pub unit : ℕ → Lit
