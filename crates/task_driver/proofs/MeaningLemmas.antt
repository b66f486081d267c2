-- What an outcome shows gives what it means, where refuted bounds are impossible.
use Rattle.std.proofs.Common.{ℕ, ◌-◌, ◌<◌, ◌≤◌, inl, inr, List, length, min, subst, arith}
use Rattle.derivation_log.specs.declared.step.Bound.TheVariants.{AtMost}
use Rattle.derivation_log.specs.Steps.{derived_steps}
use Rattle.cell_net.specs.declared.ids.CandidateId.{CandidateId}
use Rattle.cell_net.specs.declared.parts.InstanceParts.{InstanceParts}
use Rattle.cell_net.specs.Plans.{IsFeasible, IsPossibleWithin}
use Rattle.cell_net.specs.Borders.{IsLayout}
use Rattle.std.proofs.lemmas.Bool.{cases_lt}
use Rattle.task_driver.specs.Questions.{Question, of_kept, of_at_most, of_fewest, first_bound, IsPossible, Formulas}
use Rattle.task_driver.specs.Outcomes.{IsSmaller, Shows, HasAnswer, IsFewest, Answers, AreComplete}
use Rattle.vss_report.specs.declared.outcome.Smaller.{Smaller}
use Rattle.vss_report.specs.declared.outcome.Smaller.TheVariants as smaller
use Rattle.vss_report.specs.declared.outcome.Outcome.{Outcome}
use Rattle.vss_report.specs.declared.outcome.Outcome.TheVariants as outcome

-- a layout has at least the kept borders, and at most all candidates
abbrev pub CountsOfLayouts : InstanceParts → Type 0
CountsOfLayouts p = (borders : List CandidateId) → IsLayout p borders → (length p.kept ≤ length borders) × (length borders ≤ length p.candidates)

feasible_counts : (p : InstanceParts) (borders : List CandidateId) → CountsOfLayouts p → IsFeasible p borders → (length p.kept ≤ length borders) × (length borders ≤ length p.candidates)
unfolding IsFeasible
feasible_counts p borders counts (plan, lawful) = counts borders lawful.layout

possible : (p : InstanceParts) (most : ℕ) (borders : List CandidateId) → IsFeasible p borders → length borders ≤ most → IsPossibleWithin p most
unfolding IsPossibleWithin
possible p most borders feasible few = (borders, feasible, few)

fewest : (p : InstanceParts) (count : ℕ) → ¬ IsPossibleWithin p (count - 1) → 0 < count → (others : List CandidateId) → IsFeasible p others → count ≤ length others
fewest p count none some others feasible = elim (cases_lt (length others) count) [
  | inl fewer ↦ absurd (none (possible p (count - 1) others feasible (omega arith)))
  | inr enough ↦ enough
]

is_fewest : (f : Formulas) (p : InstanceParts) (q : Question) (count : ℕ) (s : Smaller) → AreComplete f p → CountsOfLayouts p → IsSmaller f p q count s → IsFewest p q count
is_fewest f p of_kept count s complete counts is = tt
is_fewest f p (of_at_most most) count s complete counts is = tt
is_fewest f p of_fewest count smaller.NotAsked complete counts is = absurd is
is_fewest f p of_fewest count smaller.Nothing complete counts is = λ others feasible.
    let kept : length p.kept ≤ length others = (feasible_counts p others counts feasible).0 in omega arith
is_fewest f p of_fewest count (smaller.Refuted r) complete counts is =
    fewest p count (complete (AtMost (count - 1)) (derived_steps r.log.steps) is.1.refutes) (omega arith)

no_answer : (f : Formulas) (p : InstanceParts) (q : Question) → CountsOfLayouts p → ¬ IsPossible p (first_bound p q) → ¬ HasAnswer p q
no_answer f p of_kept counts none (borders, asked, feasible) = none (subst (λ (b : List CandidateId). IsFeasible p b) asked feasible)
no_answer f p (of_at_most most) counts none (borders, asked, feasible) =
    let within : length borders ≤ length p.candidates = (feasible_counts p borders counts feasible).1 in
    none (possible p (min most (length p.candidates)) borders feasible (omega arith))
no_answer f p of_fewest counts none (borders, asked, feasible) =
    none (possible p (length p.candidates) borders feasible (feasible_counts p borders counts feasible).1)

pub answers : (f : Formulas) (p : InstanceParts) (q : Question) (budget : ℕ) (o : Outcome) → AreComplete f p → CountsOfLayouts p → Shows f p q budget o → Answers p q o
answers f p q budget (outcome.Done design) complete counts shows = (shows.asked, shows.lawful, is_fewest f p q (length design.layout) design.smaller complete counts shows.smaller)
answers f p q budget (outcome.Impossible r) complete counts shows = no_answer f p q counts (complete (first_bound p q) (derived_steps r.log.steps) shows.refutes)
answers f p q budget (outcome.Spent conflicts best) complete counts shows = tt
