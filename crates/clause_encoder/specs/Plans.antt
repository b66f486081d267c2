-- The lists of a task over the numbers of its network and its trains, and what these numbers are.
use Rattle.std.specs.Prelude.{◌≡◌, ◌≤◌, ◌<◌, ◌+◌, ◌++◌, ℕ, List, [], ◌∷◌, slice_index_or}
use Rattle.sat_core.specs.declared.literal.Lit.{Lit}
use Rattle.cell_net.specs.declared.ids.CandidateId.{CandidateId}
use Rattle.cell_net.specs.declared.parts.InstanceParts.{InstanceParts}
use Rattle.sweep_table.specs.Tables.{Table}
use Rattle.gap_clauses.specs.Gaps.{AreGaps}
use Rattle.gap_clauses.specs.declared.refusal.GapRefusal.{GapRefusal}
use Rattle.gap_clauses.specs.declared.refusal.GapRefusal.TheVariants as why
use Rattle.gap_clauses.specs.Crowds.{IsCrowded, NoneIsCrowdedBelow}
use Rattle.border_counter.specs.Counter.{counter_clauses}
use Rattle.clause_list.specs.Numbers.{Network, CodedTrain}
use Rattle.clause_list.specs.BorderClauses.{kept_clauses, given_clauses, gap_clauses, border_lits, most_clauses}
use Rattle.clause_list.specs.WholeList.{of_each_train, apart_of_all, plan_families, counted_families, whole}
use Rattle.clause_list.specs.Coding.{network_of, trains_of, first_of_count, walks_in}
use Rattle.clause_encoder.specs.declared.family.TrainFamily.TheVariants.{Enter, GoOn, StayEnded, Gone, Touch, StopMet, StopInRun, Stand, StopAfterEntry}
use Rattle.clause_encoder.specs.declared.limits.TheConstants.{VARIABLES}
use Rattle.clause_encoder.specs.declared.task.EncodeRefusal.{EncodeRefusal}
use Rattle.clause_encoder.specs.declared.task.EncodeRefusal.TheVariants.{TooManySweeps, TooManyWalks, TooManyVariables, TooManyClauses, TooManyLiterals, Memory}
use Rattle.clause_encoder.specs.Families.{family_of}

-- the candidates on each walk, in lists by first cell and by last cell
abbrev pub GapLists : Type 0
GapLists = List (List (List (List CandidateId)))

-- the families of gaps and trains, by their numbers
unfoldable pub plan_family : GapLists → Network → List Table → List CodedTrain → ℕ → List (List Lit)
plan_family gaps net tables trains k = slice_index_or
    (gap_clauses (walks_in gaps) net
    ∷ of_each_train (family_of Enter) tables trains
    ∷ of_each_train (family_of GoOn) tables trains
    ∷ of_each_train (family_of StayEnded) tables trains
    ∷ of_each_train (family_of Gone) tables trains
    ∷ of_each_train (family_of Touch) tables trains
    ∷ apart_of_all net trains
    ∷ of_each_train (family_of StopMet) tables trains
    ∷ of_each_train (family_of StopInRun) tables trains
    ∷ of_each_train (family_of Stand) tables trains
    ∷ of_each_train (family_of StopAfterEntry) tables trains
    ∷ []) k []

-- all of them
unfoldable pub plan_list : GapLists → Network → List Table → List CodedTrain → List (List Lit)
plan_list gaps net tables trains = whole (plan_families (walks_in gaps) net tables trains)

-- the lists of tasks
unfoldable pub given_list : GapLists → Network → List Table → List CodedTrain → List CandidateId → List (List Lit)
given_list gaps net tables trains layout = given_clauses net layout ++ plan_list gaps net tables trains

unfoldable pub base_list : GapLists → Network → List Table → List CodedTrain → List (List Lit)
base_list gaps net tables trains = kept_clauses net ++ plan_list gaps net tables trains

unfoldable pub counted_list : GapLists → Network → List Table → List CodedTrain → ℕ → List (List Lit)
counted_list gaps net tables trains first = base_list gaps net tables trains ++ counter_clauses (border_lits net.candidates) first net.candidates

unfoldable pub free_list : GapLists → Network → List Table → List CodedTrain → ℕ → ℕ → List (List Lit)
free_list gaps net tables trains first most = counted_list gaps net tables trains first ++ most_clauses first net.candidates most

-- the clauses of a free task without its bound, which are counted
abbrev pub counted_task : InstanceParts → GapLists → List Table → List (List Lit)
counted_task p gaps tables = whole (counted_families (walks_in gaps) (network_of p) tables (trains_of p tables) (first_of_count p tables))

-- no section has two cells with more than 64 walks between them
abbrev pub HasFewWalks : InstanceParts → Type 0
HasFewWalks p = (section : ℕ) → ¬ IsCrowded p section

-- these are the numbers of an instance's network, its gaps, the numbers of its trains, and the number behind them
pub record AreNumbers (p : InstanceParts) (tables : List Table) (net : Network) (gaps : GapLists) (trains : List CodedTrain) (behind : ℕ) : Type 0 where
  pub net_is : net ≡ network_of p
  pub gaps_are : AreGaps p gaps
  pub few_walks : HasFewWalks p
  pub trains_are : trains ≡ trains_of p tables
  pub behind_is : behind ≡ first_of_count p tables
  pub after : net.candidates < behind
  pub few : behind ≤ VARIABLES + 1

-- why there is no formula, where there are no gaps
abbrev pub gap_refusal : GapRefusal → EncodeRefusal
gap_refusal (why.TooManyWalks section) = TooManyWalks section
gap_refusal why.Memory = Memory

-- why there are none: the first section with too many walks between two cells, or else too many variables of trains; want of
-- memory has no cause
abbrev pub IsNumbersRefusal : InstanceParts → List Table → EncodeRefusal → Type 0
IsNumbersRefusal p tables (TooManySweeps train) = ⊥
IsNumbersRefusal p tables (TooManyWalks section) = IsCrowded p section.0 × NoneIsCrowdedBelow p section.0
IsNumbersRefusal p tables TooManyVariables = HasFewWalks p × (VARIABLES + 1 < first_of_count p tables)
IsNumbersRefusal p tables TooManyClauses = ⊥
IsNumbersRefusal p tables TooManyLiterals = ⊥
IsNumbersRefusal p tables Memory = Unit {0}
