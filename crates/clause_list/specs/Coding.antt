-- The numbers of an instance's network and trains, and the clause list of each task of it.
use Rattle.std.specs.Prelude.{ℕ, ◌+◌, ◌-◌, List, [], ◌∷◌, map, length}
use Rattle.sat_core.specs.declared.literal.Lit.{Lit}
use Rattle.cell_net.specs.declared.ids.CandidateId.{CandidateId}
use Rattle.cell_net.specs.declared.parts.InstanceParts.{InstanceParts}
use Rattle.cell_net.specs.declared.trains.TrainSpec.{TrainSpec}
use Rattle.sweep_table.specs.Tables.{Table}
use Rattle.gap_clauses.specs.Gaps.{walks_of}
use Rattle.border_counter.specs.Counter.{sum_to}
use Rattle.clause_list.specs.Numbers.{Network, CodedTrain, first_of_trains, behind_train}
use Rattle.clause_list.specs.Cones.{cones_of}
use Rattle.clause_list.specs.WholeList.{base_families, free_families, given_families, whole}

-- the network of an instance
abbrev pub network_of : InstanceParts → Network
network_of p = record { sections = map (λ c. c.section.0) p.cells; candidates = length p.candidates; kept = p.kept }

-- a train of the instance with its table, whose variables begin at a number
abbrev pub coded : InstanceParts → ℕ → Table → TrainSpec → CodedTrain
coded p first table train = record {
  start = train.start;
  latest = train.latest;
  by = train.by;
  stops = train.stops;
  cones = cones_of table (train.latest - train.start) (train.by - train.start);
  cells = length p.cells;
  first = first;
}

-- trains with their tables, the variables of each behind those of the one before
abbrev pub coded_from : InstanceParts → ℕ → List Table → List TrainSpec → List CodedTrain
coded_from p first [] trains = []
coded_from p first (table ∷ tables) [] = []
coded_from p first (table ∷ tables) (train ∷ trains) = coded p first table train ∷ coded_from p (behind_train (coded p first table train)) tables trains

abbrev pub trains_of : InstanceParts → List Table → List CodedTrain
trains_of p tables = coded_from p (first_of_trains (network_of p)) tables p.trains

-- the number behind the variables of the trains
abbrev pub behind_all : ℕ → List CodedTrain → ℕ
behind_all first [] = first
behind_all first (a ∷ trains) = behind_all (behind_train a) trains

-- the number of the counter's first variable
abbrev pub first_of_count : InstanceParts → List Table → ℕ
first_of_count p tables = behind_all (first_of_trains (network_of p)) (trains_of p tables)

-- how many variables the task of a layout has, and a free one
abbrev pub given_variables : InstanceParts → List Table → ℕ
given_variables p tables = first_of_count p tables - 1

abbrev pub free_variables : InstanceParts → List Table → ℕ
free_variables p tables = first_of_count p tables - 1 + sum_to (length p.candidates)

-- the candidates on each walk between two cells, by their numbers
abbrev pub walks_in : List (List (List (List CandidateId))) → ℕ → ℕ → List (List CandidateId)
walks_in gaps e f = walks_of gaps (record { 0 = e }) (record { 0 = f })

-- the clauses of the task of a layout
abbrev pub given_task : InstanceParts → List (List (List (List CandidateId))) → List Table → List CandidateId → List (List Lit)
given_task p gaps tables layout = whole (given_families (walks_in gaps) (network_of p) tables (trains_of p tables) layout)

-- the clauses of a free task without its counter and its bound
abbrev pub base_task : InstanceParts → List (List (List (List CandidateId))) → List Table → List (List Lit)
base_task p gaps tables = whole (base_families (walks_in gaps) (network_of p) tables (trains_of p tables))

-- the clauses of a free task of at most so many borders
abbrev pub free_task : InstanceParts → List (List (List (List CandidateId))) → List Table → ℕ → List (List Lit)
free_task p gaps tables most = whole (free_families (walks_in gaps) (network_of p) tables (trains_of p tables) (first_of_count p tables) most)
