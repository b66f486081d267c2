-- What holds of the numbers of a task: their order, and what they are over.
use Rattle.std.specs.Prelude.{◌≡◌, ◌<◌, ◌≤◌, ◌+◌, ◌-◌, ℕ, List, length, AllPairs, All, map, nat_eq, Contains}
use Rattle.std.specs.List.{position_or_len}
use Rattle.sat_core.specs.declared.literal.Lit.{Lit}
use Rattle.cell_net.specs.declared.ids.CandidateId.{CandidateId}
use Rattle.sweep_table.specs.Tables.{Table, next_of, cells_of}
use Rattle.clause_list.specs.Numbers.{CodedTrain, Network, cone, above, section_of, gaps_below, first_of_trains, behind_train}
use Rattle.clause_list.specs.WholeList.{table_at, train_at}

-- the variables of the literals, in their order
abbrev pub numbers : List Lit → List ℕ
numbers lits = map (λ lit. lit.var.0) lits

-- what holds of the numbers of a train: they are from 1 to vars, there is a cone for each step, and cones rise
pub record IsNumbered (vars : ℕ) (a : CodedTrain) : Type 0 where
  pub from_one : 1 ≤ a.first
  pub may_enter : a.start ≤ a.latest
  pub enters_in_time : a.latest ≤ a.by
  pub for_each_step : length a.cones ≡ a.by + 1 - a.start
  pub cones_rise : (t : ℕ) → a.start ≤ t → t ≤ a.by → AllPairs (λ x y. x < y) (cone a t)
  pub within : behind_train a ≤ vars + 1

-- what holds of a table and the numbers of its train: what may come next rises, and what the items of the cones touch are
-- cells that have numbers
pub record FitsTable (table : Table) (a : CodedTrain) : Type 0 where
  pub next_rise : (w : ℕ) → AllPairs (λ v u. v.0 < u.0) (next_of table w)
  pub cells : (t w : ℕ) → Contains (cone a t) w → All (λ directed. directed.cell.0 < a.cells) (cells_of table w)

-- the place of a cell among those of its section
abbrev pub place_in_section : Network → ℕ → ℕ
place_in_section net e = position_or_len (nat_eq e) (section_of net e)

-- the number of the gap between the cell and the first of its section above it
abbrev pub first_gap : Network → ℕ → ℕ
first_gap net e = net.candidates + 1 + gaps_below net e

-- the candidates are candidates of the network
abbrev pub AreOver : Network → List CandidateId → Type 0
AreOver net candidates = All (λ c. c.0 < net.candidates) candidates

-- the candidates on the walks of a section are those of the network, and rise on each walk
pub record AreWalksOver (net : Network) (walks : ℕ → ℕ → List (List CandidateId)) : Type 0 where
  pub over : (e f : ℕ) → e < length net.sections → Contains (above net e) f → All (AreOver net) (walks e f)
  pub rise : (e f : ℕ) → e < length net.sections → Contains (above net e) f → All (AllPairs (λ b c. b.0 < c.0)) (walks e f)

-- what holds of the numbers of all trains: those of each are behind those of the network and of the trains before it
pub record AreAllNumbered (vars : ℕ) (net : Network) (tables : List Table) (trains : List CodedTrain) : Type 0 where
  pub borders : first_of_trains net ≤ vars + 1
  pub kept : AreOver net net.kept
  pub each : (i : ℕ) → i < length trains → IsNumbered vars (train_at trains i)
  pub fit : (i : ℕ) → i < length trains → FitsTable (table_at tables i) (train_at trains i)
  pub cells : (i : ℕ) → i < length trains → (train_at trains i).cells ≡ length net.sections
  pub behind_borders : (i : ℕ) → i < length trains → first_of_trains net ≤ (train_at trains i).first
  pub behind_others : (i j : ℕ) → i < j → j < length trains → behind_train (train_at trains i) ≤ (train_at trains j).first
