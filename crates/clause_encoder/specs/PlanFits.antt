-- What the numbers of a task keep where its list is written.
use Rattle.std.specs.Prelude.{◌≤◌, ◌<◌, ◌+◌, ℕ, List}
use Rattle.cell_net.specs.declared.ids.CandidateId.{CandidateId}
use Rattle.cell_net.specs.declared.parts.InstanceParts.{InstanceParts}
use Rattle.sweep_table.specs.Tables.{Table}
use Rattle.border_counter.specs.Counter.{sum_to}
use Rattle.clause_list.specs.Numbers.{Network, CodedTrain}
use Rattle.clause_list.specs.Orders.{AreOver, AreWalksOver}
use Rattle.clause_list.specs.Coding.{walks_in}
use Rattle.clause_encoder.specs.Writing.{AreClauses}
use Rattle.clause_encoder.specs.PairFitting.{AllOverCells}
use Rattle.clause_encoder.specs.TableLists.{tables_of}
use Rattle.clause_encoder.specs.Families.{AllFit}
use Rattle.clause_encoder.specs.Plans.{GapLists, given_list, base_list}

-- tables, trains, walks and kept borders fit the network
pub record PlanFits {X : Type 0} (items : X → ℕ) (table : X → InstanceParts → Table) (p : InstanceParts) (tables : List X) (net : Network) (gaps : GapLists) (trains : List CodedTrain) : Type 0 where
  pub fit : AllFit items table p tables trains
  pub cells : AllOverCells net trains
  pub over : AreOver net net.kept
  pub walks : AreWalksOver net (walks_in gaps)

-- and the list of the task is one of clauses over so many variables
pub record FitsGiven {X : Type 0} (items : X → ℕ) (table : X → InstanceParts → Table) (p : InstanceParts) (tables : List X) (net : Network) (gaps : GapLists) (trains : List CodedTrain) (layout : List CandidateId) (vars : ℕ) : Type 0 where
  pub plan : PlanFits items table p tables net gaps trains
  pub clauses : AreClauses vars (given_list gaps net (tables_of table p tables) trains layout)

pub record FitsBase {X : Type 0} (items : X → ℕ) (table : X → InstanceParts → Table) (p : InstanceParts) (tables : List X) (net : Network) (gaps : GapLists) (trains : List CodedTrain) (vars : ℕ) : Type 0 where
  pub plan : PlanFits items table p tables net gaps trains
  pub clauses : AreClauses vars (base_list gaps net (tables_of table p tables) trains)

-- and the counter's variables stand behind those of trains, and are of the list
pub record FitsCount {X : Type 0} (items : X → ℕ) (table : X → InstanceParts → Table) (p : InstanceParts) (tables : List X) (net : Network) (gaps : GapLists) (trains : List CodedTrain) (behind vars : ℕ) : Type 0 where
  pub base : FitsBase items table p tables net gaps trains vars
  pub after : net.candidates < behind
  pub few : behind ≤ 2000001
  pub within : behind + sum_to net.candidates ≤ vars + 1
