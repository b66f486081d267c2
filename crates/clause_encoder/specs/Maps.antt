-- What contracts see of the map of a list's variables.
use Rattle.std.specs.Prelude.{◌≡◌, ◌≤◌, ℕ, List, Bool, true, ◌&&◌, nat_eq, nat_le, length}
use Rattle.std.specs.List.{list_any}
use Rattle.cell_net.specs.declared.parts.InstanceParts.{InstanceParts}
use Rattle.sweep_table.specs.Parts.{SweepParts}
use Rattle.sweep_table.specs.Tables.{Table}
use Rattle.clause_list.specs.Numbers.{CodedTrain, cone}
use Rattle.clause_list.specs.Coding.{trains_of}

-- how many candidates there are; the numbers of each train; the tables that the map keeps; whether there is a counter, the number
-- of its first variable, and how many clauses stand before those of its order
pub record MapParts : Type 0 where
  pub candidates : ℕ
  pub trains : List CodedTrain
  pub tables : List SweepParts
  pub counts : Bool
  pub first_of_count : ℕ
  pub before_order : ℕ

-- what every map keeps: its numbers are numbers of 32 bits
pub record IsKeptMap (m : MapParts) : Type 0 where
  pub few_candidates : m.candidates ≤ 512
  pub few_variables : m.counts ≡ true → m.first_of_count ≤ 2000001
  pub few_clauses : m.counts ≡ true → m.before_order ≤ 8000000

-- the train can have the item at the step
abbrev pub has_item : CodedTrain → ℕ → ℕ → Bool
has_item a t w = nat_le a.start t && nat_le t a.by && list_any (nat_eq w) (cone a t)

-- the map of an instance's variables, over these tables
pub record IsMapOf (p : InstanceParts) (tables : List Table) (m : MapParts) : Type 0 where
  pub candidates : m.candidates ≡ length p.candidates
  pub trains : m.trains ≡ trains_of p tables
