-- What the numbers of trains have to do with those of the network.
use Rattle.std.specs.Prelude.{◌≡◌, ◌<◌, ◌≤◌, ℕ, List, length, slice_index}
use Rattle.clause_list.specs.Numbers.{CodedTrain, Network}
use Rattle.clause_list.specs.WholeList.{train_at}

-- the numbers of both trains are over the cells of the network
pub record AreOverCells (net : Network) (a b : CodedTrain) : Type 0 where
  pub one : a.cells ≡ length net.sections
  pub other : b.cells ≡ length net.sections

-- the step is one of both
pub record AreBothThere (a b : CodedTrain) (t : ℕ) : Type 0 where
  pub after : a.start ≤ t
  pub before : t ≤ a.by
  pub after_too : b.start ≤ t
  pub before_too : t ≤ b.by

-- the cell is one of the other's section
pub record IsOfSection (net : Network) (e f : ℕ) : Type 0 where
  pub cell : f < length net.sections
  pub same : slice_index net.sections e ≡ slice_index net.sections f

-- the cell is one of the other's section above it
pub record IsAbove (net : Network) (e f : ℕ) : Type 0 where
  pub higher : e < f
  pub cell : f < length net.sections
  pub same : slice_index net.sections e ≡ slice_index net.sections f

-- the numbers of each train are over the cells of the network, and trains are few
pub record AllOverCells (net : Network) (trains : List CodedTrain) : Type 0 where
  pub few : length trains ≤ 32
  pub cells : (i : ℕ) → i < length trains → (train_at trains i).cells ≡ length net.sections
