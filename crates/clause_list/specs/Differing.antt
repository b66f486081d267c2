-- That the variables of a task differ: what each number is for.
use Rattle.std.specs.Prelude.{◌≡◌, ◌<◌, ◌≤◌, ◌+◌, ℕ, List, length, Contains}
use Rattle.clause_list.specs.Numbers.{CodedTrain, Network, cone, above, border, gap, sweep, touch, run_ended, waits, beginnings, first_of_trains, first_touch, first_ended, first_met, first_waits, behind_train}
use Rattle.clause_list.specs.StopClauses.{stop_at, meets}
use Rattle.clause_list.specs.WholeList.{train_at}

-- the numbers are from this one on, and before that one
abbrev pub IsFrom : ℕ → ℕ → ℕ → Type 0
IsFrom first end number = (first ≤ number) × (number < end)

-- borders come first, then gaps, each for two cells of its own
pub record BordersDiffer (net : Network) : Type 0 where
  pub borders : (c : ℕ) → c < net.candidates → IsFrom 1 (net.candidates + 1) (border c)
  pub gaps : (e f : ℕ) → e < length net.sections → Contains (above net e) f → IsFrom (net.candidates + 1) (first_of_trains net) (gap net e f)
  pub borders_differ : (b c : ℕ) → border b ≡ border c → b ≡ c
  pub gaps_differ : (d e f g : ℕ) → d < length net.sections → e < length net.sections → Contains (above net d) f → Contains (above net e) g → gap net d f ≡ gap net e g → (d ≡ e) × (f ≡ g)

-- a train's variables stand kind by kind, and each is for one thing alone
pub record TrainDiffers (a : CodedTrain) : Type 0 where
  pub sweeps : (t w : ℕ) → a.start ≤ t → t ≤ a.by → Contains (cone a t) w → IsFrom a.first (first_touch a) (sweep a t w)
  pub touches : (t e : ℕ) → a.start ≤ t → t ≤ a.by → e < a.cells → IsFrom (first_touch a) (first_ended a) (touch a t e)
  pub ends : (t : ℕ) → a.start < t → t ≤ a.by → IsFrom (first_ended a) (first_met a) (run_ended a t)
  pub mets : (i s : ℕ) → i < length a.stops → Contains (beginnings a (stop_at a i)) s → IsFrom (first_met a) (first_waits a) (meets a i s)
  pub waiting : (t : ℕ) → a.start ≤ t → t < a.latest → IsFrom (first_waits a) (behind_train a) (waits a t)
  pub sweeps_differ : (t u v w : ℕ) → a.start ≤ t → t ≤ a.by → a.start ≤ u → u ≤ a.by → Contains (cone a t) v → Contains (cone a u) w → sweep a t v ≡ sweep a u w → (t ≡ u) × (v ≡ w)
  pub touches_differ : (t u e f : ℕ) → a.start ≤ t → t ≤ a.by → a.start ≤ u → u ≤ a.by → e < a.cells → f < a.cells → touch a t e ≡ touch a u f → (t ≡ u) × (e ≡ f)
  pub ends_differ : (t u : ℕ) → a.start < t → a.start < u → run_ended a t ≡ run_ended a u → t ≡ u
  pub mets_differ : (i j s u : ℕ) → i < length a.stops → j < length a.stops → Contains (beginnings a (stop_at a i)) s → Contains (beginnings a (stop_at a j)) u → meets a i s ≡ meets a j u → (i ≡ j) × (s ≡ u)
  pub waiting_differs : (t u : ℕ) → a.start ≤ t → a.start ≤ u → waits a t ≡ waits a u → t ≡ u

-- of a whole task: from 1 to vars, and those of each train behind those of the network and of the trains before it
pub record VariablesDiffer (vars : ℕ) (net : Network) (trains : List CodedTrain) : Type 0 where
  pub network : BordersDiffer net
  pub of_train : (i : ℕ) → i < length trains → TrainDiffers (train_at trains i)
  pub behind_network : (i : ℕ) → i < length trains → first_of_trains net ≤ (train_at trains i).first
  pub behind_others : (i j : ℕ) → i < j → j < length trains → behind_train (train_at trains i) ≤ (train_at trains j).first
  pub within : (i : ℕ) → i < length trains → behind_train (train_at trains i) ≤ vars + 1
  pub borders_within : first_of_trains net ≤ vars + 1
