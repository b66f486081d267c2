-- How the numbers of a network's gaps are stored.
use Rattle.std.specs.Prelude.{◌≡◌, ◌≤◌, ℕ, List, [], length, map}
use Rattle.clause_list.specs.Ranges.{below}
use Rattle.clause_list.specs.Numbers.{Network, section_of, first_of_trains}
use Rattle.clause_list.specs.Orders.{place_in_section, first_gap}

-- a network of these sections, without a candidate
abbrev pub sections_alone : List ℕ → Network
sections_alone sections = record { sections = sections; candidates = 0; kept = [] }

-- for each cell the cells of its section, its place among them, and the number of the gap to the next of them; and the number
-- behind all gaps
pub record IsNetworkStore (net : Network) (rows : List (List ℕ)) (places first_gaps : List ℕ) (behind : ℕ) : Type 0 where
  pub few : length net.sections ≤ 1000
  pub few_candidates : net.candidates ≤ 512
  pub rows_are : rows ≡ map (section_of net) (below (length net.sections))
  pub places_are : places ≡ map (place_in_section net) (below (length net.sections))
  pub gaps_are : first_gaps ≡ map (first_gap net) (below (length net.sections))
  pub behind_is : behind ≡ first_of_trains net
