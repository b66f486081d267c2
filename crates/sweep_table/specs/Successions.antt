-- What follows each directed cell, gathered from the joins, which only this crate's code and proofs see.
use Rattle.std.specs.Prelude.{◌≡◌, ◌<◌, ◌↔◌, ℕ, List, [], length, AllPairs, Any, Contains, slice_index_or}
use Rattle.cell_net.specs.Space.{Pairs, head_of, opposite, tail_of}
use Rattle.cell_net.specs.declared.cells.CellEnd.{CellEnd}
use Rattle.cell_net.specs.declared.cells.DirCell.{DirCell}
use Rattle.cell_net.specs.declared.cells.JoinSpec.{JoinSpec}
use Rattle.sweep_table.specs.Order.{directed_number}
use Rattle.sweep_table.specs.declared.successors.Succession.{Succession}

-- the directed cell that heads to the end, and the one that comes from it
abbrev pub heading_to : CellEnd → DirCell
heading_to e = record { cell = e.cell; end = e.end }

abbrev pub coming_from : CellEnd → DirCell
coming_from e = record { cell = e.cell; end = opposite e.end }

-- the one directed cell, and the other behind it
abbrev pub succession : DirCell → DirCell → Succession
succession before after = record { before = before; after = after }

-- these are the successions over the joins, both ways
abbrev pub AreSuccessionsOf : List JoinSpec → List Succession → Type 0
AreSuccessionsOf joins successions =
    (d e : DirCell) → Contains successions (succession d e) ↔ Any (Pairs (head_of d) (tail_of e)) joins

-- these are what follows the directed cell in the successions, each once, by number
pub record AreSuccessors (successions : List Succession) (before : DirCell) (found : List DirCell) : Type 0 where
  pub which : (e : DirCell) → Contains found e ↔ Contains successions (succession before e)
  pub rising : AllPairs (λ e f. directed_number e < directed_number f) found

-- the lists hold them for each directed cell of numbers below this one
pub record AreSuccessorLists (successions : List Succession) (count : ℕ) (lists : List (List DirCell)) : Type 0 where
  pub for_each : length lists ≡ count
  pub each : (d : DirCell) → directed_number d < count → AreSuccessors successions d (slice_index_or lists (directed_number d) [])
