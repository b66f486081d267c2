-- The classes of cells that are linked under a layout.
use Rattle.std.specs.Prelude.{◌≡◌, ◌<◌, ◌≤◌, ◌↔◌, ℕ, List, length, All, slice_index}
use Rattle.cell_net.specs.Space.{IsCell}
use Rattle.cell_net.specs.Borders.{Linked}
use Rattle.cell_net.specs.declared.ids.CellId.{CellId}
use Rattle.cell_net.specs.declared.ids.CandidateId.{CandidateId}
use Rattle.cell_net.specs.declared.parts.InstanceParts.{InstanceParts}

-- the class of a cell, in a list of them by cell
abbrev pub class_of : List ℕ → CellId → ℕ
class_of classes cell = slice_index classes cell.0

-- the number is that of the lowest cell that is linked with this one
pub record IsLowestLinked (p : InstanceParts) (borders : List CandidateId) (number : ℕ) (cell : CellId) : Type 0 where
  pub linked : Linked p borders (record { 0 = number }) cell
  pub lowest : (other : CellId) → Linked p borders other cell → number ≤ other.0

-- one class for each cell, named by its lowest cell, and two cells have the same exactly where they are
-- linked
pub record AreClasses (p : InstanceParts) (borders : List CandidateId) (classes : List ℕ) : Type 0 where
  pub for_each_cell : length classes ≡ length p.cells
  pub in_range : All (λ k. k < length p.cells) classes
  pub by_lowest : (e : CellId) → IsCell p e → IsLowestLinked p borders (class_of classes e) e
  pub same_where_linked : (e f : CellId) → IsCell p e → IsCell p f → (class_of classes e ≡ class_of classes f) ↔ Linked p borders e f
