-- Sections: their cells are connected.
use Rattle.std.specs.Prelude.{ℕ, []}
use Rattle.cell_net.specs.Borders.{IsInSection, Linked}
use Rattle.cell_net.specs.declared.ids.CellId.{CellId}
use Rattle.cell_net.specs.declared.parts.InstanceParts.{InstanceParts}

-- any two cells of the section are linked where no border stands; a section may close rings, or have no
-- cell at all
abbrev pub IsConnected : InstanceParts → ℕ → Type 0
IsConnected p section = (e f : CellId) → IsInSection p section e → IsInSection p section f → Linked p [] e f
