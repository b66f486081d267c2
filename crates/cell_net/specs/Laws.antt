-- Laws of the definitions, which the functions of `laws.rt` hand to their callers.
use Rattle.std.specs.Prelude.{◌≡◌, ◌≢◌, List}
use Rattle.cell_net.specs.Borders.{IsBorderSet, Linked}
use Rattle.cell_net.specs.Rules.{IsInstance}
use Rattle.cell_net.specs.Refusals.{IsRefusal, IsLayoutRefusal}
use Rattle.cell_net.specs.declared.ids.CandidateId.{CandidateId}
use Rattle.cell_net.specs.declared.ids.CellId.{CellId}
use Rattle.cell_net.specs.declared.layout.LayoutRefusal.{LayoutRefusal}
use Rattle.cell_net.specs.declared.build.BuildRefusal.{BuildRefusal}
use Rattle.cell_net.specs.declared.build.BuildRefusal.TheVariants.{Memory}
use Rattle.cell_net.specs.declared.parts.InstanceParts.{InstanceParts}

-- under the borders, each cell is linked with itself
abbrev pub LinksItself : InstanceParts → List CandidateId → Type 0
LinksItself p borders = (c : CellId) → Linked p borders c c

-- what one cell is linked with is linked with it
abbrev pub LinksBack : InstanceParts → List CandidateId → Type 0
LinksBack p borders = (c d : CellId) → Linked p borders c d → Linked p borders d c

-- a cell is linked with what those that it is linked with are linked with
abbrev pub LinksOn : InstanceParts → List CandidateId → Type 0
LinksOn p borders = (c d e : CellId) → Linked p borders c d → Linked p borders d e → Linked p borders c e

-- parts with a refusal, other than want of memory, are no instance
abbrev pub RefusesNoInstance : InstanceParts → Type 0
RefusesNoInstance p = (r : BuildRefusal) → r ≢ Memory → IsRefusal p r → ¬ IsInstance p

-- parts have one refusal at most, other than want of memory: one rule and one place
abbrev pub HasOneRefusal : InstanceParts → Type 0
HasOneRefusal p = (r s : BuildRefusal) → r ≢ Memory → s ≢ Memory → IsRefusal p r → IsRefusal p s → r ≡ s

-- borders with a refusal are no border set
abbrev pub RefusesNoLayout : InstanceParts → List CandidateId → Type 0
RefusesNoLayout p borders = (r : LayoutRefusal) → IsLayoutRefusal p borders r → ¬ IsBorderSet p borders

-- borders have one refusal at most
abbrev pub HasOneLayoutRefusal : InstanceParts → List CandidateId → Type 0
HasOneLayoutRefusal p borders = (r s : LayoutRefusal) → IsLayoutRefusal p borders r → IsLayoutRefusal p borders s → r ≡ s
