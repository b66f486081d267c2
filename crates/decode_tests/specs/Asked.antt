-- Which tasks a test asks for, and what it finds.
use Rattle.std.specs.Prelude.{◌≡◌, Bool, List, length}
use Rattle.sat_core.specs.Clauses.{SatisfiesAll}
use Rattle.sat_core.specs.Storage.{FormulaParts}
use Rattle.cell_net.specs.Borders.{IsLayout}
use Rattle.cell_net.specs.declared.parts.InstanceParts.{InstanceParts}
use Rattle.clause_encoder.specs.declared.task.Task.{Task}
use Rattle.clause_encoder.specs.declared.task.Task.TheVariants.{Given, Free}

-- a free one, or that of a layout of the instance
abbrev pub MayBeAsked : InstanceParts → Task → Type 0
MayBeAsked p (Given layout) = IsLayout p layout
MayBeAsked p Free = Unit {0}

-- a value for each variable, which satisfy the formula
pub record IsValuationOf (f : FormulaParts) (values : List Bool) : Type 0 where
  pub for_each : length values ≡ f.vars
  pub satisfies : SatisfiesAll values f.clauses
