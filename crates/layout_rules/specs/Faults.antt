-- What is wrong with a list of directed cells that is no sweep of a train: the first in this order.
use Rattle.std.specs.Prelude.{◌≤◌, List, [], ◌∷◌, length}
use Rattle.vss_lists.specs.Orders.{IsFirstBroken, OrderRule, rule}
use Rattle.cell_net.specs.Space.{IsTrackPath}
use Rattle.cell_net.specs.Runs.{IsSlowEnough}
use Rattle.cell_net.specs.declared.cells.DirCell.{DirCell}
use Rattle.cell_net.specs.declared.trains.TrainSpec.{TrainSpec}
use Rattle.cell_net.specs.declared.parts.InstanceParts.{InstanceParts}
use Rattle.layout_rules.specs.declared.sweeps.SweepFault.{SweepFault}
use Rattle.layout_rules.specs.declared.sweeps.SweepFault.TheVariants.{Path, Length, Speed}

-- the rules of a sweep, in their order, and how an answer tells each
abbrev pub rules_of_cells : {Answer : Type 0} → Answer → Answer → Answer → InstanceParts → TrainSpec → List DirCell → List (OrderRule Answer)
rules_of_cells no_path too_short too_fast p t cells =
    rule no_path (IsTrackPath p cells) ∷
    rule too_short (t.length ≤ length cells) ∷
    rule too_fast (IsSlowEnough p t cells) ∷ []

-- no track path; or one that is shorter than the train; or a long enough one that is too fast
abbrev pub IsSweepFaultOf : InstanceParts → TrainSpec → List DirCell → SweepFault → Type 0
IsSweepFaultOf p t cells = IsFirstBroken (rules_of_cells Path Length Speed p t cells)
