-- The scene of two documents, as contracts see it.
use Rattle.cell_net.specs.declared.labels.Labels.{Labels}
use Rattle.cell_net.specs.declared.parts.InstanceParts.{InstanceParts}
use Rattle.cell_net.specs.declared.scene.Scene.{Scene}

-- an instance, and the names of its tracks, cells, candidates and trains
pub record Setting : Type 0 where
  pub parts : InstanceParts
  pub labels : Labels

abbrev pub setting_of : Scene → Setting
setting_of scene = record { parts = scene.inst; labels = scene.labels }
