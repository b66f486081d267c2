-- What the encoder makes of a bound, and the questions that ask about one bound alone.
use Rattle.std.specs.Prelude.{◌≡◌, ℕ, length, min}
use Rattle.sat_core.specs.Storage.{FormulaParts}
use Rattle.cell_net.specs.declared.parts.InstanceParts.{InstanceParts}
use Rattle.derivation_log.specs.declared.step.Bound.{Bound}
use Rattle.derivation_log.specs.declared.step.Bound.TheVariants.{Given, AtMost}
use Rattle.clause_encoder.specs.Maps.{MapParts}
use Rattle.clause_encoder.specs.SweepTables.{IsSweepEncoding}
use Rattle.task_driver.specs.Questions.{Question, of_kept, of_at_most, of_fewest}
use Rattle.task_driver.specs.TaskEnds.{bound_task}

-- how many borders the encoder is told beside the task of the bound
abbrev pub bound_number : Bound → ℕ
bound_number Given = 0
bound_number (AtMost most) = most

-- the formula and the map are those of the bound
abbrev pub IsBoundEncoding : InstanceParts → Bound → FormulaParts → MapParts → Type 0
IsBoundEncoding p b f m = IsSweepEncoding p (bound_task p b) (bound_number b) f m

-- the question asks about this bound alone
abbrev pub AsksOnce : InstanceParts → Question → Bound → Type 0
AsksOnce p of_kept b = b ≡ Given
AsksOnce p (of_at_most most) b = b ≡ AtMost (min most (length p.candidates))
AsksOnce p of_fewest b = ⊥
