-- The lines that tell what a log shows.
use Rattle.std.specs.Prelude.{ℕ, List, [], ◌∷◌, codes, decimal}
use Rattle.derivation_log.specs.declared.step.Bound.{Bound}
use Rattle.derivation_log.specs.declared.step.Bound.TheVariants.{Given, AtMost}
use Rattle.sat_core.specs.declared.step_fault.StepFault.{StepFault}
use Rattle.sat_core.specs.declared.step_fault.StepFault.TheVariants as fault
use Rattle.vss_io.specs.Line.{flat, line}

-- the word for why a step isn't accepted; want of memory is no such reason
abbrev pub step_fault_word : StepFault → List ℕ
step_fault_word fault.IdOrder = codes "IdOrder"
step_fault_word fault.UnknownVariable = codes "UnknownVariable"
step_fault_word fault.Twofold = codes "Twofold"
step_fault_word fault.UnknownClause = codes "UnknownClause"
step_fault_word fault.HintNotUnit = codes "HintNotUnit"
step_fault_word fault.NoConflict = codes "NoConflict"
step_fault_word fault.HintsAfterConflict = codes "HintsAfterConflict"
step_fault_word fault.Memory = []

-- the bound of the formula that the log refutes
unfoldable pub proved_text : Bound → List ℕ
proved_text Given = line (flat (codes "proved given" ∷ []))
proved_text (AtMost most) = line (flat (codes "proved most " ∷ decimal most ∷ []))

-- a line of the report, and why the log goes wrong there
unfoldable pub not_proved_text : ℕ → List ℕ → List ℕ
not_proved_text at why = line (flat (codes "not proved " ∷ decimal at ∷ codes " " ∷ why ∷ []))
