-- What the program tells of a hint, as the definitions of hints see it.
use Rattle.sat_core.specs.declared.step_fault.StepFault.TheVariants.{HintNotUnit}
use Rattle.sat_core.specs.Hints.{HintOutcome, conflict, unit, fault}
use Rattle.log_checker.specs.declared.hints.Reading.{Reading}
use Rattle.log_checker.specs.declared.hints.Reading.TheVariants.{Conflict, Forced, NotUnit}

abbrev pub outcome_told : Reading → HintOutcome
outcome_told Conflict = conflict
outcome_told (Forced lit) = unit lit
outcome_told NotUnit = fault HintNotUnit
