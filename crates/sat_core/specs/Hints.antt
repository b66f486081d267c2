-- What the hints of an added clause tell, taken in turn while the literals of the clause are false.
use Rattle.std.specs.Prelude.{Bool, cond, not, ◌&&◌, nat_eq, List, [], ◌∷◌, ◌++◌, filter, find, Option, Some, None, option_map}
use Rattle.std.specs.List.{list_any}
use Rattle.sat_core.specs.declared.literal.Lit.{Lit}
use Rattle.sat_core.specs.declared.literal.ClauseId.{ClauseId}
use Rattle.sat_core.specs.declared.step_fault.StepFault.{StepFault}
use Rattle.sat_core.specs.declared.step_fault.StepFault.TheVariants.{UnknownClause, HintNotUnit, NoConflict, HintsAfterConflict}
use Rattle.sat_core.specs.Clauses.{negated}

-- a clause with its number
pub record NumberedClause : Type 0 where
  pub id : ClauseId
  pub lits : List Lit

-- the literals of the live clause with that number, if there is one
abbrev pub clause_of : List NumberedClause → ClauseId → Option (List Lit)
clause_of live id = option_map (λ clause. clause.lits) (find (λ clause. nat_eq clause.id.0 id.0) live)

-- whether both are the same literal
abbrev pub is_same : Lit → Lit → Bool
is_same one other = nat_eq one.var.0 other.var.0 && cond one.positive other.positive (not other.positive)

-- A literal is true where it is known, false where its negation is known, and unassigned where neither is.
abbrev pub is_known : List Lit → Lit → Bool
is_known known lit = list_any (is_same lit) known

-- the literals that are not false
abbrev pub not_false : List Lit → List Lit → List Lit
not_false known lits = filter (λ lit. not (is_known known (negated lit))) lits

-- what a hint tells: all its literals are false; or this one is unassigned and the others are false; or it can't be used
pub data HintOutcome : Type 0 where
  conflict : HintOutcome
  unit : Lit → HintOutcome
  fault : StepFault → HintOutcome

-- by the literals that are not false
abbrev pub outcome_by : List Lit → List Lit → HintOutcome
outcome_by known [] = conflict
outcome_by known (lit ∷ []) = cond (is_known known lit) (fault HintNotUnit) (unit lit)
outcome_by known (lit ∷ other ∷ others) = fault HintNotUnit

-- by the literals of the hint's clause, if it is live
abbrev pub outcome_of : List Lit → Option (List Lit) → HintOutcome
outcome_of known None = fault UnknownClause
outcome_of known (Some lits) = outcome_by known (not_false known lits)

-- the first fault, by the hint's outcome, the hints behind it, and the fault of these where its unit is known
abbrev pub fault_after : HintOutcome → List ClauseId → (Lit → Option StepFault) → Option StepFault
fault_after conflict [] others = None
fault_after conflict (hint ∷ hints) others = Some HintsAfterConflict
fault_after (unit lit) hints others = others lit
fault_after (fault why) hints others = Some why

-- the first fault of the hints, where each unit is known from its hint on
abbrev pub hints_fault : List NumberedClause → List Lit → List ClauseId → Option StepFault
hints_fault live known [] = Some NoConflict
hints_fault live known (hint ∷ hints) = fault_after (outcome_of known (clause_of live hint)) hints (λ lit. hints_fault live (known ++ lit ∷ []) hints)
