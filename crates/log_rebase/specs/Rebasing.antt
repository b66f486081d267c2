-- A log with units, made into a log of the formula with the last unit alone.
use Rattle.std.specs.Prelude.{◌≡◌, ℕ, ◌+◌, ◌<◌, nat_eq, nat_lt, cond, List, [], ◌∷◌, ◌++◌, length, map, Option, Some, None, ⊤}
use Rattle.sat_core.specs.declared.literal.Lit.{Lit}
use Rattle.sat_core.specs.declared.literal.ClauseId.{ClauseId}
use Rattle.sat_core.specs.Clauses.{negated}
use Rattle.sat_core.specs.Hints.{NumberedClause, hints_fault}
use Rattle.sat_core.specs.Derivation.{DerivedStep, adds, drops, numbered_from, EndsInEmptyClause, Refutes}
use Rattle.sat_core.specs.Search.{Event, gives, derives, search_of, AreNext, log_of}
use Rattle.log_rebase.specs.declared.mark.UnitMark.{UnitMark}

-- the marks rise, from above that number on
abbrev pub RiseFrom : ℕ → List UnitMark → Type 0
RiseFrom last [] = ⊤
RiseFrom last (mark ∷ marks) = (last < mark.id.0) × RiseFrom mark.id.0 marks

-- how many of the marks are above the number
abbrev pub marks_above : ℕ → List UnitMark → ℕ
marks_above number [] = 0
marks_above number (mark ∷ marks) = cond (nat_lt number mark.id.0) 1 0 + marks_above number marks

-- the place behind that one
abbrev pub next_place : Option ℕ → Option ℕ
next_place None = None
next_place (Some place) = Some (place + 1)

-- the place of the number among the marks, if it is one of theirs: the first has place 0
abbrev pub place_among : ℕ → List UnitMark → Option ℕ
place_among number [] = None
place_among number (mark ∷ marks) = cond (nat_eq number mark.id.0) (Some 0) (next_place (place_among number marks))

-- the new number of the mark at that place, of so many: the last mark's is the next behind the formula, and then come the others
abbrev pub mark_number : ℕ → ℕ → ℕ → ℕ
mark_number clauses count place = cond (nat_eq (place + 1) count) (clauses + 1) (clauses + 2 + place)

-- the new number behind the formula, by the place among the marks: added clauses come behind all marks
abbrev pub number_behind : ℕ → List UnitMark → ℕ → Option ℕ → ℕ
number_behind clauses marks number None = number + marks_above number marks
number_behind clauses marks number (Some place) = mark_number clauses (length marks) place

-- the new number: those of the formula stay
abbrev pub renumbered : ℕ → List UnitMark → ℕ → ℕ
renumbered clauses marks number = cond (nat_lt clauses number) (number_behind clauses marks number (place_among number marks)) number

-- a clause under its new number
abbrev pub new_id : ℕ → List UnitMark → ClauseId → ClauseId
new_id clauses marks id = record { 0 = renumbered clauses marks id.0 }

-- a step with other numbers
abbrev pub with_numbers : (ℕ → ℕ) → DerivedStep → DerivedStep
with_numbers f (adds id lits hints) = adds (record { 0 = f id.0 }) lits (map (λ hint. record { 0 = f hint.0 }) hints)
with_numbers f (drops ids) = drops (map (λ id. record { 0 = f id.0 }) ids)

-- the steps that derive all marks but the last, under consecutive numbers
abbrev pub derive_marks : ℕ → List UnitMark → List DerivedStep
derive_marks number [] = []
derive_marks number (mark ∷ []) = []
derive_marks number (mark ∷ next ∷ marks) = adds (record { 0 = number }) (mark.lit ∷ []) mark.hints ∷ derive_marks (number + 1) (next ∷ marks)

-- the new log
abbrev pub rebased : ℕ → List UnitMark → List DerivedStep → List DerivedStep
rebased clauses marks steps = derive_marks (clauses + 2) marks ++ map (with_numbers (renumbered clauses marks)) steps

-- the marks are the units of the events, with their numbers
abbrev pub AreMarksOf : ℕ → List Event → List UnitMark → Type 0
AreMarksOf last [] [] = ⊤
AreMarksOf last [] (mark ∷ marks) = ⊥
AreMarksOf last (gives lit ∷ events) [] = ⊥
AreMarksOf last (gives lit ∷ events) (mark ∷ marks) = (mark.id.0 ≡ last + 1) × (mark.lit ≡ lit) × AreMarksOf (last + 1) events marks
AreMarksOf last (derives (adds id lits hints) ∷ events) marks = AreMarksOf (last + 1) events marks
AreMarksOf last (derives (drops ids) ∷ events) marks = AreMarksOf last events marks

-- the formula with the last unit
abbrev pub with_last : List (List Lit) → List UnitMark → List (List Lit)
with_last formula [] = formula
with_last formula (mark ∷ []) = formula ++ (mark.lit ∷ []) ∷ []
with_last formula (mark ∷ next ∷ marks) = with_last formula (next ∷ marks)

-- the step of each mark but the last is accepted over these clauses
abbrev pub AreDerived : List NumberedClause → List UnitMark → Type 0
AreDerived live [] = ⊤
AreDerived live (mark ∷ []) = ⊤
AreDerived live (mark ∷ next ∷ marks) = (hints_fault live (negated mark.lit ∷ []) mark.hints ≡ None) × AreDerived live (next ∷ marks)

-- a log that refutes a formula with units, whose marks are derived from the formula and the last of them, refutes, when it is
-- rebased, the formula with that last unit
abbrev pub RebasedRefutes : Type 0
RebasedRefutes = (vars : ℕ) (formula : List (List Lit)) (events : List Event) (marks : List UnitMark) → AreNext (search_of vars formula) events → EndsInEmptyClause (log_of events)
    → AreMarksOf (length formula) events marks → AreDerived (numbered_from 1 (with_last formula marks)) marks → Refutes vars (with_last formula marks) (rebased (length formula) marks (log_of events))
