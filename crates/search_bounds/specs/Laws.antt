-- How many conflicts are enough for a search to end.
use Rattle.std.specs.Prelude.{ℕ, ◌+◌, ◌*◌, ◌^◌, ◌<◌, List, All, Some}
use Rattle.sat_core.specs.declared.literal.Lit.{Lit}
use Rattle.sat_core.specs.Derivation.{AddsEmptyClause}
use Rattle.sat_core.specs.Search.{Event, search_of, AreNext, log_of, adds_in}

-- A variable stands in a clause with one sign, with the other, or not at all: as sets there are 3 ^ vars clauses. Places of drops
-- lie twice as far apart each time, so below this number two neighbouring ones have more conflicts between them than that.
abbrev pub enough_conflicts : ℕ → ℕ
enough_conflicts vars = 4 * 3 ^ vars + 4000

-- a search in which no step adds the empty clause has fewer conflicts
abbrev pub SearchesAreBounded : Type 0
SearchesAreBounded = (vars : ℕ) (formula : List (List Lit)) (events : List Event) → AreNext (search_of vars formula) events →
    All (λ step. ¬ AddsEmptyClause (Some step)) (log_of events) → adds_in (log_of events) < enough_conflicts vars
