-- The clauses of borders: kept ones or a given layout, the gaps, and at most how many.
use Rattle.std.specs.Prelude.{ℕ, ◌+◌, List, [], ◌∷◌, cond, nat_eq, nat_lt, length, map}
use Rattle.std.specs.List.{flat_map, list_any}
use Rattle.sat_core.specs.declared.literal.Lit.{Lit}
use Rattle.cell_net.specs.declared.ids.CandidateId.{CandidateId}
use Rattle.border_counter.specs.Counter.{at_least_var}
use Rattle.clause_list.specs.Ranges.{one_each, below}
use Rattle.clause_list.specs.Numbers.{Network, is, is_not, above, border, gap}

-- Kept: the kept borders stand.
unfoldable pub kept : CandidateId → List Lit
kept c = is (border c.0) ∷ []

abbrev pub kept_alone : CandidateId → List (List Lit)
kept_alone c = kept c ∷ []

unfoldable pub kept_clauses : Network → List (List Lit)
kept_clauses net = flat_map kept_alone net.kept

-- Given: the borders are those of a layout.
unfoldable pub given : List CandidateId → ℕ → List Lit
given layout c = cond (list_any (λ b. nat_eq c b.0) layout) (is (border c)) (is_not (border c)) ∷ []

unfoldable pub given_clauses : Network → List CandidateId → List (List Lit)
given_clauses net layout = one_each (given layout) (below net.candidates)

-- Border on each walk: a gap has a border on each walk between its cells, of which the candidates are given.
unfoldable pub border_on_walk : Network → ℕ → ℕ → List CandidateId → List Lit
border_on_walk net e f walk = is_not (gap net e f) ∷ map (λ c. is (border c.0)) walk

unfoldable pub borders_between : (ℕ → ℕ → List (List CandidateId)) → Network → ℕ → ℕ → List (List Lit)
borders_between walks net e f = one_each (border_on_walk net e f) (walks e f)

unfoldable pub borders_from : (ℕ → ℕ → List (List CandidateId)) → Network → ℕ → List (List Lit)
borders_from walks net e = flat_map (borders_between walks net e) (above net e)

unfoldable pub gap_clauses : (ℕ → ℕ → List (List CandidateId)) → Network → List (List Lit)
gap_clauses walks net = flat_map (borders_from walks net) (below (length net.sections))

-- the inputs of the counter
abbrev pub border_lits : ℕ → List Lit
border_lits n = map (λ c. is (border c)) (below n)

-- At most: not k + 1 of the n borders stand. With a bound of n and more there is nothing to say.
abbrev pub most_clauses : ℕ → ℕ → ℕ → List (List Lit)
most_clauses first n k = cond (nat_lt k n) ((is_not (at_least_var first n (k + 1)) ∷ []) ∷ []) []
