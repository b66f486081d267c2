-- The clauses of two trains.
use Rattle.std.specs.Prelude.{ℕ, ◌+◌, min, max, List, ◌∷◌, not, nat_eq, length}
use Rattle.std.specs.List.{flat_map}
use Rattle.sat_core.specs.declared.literal.Lit.{Lit}
use Rattle.clause_list.specs.Ranges.{one_each, below, from_below}
use Rattle.clause_list.specs.Numbers.{CodedTrain, Network, is, is_not, section_of, gap, touch}
use Rattle.clause_list.specs.RunClauses.{where_}

-- the steps of both
abbrev pub common_steps : CodedTrain → CodedTrain → List ℕ
common_steps a b = from_below (max a.start b.start) (min a.by b.by + 1)

-- Apart: two trains do not touch one cell, nor two cells of a section without a border on each walk between them.
unfoldable pub apart : Network → CodedTrain → CodedTrain → ℕ → ℕ → ℕ → List Lit
apart net a b t e f = is_not (touch a t e) ∷ is_not (touch b t f) ∷ where_ (not (nat_eq e f)) (is (gap net (min e f) (max e f)))

unfoldable pub apart_from : Network → CodedTrain → CodedTrain → ℕ → ℕ → List (List Lit)
apart_from net a b t e = one_each (apart net a b t e) (section_of net e)

unfoldable pub apart_at : Network → CodedTrain → CodedTrain → ℕ → List (List Lit)
apart_at net a b t = flat_map (apart_from net a b t) (below (length net.sections))

unfoldable pub apart_clauses : Network → CodedTrain → CodedTrain → List (List Lit)
apart_clauses net a b = flat_map (apart_at net a b) (common_steps a b)
