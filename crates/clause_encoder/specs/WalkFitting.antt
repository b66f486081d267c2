-- What the candidates of walks have to do with the numbers of a network; and the clause of one walk.
use Rattle.std.specs.Prelude.{◌<◌, ◌∷◌, [], ℕ, List, map, All}
use Rattle.sat_core.specs.declared.literal.Lit.{Lit}
use Rattle.cell_net.specs.declared.ids.CandidateId.{CandidateId}
use Rattle.clause_list.specs.Numbers.{is, is_not, border}

-- the candidates have numbers of 32 bits
abbrev pub AreFew : List CandidateId → Type 0
AreFew candidates = All (λ c. c.0 < 512) candidates

-- the border of a candidate stands
abbrev pub border_lit : CandidateId → Lit
border_lit c = is (border c.0)

-- not the gap of that number, or a border on the walk
unfoldable pub on_walk : ℕ → List CandidateId → List Lit
on_walk number walk = is_not number ∷ map border_lit walk

abbrev pub on_walk_alone : ℕ → List CandidateId → List (List Lit)
on_walk_alone number walk = on_walk number walk ∷ []
