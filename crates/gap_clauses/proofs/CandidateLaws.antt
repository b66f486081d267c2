-- A walk has a border among its nodes exactly where it has one among its candidates.
use Rattle.std.proofs.Common.{List, [], ◌∷◌, get_or, subst, arith}
use Rattle.std.specs.Prelude.{All, Any, Contains}
use Rattle.std.specs.List.{AllZip}
use Rattle.std.proofs.lemmas.List.Elements.{All-cons, All-head, All-tail, Contains-get_or}
use Rattle.cell_net.specs.Borders.{IsBorder}
use Rattle.cell_net.specs.declared.ids.CandidateId.{CandidateId}
use Rattle.cell_net.specs.declared.parts.InstanceParts.{InstanceParts}
use Rattle.gap_clauses.specs.Gaps.{AreCandidatesOf, AreGaps, walks_of}
use Rattle.gap_clauses.specs.Laws.{CandidatesSeparate, HasBorder, IsCut}
use Rattle.gap_clauses.specs.Walks.{Step}
use Rattle.gap_clauses.proofs.Shortening.{cut_separates}

module _ (p : InstanceParts) (borders : List CandidateId) where
  -- a border at a node of the walk
  abbrev HasBorderNode : List Step → Type 0
  HasBorderNode walk = Any (λ s. IsBorder p borders s.node) walk

  border_of_nodes : (walk : List Step) (candidates : List CandidateId) → AreCandidatesOf p walk candidates → HasBorderNode walk → HasBorder borders candidates
  border_of_nodes walk candidates are (k, s, within, at, border) =
      let b : CandidateId = border.1 in
      let there : Contains candidates b = (are.which b).1 (k, s, within, at, border.4) in
      (there.0, b, there.1, there.2, (border.0, border.2, border.3))

  border_of_candidates : (walk : List Step) (candidates : List CandidateId) → AreCandidatesOf p walk candidates → HasBorder borders candidates → HasBorderNode walk
  border_of_candidates walk candidates are (k, c, within, at, border) =
      let found = (are.which c).0 (k, within, at) in
      (found.0, found.1, found.2, found.3, (border.0, c, border.1, border.2, found.4))

  -- the same of all walks
  all_of_nodes : (walks : List (List Step)) (candidates : List (List CandidateId)) → AllZip (AreCandidatesOf p) walks candidates → All HasBorderNode walks → All (HasBorder borders) candidates
  all_of_nodes [] [] zip all = λ k d h. absurd (omega arith)
  all_of_nodes [] (c ∷ cs) zip all = absurd zip
  all_of_nodes (w ∷ ws) [] zip all = absurd zip
  all_of_nodes (w ∷ ws) (c ∷ cs) zip all = All-cons (HasBorder borders) c cs (border_of_nodes w c zip.0 (All-head HasBorderNode w ws all)) (all_of_nodes ws cs zip.1 (All-tail HasBorderNode w ws all))

  all_of_candidates : (walks : List (List Step)) (candidates : List (List CandidateId)) → AllZip (AreCandidatesOf p) walks candidates → All (HasBorder borders) candidates → All HasBorderNode walks
  all_of_candidates [] [] zip all = λ k d h. absurd (omega arith)
  all_of_candidates [] (c ∷ cs) zip all = absurd zip
  all_of_candidates (w ∷ ws) [] zip all = absurd zip
  all_of_candidates (w ∷ ws) (c ∷ cs) zip all = All-cons HasBorderNode w ws (border_of_candidates w c zip.0 (All-head (HasBorder borders) c cs all)) (all_of_candidates ws cs zip.1 (All-tail (HasBorder borders) c cs all))

  pub candidates_separate : (gaps : List (List (List (List CandidateId)))) → AreGaps p gaps → CandidatesSeparate p borders gaps
  unfolding IsCut
  candidates_separate gaps are e f both =
      let here = are.between e f both in
      let law = cut_separates p borders e f in (
        λ apart. let cut = law.0 apart in all_of_nodes here.walks (walks_of gaps e f) here.are_theirs (λ k d h. cut (get_or here.walks k d) ((here.are_walks.each (get_or here.walks k d)).0 (Contains-get_or here.walks k d h))),
        λ all. law.1 (λ w walk. let there = (here.are_walks.each w).1 walk in subst HasBorderNode there.2 (all_of_candidates here.walks (walks_of gaps e f) here.are_theirs all there.0 w there.1)),
      )
