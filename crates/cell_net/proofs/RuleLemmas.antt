-- On the rules of an instance.
use Rattle.std.proofs.Common.{◌≡◌, ◌<◌, ◌≤◌, inl, inr, ℕ, List, length, All, Some, slice_index_or, sym, ◌∙◌, ap, arith}
use Rattle.std.proofs.lemmas.Option.{slice_get_cases, slice_get-get_or, slice_get_within, same_Some}
use Rattle.vss_lists.specs.Breaks.{HoldsOfEach}
use Rattle.cell_net.specs.Rules.{IsNodeOf, node_at, IsGoodCandidate, IsGoodCell, IsGoodTrain, IsGoodJoin}
use Rattle.cell_net.specs.Passages.{HasPlace, HasPlaces}
use Rattle.cell_net.specs.Borders.{IsInSection}
use Rattle.cell_net.specs.declared.limits.TheConstants.{CANDIDATES, CELLS, TRAINS}
use Rattle.cell_net.specs.declared.ids.CellId.{CellId}
use Rattle.cell_net.specs.declared.ids.NodeId.{NodeId}
use Rattle.cell_net.specs.declared.cells.CellSpec.{CellSpec}
use Rattle.cell_net.specs.declared.cells.CellEnd.{CellEnd}
use Rattle.cell_net.specs.declared.cells.JoinSpec.{JoinSpec}
use Rattle.cell_net.specs.declared.parts.InstanceParts.{InstanceParts}

-- an end has one node
pub one_node : (p : InstanceParts) (e : CellEnd) (m n : NodeId) → IsNodeOf p e m → IsNodeOf p e n → m ≡ n
unfolding IsNodeOf
one_node p e m n (c, is, at) (d, is', at') =
    let same : Some c ≡ Some d = sym is ∙ is' in
    let same_cell : c ≡ d = cc in
    sym at ∙ (ap (λ x. node_at x e.end) same_cell ∙ at')

-- a list whose rule asks for a place below n has at most n items
few_items : {X : Type 0} (P : ℕ → X → Type 0) (n : ℕ) (xs : List X) → ((place : ℕ) (x : X) → P place x → place < n) → HoldsOfEach P xs → length xs ≤ n
few_items P n xs few each =
    elim (slice_get_cases xs n).1 [ inl (x, within, is, at) ↦ absurd (let low = few n x (each.at_each n x is) in omega arith) | inr past ↦ past.0 ]

pub few_cells : (p : InstanceParts) → HoldsOfEach (IsGoodCell p) p.cells → length p.cells ≤ CELLS
few_cells p = few_items (IsGoodCell p) CELLS p.cells (λ _ _ good. good.few)

pub few_candidates : (p : InstanceParts) → HoldsOfEach (IsGoodCandidate p) p.candidates → length p.candidates ≤ CANDIDATES
few_candidates p = few_items (IsGoodCandidate p) CANDIDATES p.candidates (λ _ _ good. good.few)

pub few_trains : (p : InstanceParts) → HoldsOfEach (IsGoodTrain p) p.trains → length p.trains ≤ TRAINS
few_trains p = few_items (IsGoodTrain p) TRAINS p.trains (λ _ _ good. good.few)

has_place : (p : InstanceParts) (e : CellEnd) (n : NodeId) → length p.cells ≤ CELLS → IsNodeOf p e n → HasPlace e
unfolding IsNodeOf
has_place p e n few (c, is, at) = let within = slice_get_within p.cells e.cell.0 c is in omega arith

-- the ends of good joins have places in the row of all ends
pub have_places : (p : InstanceParts) → length p.cells ≤ CELLS → HoldsOfEach (IsGoodJoin p) p.joins → All HasPlaces p.joins
have_places p few each k d within =
    let j : JoinSpec = slice_index_or p.joins k d in
    let good : IsGoodJoin p k j = each.at_each k j (slice_get-get_or p.joins k d within) in
    (has_place p j.one good.node few good.at_one, has_place p j.other good.node few good.at_other)

-- a cell is of one section
pub one_section : (p : InstanceParts) (c : CellId) (s t : ℕ) → IsInSection p s c → IsInSection p t c → s ≡ t
one_section p c s t first second =
    let same : first.cell ≡ second.cell = same_Some first.cell second.cell (sym first.is ∙ second.is) in
    sym first.of_section ∙ (ap (λ (x : CellSpec). x.section.0) same ∙ second.of_section)
