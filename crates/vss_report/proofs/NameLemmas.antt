-- A name tells its place, its cell.
use Rattle.std.proofs.Common.{◌≡◌, ◌<◌, ℕ, List, [], Option, Some, length, slice_get, unwrap_or, refl, sym, ap, ◌∙◌}
use Rattle.cell_net.specs.Labelled.{AreLabels, IsGoodPlace}
use Rattle.cell_net.specs.declared.cells.DirCell.{DirCell}
use Rattle.cell_net.specs.declared.ids.CandidateId.{CandidateId}
use Rattle.cell_net.specs.declared.labels.CellLabel.{CellLabel}
use Rattle.cell_net.specs.declared.labels.PlaceLabel.{PlaceLabel}
use Rattle.cell_net.specs.declared.labels.PlaceLabel.TheVariants.{Cut, Joint}
use Rattle.cell_net.specs.declared.labels.Labels.{Labels}
use Rattle.vss_report.specs.Lines.{CellName, PlaceName, cut}
use Rattle.vss_report.specs.Names.{track_name, labelled_cell, labelled_place, IsNamedCell, IsPlaceOf}
use Rattle.vss_report.proofs.Placed.{all_at, one_place, some_at}

track_is : (labels : Labels) (track : ℕ) (name : List ℕ) → slice_get labels.tracks track ≡ Some name → track_name labels track ≡ name
track_is labels track name e = ap (λ (o : Option (List ℕ)). unwrap_or o []) e

-- two tracks of one name are one
track_same : (labels : Labels) (one other : ℕ) → AreLabels labels → one < length labels.tracks → other < length labels.tracks
    → track_name labels one ≡ track_name labels other → one ≡ other
track_same labels one other good within also e =
    let found = some_at labels.tracks one within in
    let seen = some_at labels.tracks other also in
    let names : seen.0 ≡ found.0 = sym (track_is labels other seen.0 seen.1) ∙ (sym e ∙ track_is labels one found.0 found.1) in
    one_place labels.tracks one other found.0 good.tracks_differ found.1 (seen.1 ∙ ap Some names)

cut_parts : (track track' : List ℕ) (at at' : ℕ) → cut track at ≡ cut track' at' → (track ≡ track') × (at ≡ at')
cut_parts track track' at at' same = (cc, cc)

-- two labels of places of one name are one
label_same : (labels : Labels) (one other : PlaceLabel) → AreLabels labels → IsGoodPlace (length labels.tracks) one → IsGoodPlace (length labels.tracks) other
    → labelled_place labels (Some one) ≡ labelled_place labels (Some other) → one ≡ other
label_same labels (Cut track at) (Cut track' at') good fits fits' same =
    let parts = cut_parts (track_name labels track) (track_name labels track') at at' same in
    let one : track ≡ track' = track_same labels track track' good (fits.cut track at refl) (fits'.cut track' at' refl) parts.0 in
    ap (λ t. Cut t at) one ∙ ap (Cut track') parts.1
label_same labels (Joint name) (Joint name') good fits fits' same = let one : name ≡ name' = cc in ap Joint one
label_same labels (Cut track at) (Joint name) good fits fits' same = absurd cc
label_same labels (Joint name) (Cut track at) good fits fits' same = absurd cc

-- two places of one name are one
pub place_same : (labels : Labels) (name : PlaceName) (one other : CandidateId) → AreLabels labels → IsPlaceOf labels name one → IsPlaceOf labels name other → one ≡ other
place_same labels name one other good is is' =
    let found = some_at labels.places one.0 is.within in
    let seen = some_at labels.places other.0 is'.within in
    let names : labelled_place labels (Some found.0) ≡ labelled_place labels (Some seen.0) = ap (labelled_place labels) (sym found.1) ∙ (is.named ∙ (sym is'.named ∙ ap (labelled_place labels) seen.1)) in
    let same = label_same labels found.0 seen.0 good (all_at (IsGoodPlace (length labels.tracks)) labels.places one.0 found.0 good.places found.1)
    (all_at (IsGoodPlace (length labels.tracks)) labels.places other.0 seen.0 good.places seen.1) names in
    let at : one.0 ≡ other.0 = one_place labels.places one.0 other.0 found.0 good.places_differ found.1 (seen.1 ∙ ap Some (sym same)) in
    λ i. record { 0 = at i }

cell_label_same : (labels : Labels) (one other : CellLabel) → AreLabels labels → one.track < length labels.tracks → other.track < length labels.tracks
    → track_name labels one.track ≡ track_name labels other.track → one.index ≡ other.index → one ≡ other
cell_label_same labels one other good within within' tracks numbers =
    let track : one.track ≡ other.track = track_same labels one.track other.track good within within' tracks in
    λ i. record { track = track i; index = numbers i }

-- two directed cells of one name are one
pub cell_same : (labels : Labels) (name : CellName) (one other : DirCell) → AreLabels labels → IsNamedCell labels name one → IsNamedCell labels name other → one ≡ other
cell_same labels name one other good is is' =
    let found = some_at labels.cells one.cell.0 is.within in
    let seen = some_at labels.cells other.cell.0 is'.within in
    let first : labelled_cell labels one.end (Some found.0) ≡ name = ap (labelled_cell labels one.end) (sym found.1) ∙ is.named in
    let second : labelled_cell labels other.end (Some seen.0) ≡ name = ap (labelled_cell labels other.end) (sym seen.1) ∙ is'.named in
    let names : labelled_cell labels one.end (Some found.0) ≡ labelled_cell labels other.end (Some seen.0) = first ∙ sym second in
    let same = cell_label_same labels found.0 seen.0 good (all_at (λ c. c.track < length labels.tracks) labels.cells one.cell.0 found.0 good.cell_tracks found.1)
    (all_at (λ c. c.track < length labels.tracks) labels.cells other.cell.0 seen.0 good.cell_tracks seen.1) (ap (λ (n : CellName). n.track) names) (ap (λ (n : CellName). n.index) names) in
    let at : one.cell.0 ≡ other.cell.0 = one_place labels.cells one.cell.0 other.cell.0 found.0 good.cells_differ found.1 (seen.1 ∙ ap Some (sym same)) in
    let ends : one.end ≡ other.end = ap (λ (n : CellName). n.end) names in
    λ i. record { cell = record { 0 = at i }; end = ends i }
