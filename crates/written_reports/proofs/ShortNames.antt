-- The numbers in the names of a scene's cells and places have nine digits at most.
use Rattle.std.proofs.Common.{◌≡◌, ℕ, ◌+◌, ◌-◌, ◌*◌, ◌<◌, ◌≤◌, Bool, true, false, List, [], ◌∷◌, length, get_or, map, sym, ap, subst, ◌∙◌, arith, length-append}
use Rattle.std.specs.Prelude.{All, if◌then◌else◌}
use Rattle.std.specs.List.{flat_map, range_with_len}
use Rattle.std.proofs.lemmas.List.{length-map}
use Rattle.std.proofs.lemmas.List.Elements.{All-append, All-map, All-nil}
use Rattle.std.proofs.lemmas.List.FromFn.{length-range_with_len, get_or-range_with_len}
use Rattle.std.proofs.lemmas.Nat.{mul-le}
use Rattle.cell_net.specs.Labelled.{AreLabelsOf}
use Rattle.cell_net.specs.Rules.{IsInstance}
use Rattle.cell_net.specs.declared.labels.CellLabel.{CellLabel}
use Rattle.cell_net.specs.declared.labels.PlaceLabel.{PlaceLabel}
use Rattle.cell_net.specs.declared.labels.PlaceLabel.TheVariants as place
use Rattle.rail_net.specs.declared.parts.NetParts.{NetParts}
use Rattle.timetable.specs.declared.parts.Timetable.{Timetable}
use Rattle.discretise.specs.Cells.{label_in, labels_in, cell_labels}
use Rattle.discretise.specs.Places.{joint_label, cut_label, labels_of_cuts, cut_labels, place_labels}
use Rattle.discretise.specs.declared.tracks.GridTrack.{GridTrack}
use Rattle.vss_report.specs.Written.{IsShortPlace, HasShortNames}
use Rattle.vss_text.specs.Numbers.{IsShort}
use Rattle.vss_jobs.specs.Settings.{Setting}
use Rattle.written_reports.proofs.Made.{IsMadeSetting}

abbrev IsShortCell : CellLabel → Type 0
IsShortCell c = IsShort c.index

-- the numbers of a range are below its end
below : (n m : ℕ) → n ≤ m → All (λ k. k < m) (range_with_len 0 n)
below n m few k d lt =
    let small : k < n = omega (arith, length-range_with_len 0 n) in
    omega (arith, get_or-range_with_len 0 n k d small)

short_cells_in : (g : GridTrack) → g.count ≤ 1000 → All IsShortCell (labels_in g)
short_cells_in g few =
    All-map IsShortCell (label_in g) (range_with_len 0 g.count) (λ k d lt. let small : get_or (range_with_len 0 g.count) k d < 1000 = below g.count 1000 few k d lt in omega arith)

count_in : (g : GridTrack) → length (labels_in g) ≡ g.count
count_in g = length-map (range_with_len 0 g.count) (label_in g) ∙ length-range_with_len 0 g.count

count_of_all : (g : GridTrack) (gs : List GridTrack) → length (cell_labels (g ∷ gs)) ≡ g.count + length (cell_labels gs)
count_of_all g gs = length-append (labels_in g) (cell_labels gs) ∙ ap (λ n. n + length (cell_labels gs)) (count_in g)

short_cells : (gs : List GridTrack) → length (cell_labels gs) ≤ 1000 → All IsShortCell (cell_labels gs)
short_cells [] few = All-nil IsShortCell
short_cells (g ∷ gs) few =
    All-append IsShortCell (labels_in g) (cell_labels gs) (short_cells_in g (omega (arith, count_of_all g gs))) (short_cells gs (omega (arith, count_of_all g gs)))

short_metres : (cut step : ℕ) → cut < 1000 → step ≤ 100000 → IsShort ((cut + 1) * step)
short_metres cut step few small =
    let product : (cut + 1) * step ≤ 1000 * 100000 = mul-le (cut + 1) step 1000 100000 (omega arith) small in
    omega (arith, product)

short_cuts_in : (t : Timetable) (g : GridTrack) → t.space_step_m ≤ 100000 → g.count ≤ 1000 → All IsShortPlace (labels_of_cuts t g)
short_cuts_in t g step few =
    All-map IsShortPlace (cut_label t g) (range_with_len 0 (g.count - 1)) (λ k d lt.
    let small : get_or (range_with_len 0 (g.count - 1)) k d < 1000 = below (g.count - 1) 1000 (omega arith) k d lt in
    short_metres (get_or (range_with_len 0 (g.count - 1)) k d) t.space_step_m small step)

if_short : (b : Bool) (labels : List PlaceLabel) → All IsShortPlace labels → All IsShortPlace (if b then labels else [])
if_short true labels short = short
if_short false labels short = All-nil IsShortPlace

short_cuts : (t : Timetable) (gs : List GridTrack) → t.space_step_m ≤ 100000 → length (cell_labels gs) ≤ 1000 → All IsShortPlace (flat_map (cut_labels t) gs)
short_cuts t [] step few = All-nil IsShortPlace
short_cuts t (g ∷ gs) step few =
    All-append IsShortPlace (cut_labels t g) (flat_map (cut_labels t) gs)
    (if_short g.is_virtual (labels_of_cuts t g) (short_cuts_in t g step (omega (arith, count_of_all g gs))))
    (short_cuts t gs step (omega (arith, count_of_all g gs)))

short_places : (p : NetParts) (t : Timetable) (joints : List ℕ) (gs : List GridTrack) → t.space_step_m ≤ 100000 → length (cell_labels gs) ≤ 1000 → All IsShortPlace (place_labels p t joints gs)
short_places p t joints gs step few =
    All-append IsShortPlace (map (joint_label p) joints) (flat_map (cut_labels t) gs) (All-map IsShortPlace (joint_label p) joints (λ k d lt. tt)) (short_cuts t gs step few)

pub short_names : (setting : Setting) → IsInstance setting.parts → IsMadeSetting setting → AreLabelsOf setting.parts setting.labels → HasShortNames setting.labels
short_names setting rules made labelled =
    let scene = made.cut.1 in
    let cells : setting.labels.cells ≡ cell_labels scene.tracks = ap (λ (s : Setting). s.labels.cells) made.is ∙ scene.names.cells in
    let places : setting.labels.places ≡ place_labels made.net made.timetable scene.joints scene.tracks = ap (λ (s : Setting). s.labels.places) made.is ∙ scene.names.places in
    let most : length setting.parts.cells ≤ 1000 = rules.few_cells in
    let few : length (cell_labels scene.tracks) ≤ 1000 = omega (arith, sym (ap length cells), labelled.cells, most) in
    record {
      cells = subst (All IsShortCell) (sym cells) (short_cells scene.tracks few);
      places = subst (All IsShortPlace) (sym places) (short_places made.net made.timetable scene.joints scene.tracks made.is_timetable.steps.space_at_most few);
    }
