-- The cells of a sweep, found one after another.
use Rattle.std.proofs.Common.{◌≡◌, ◌<◌, ℕ, List, [], ◌∷◌, ◌++◌, All, length, map, drop, refl, sym, ap, subst, ◌∙◌, arith, append_assoc, append-nil, length-append}
use Rattle.std.specs.List.{flat_map}
use Rattle.std.proofs.lemmas.List.{map-append}
use Rattle.std.proofs.lemmas.List.Elements.{All-nil, All-head, All-tail, All-push}
use Rattle.cell_net.specs.declared.cells.DirCell.{DirCell}
use Rattle.cell_net.specs.declared.labels.Labels.{Labels}
use Rattle.vss_text.specs.Reading.{IsReadOnce, Misses, NeverBegins}
use Rattle.vss_text.specs.declared.miss.Miss.{Miss}
use Rattle.vss_text.specs.declared.miss.Miss.TheVariants.{Short, Wrong}
use Rattle.vss_report.specs.Fits.{IsKnownCell}
use Rattle.vss_report.specs.Found.{IsTextOfCells, IsCellsText}
use Rattle.vss_report.specs.Lines.{CellName, cell_text, spaced, IsSpelledCell}
use Rattle.vss_report.specs.Names.{cell_named, IsNamedCell}
use Rattle.vss_report.proofs.LineReadings.{cell_read_once, cells_once}

-- the first cells of the text are found, and these are left
pub record AreFound (labels : Labels) (text rest : List ℕ) (found : List DirCell) : Type 0 where
  pub done : List CellName
  pub later : List CellName
  pub is_text : IsTextOfCells text (done ++ later)
  pub left : All IsSpelledCell later
  pub rest_is : rest ≡ flat_map spaced later
  pub named : map (cell_named labels) found ≡ done
  pub known : All (λ d. d.cell.0 < length labels.cells) found

pub AreFound-none : (labels : Labels) (text : List ℕ) → IsCellsText text → AreFound labels text text []
AreFound-none labels text is = record {
  done = [];
  later = is.cells;
  is_text = is.is_text;
  left = is.is_text.spelled;
  rest_is = is.is_text.are;
  named = refl;
  known = All-nil (λ d. d.cell.0 < length labels.cells);
}

-- what stands behind the blank of the next cell
pub record IsNext (text : List ℕ) (later : List CellName) : Type 0 where
  pub cell : CellName
  pub others : List CellName
  pub is : later ≡ cell ∷ others
  pub begins : drop 1 text ≡ cell_text cell ++ flat_map spaced others

pub next_cell : (rest : List ℕ) (later : List CellName) → 0 < length rest → rest ≡ flat_map spaced later → IsNext rest later
next_cell rest [] some is = absurd (omega (arith, ap length is))
next_cell rest (cell ∷ others) some is = record { cell = cell; others = others; is = refl; begins = ap (drop 1) is }

next_fits : (rest : List ℕ) (later : List CellName) → (next : IsNext rest later) → All IsSpelledCell later → IsSpelledCell next.cell × All IsSpelledCell next.others
next_fits rest later next fits =
    let all : All IsSpelledCell (next.cell ∷ next.others) = subst (All IsSpelledCell) next.is fits in
    (All-head IsSpelledCell next.cell next.others all, All-tail IsSpelledCell next.cell next.others all)

-- the cell that is read is the next one
same_next : (rest behind : List ℕ) (later : List CellName) (name : CellName) → (next : IsNext rest later) → All IsSpelledCell later → IsSpelledCell name → drop 1 rest ≡ cell_text name ++ behind
    → (name ≡ next.cell) × (behind ≡ flat_map spaced next.others)
unfolding IsReadOnce
same_next rest behind later name next fits spelled read =
    cell_read_once name next.cell behind (flat_map spaced next.others) spelled (next_fits rest later next fits).0 (sym read ∙ next.begins)

push : (done others : List CellName) (cell : CellName) → done ++ (cell ∷ others) ≡ (done ++ cell ∷ []) ++ others
push done others cell = sym (append_assoc done (cell ∷ []) others)

pub AreFound-more : (labels : Labels) (text rest behind : List ℕ) (found : List DirCell) (name : CellName) (d : DirCell) → AreFound labels text rest found → 0 < length rest
    → IsSpelledCell name → drop 1 rest ≡ cell_text name ++ behind → IsNamedCell labels name d → AreFound labels text behind (found ++ d ∷ [])
AreFound-more labels text rest behind found name d before some spelled read is_cell =
    let next = next_cell rest before.later some before.rest_is in
    let same = same_next rest behind before.later name next before.left spelled read in
    record {
      done = before.done ++ next.cell ∷ [];
      later = next.others;
      is_text = subst (IsTextOfCells text) (ap (λ cells. before.done ++ cells) next.is ∙ push before.done next.others next.cell) before.is_text;
      left = (next_fits rest before.later next before.left).1;
      rest_is = same.1;
      named =
          map-append (cell_named labels) found (d ∷ [])
          ∙ (ap (λ cells. cells ++ (cell_named labels d ∷ [])) before.named
          ∙ ap (λ cell. before.done ++ cell ∷ []) (is_cell.named ∙ same.0));
      known = All-push (λ d. d.cell.0 < length labels.cells) found d before.known is_cell.within;
    }

-- where the next cell is read as none, it isn't left
pub no_miss : (labels : Labels) (text rest : List ℕ) (found : List DirCell) (miss : Miss) → AreFound labels text rest found → 0 < length rest → Misses IsSpelledCell cell_text (drop 1 rest) miss → ⊥
unfolding NeverBegins IsReadOnce
no_miss labels text rest found miss before some missed =
    let next = next_cell rest before.later some before.rest_is in
    by_miss miss next.cell (flat_map spaced next.others) (next_fits rest before.later next before.left).0 next.begins missed
  where
    too_short : (cell other : CellName) (left behind more : List ℕ) → IsSpelledCell cell → IsSpelledCell other → left ≡ cell_text cell ++ behind → left ++ more ≡ cell_text other → 0 < length more → ⊥
    too_short cell other left behind more fits fits' is within some =
        let same : cell_text cell ++ (behind ++ more) ≡ cell_text other ++ [] = sym (append_assoc (cell_text cell) behind more) ∙ (ap (λ t. t ++ more) (sym is) ∙ (within ∙ sym (append-nil (cell_text other)))) in
        let parts = cell_read_once cell other (behind ++ more) [] fits fits' same in
        omega (arith, ap length parts.1, length-append behind more)

    by_miss : (miss : Miss) (cell : CellName) (behind : List ℕ) → IsSpelledCell cell → drop 1 rest ≡ cell_text cell ++ behind → Misses IsSpelledCell cell_text (drop 1 rest) miss → ⊥
    by_miss Short cell behind fits begins missed = too_short cell missed.item (drop 1 rest) behind missed.more fits missed.fits begins missed.goes_on missed.too_early
    by_miss Wrong cell behind fits begins never = never cell [] behind fits (append-nil (drop 1 rest) ∙ begins)

-- all cells are found
pub all_found : (labels : Labels) (text rest : List ℕ) (found : List DirCell) → length rest ≡ 0 → AreFound labels text rest found → (cells : List CellName) → IsTextOfCells text cells
    → (map (cell_named labels) found ≡ cells) × All (λ d. d.cell.0 < length labels.cells) found
all_found labels text rest found none before cells is_text = (before.named ∙ (no_more before.later before.rest_is ∙ same), before.known)
  where
    no_more : (later : List CellName) → rest ≡ flat_map spaced later → before.done ≡ before.done ++ later
    no_more [] is = sym (append-nil before.done)
    no_more (cell ∷ others) is = absurd (omega (arith, none, ap length is))

    same : before.done ++ before.later ≡ cells
    same = cells_once (before.done ++ before.later) cells before.is_text.spelled is_text.spelled (sym before.is_text.are ∙ is_text.are)

-- one of the cells is none of the scene
pub one_unknown : (labels : Labels) (text rest behind : List ℕ) (found : List DirCell) (name : CellName) → AreFound labels text rest found → 0 < length rest
    → IsSpelledCell name → drop 1 rest ≡ cell_text name ++ behind → ((d : DirCell) → ¬ IsNamedCell labels name d) → (cells : List CellName) → IsTextOfCells text cells → ¬ All (IsKnownCell labels) cells
one_unknown labels text rest behind found name before some spelled read none cells is_text known =
    let next = next_cell rest before.later some before.rest_is in
    let same = same_next rest behind before.later name next before.left spelled read in
    let all : before.done ++ before.later ≡ cells = cells_once (before.done ++ before.later) cells before.is_text.spelled is_text.spelled (sym before.is_text.are ∙ is_text.are) in
    let here : before.done ++ (next.cell ∷ next.others) ≡ cells = ap (λ cells. before.done ++ cells) (sym next.is) ∙ all in
    let is_known : IsKnownCell labels next.cell = at_seam before.done next.others next.cell (subst (All (IsKnownCell labels)) (sym here) known) in
    none is_known.cell (subst (λ n. IsNamedCell labels n is_known.cell) (sym same.0) is_known.is_cell)
  where
    at_seam : (done others : List CellName) (cell : CellName) → All (IsKnownCell labels) (done ++ (cell ∷ others)) → IsKnownCell labels cell
    at_seam [] others cell all = All-head (IsKnownCell labels) cell others all
    at_seam (x ∷ done) others cell all = at_seam done others cell (All-tail (IsKnownCell labels) x (done ++ (cell ∷ others)) all)
