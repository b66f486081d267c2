-- Laws of the cells of a sweep: what is missed of them, and what is read.
use Rattle.std.proofs.Common.{◌≡◌, ◌≢◌, ◌<◌, ◌-◌, ◌⊎◌, inl, inr, ℕ, List, [], ◌∷◌, ◌++◌, All, length, take, drop, decimal, refl, sym, ap, ◌∙◌, arith, append_assoc, length-append}
use Rattle.std.specs.Prelude.{slice_index}
use Rattle.std.specs.List.{flat_map}
use Rattle.std.proofs.lemmas.List.{append_cancel_left, flat_map_more, take_at, drop_at}
use Rattle.std.proofs.lemmas.List.Elements.{All-nil, All-push, All-head, All-tail}
use Rattle.cell_net.specs.declared.cells.End.{End}
use Rattle.cell_net.specs.declared.cells.End.TheVariants.{Low, High}
use Rattle.vss_names.specs.Names.{IsName}
use Rattle.vss_text.specs.Numbers.{IsShort, ended}
use Rattle.vss_text.specs.Reading.{EndsWithin, NeverBegins, Misses, IsReadOnce, Both, both_spelled}
use Rattle.vss_text.specs.declared.miss.Miss.{Miss}
use Rattle.vss_text.specs.declared.miss.Miss.TheVariants.{Short, Wrong}
use Rattle.vss_text.proofs.ReadingLaws.{misses_first, misses_second, misses_named, misses_either}
use Rattle.vss_report.specs.Lines.{CellName, sign, cell_text, spaced, IsSpelledCell}
use Rattle.vss_report.specs.Readings.{named, AreSweepCells, cells_line, HasCells}
use Rattle.vss_report.proofs.LineReadings.{cell_read_once}
use Rattle.vss_report.proofs.PartLemmas.{letter, name_read_once}

-- what stands behind the track of a cell
abbrev Numbered : Type 0
Numbered = ℕ × End

abbrev IsFine : Numbered → Type 0
IsFine p = IsShort p.0

abbrev number_text : Numbered → List ℕ
number_text p = decimal p.0 ++ sign p.1

make : List ℕ → ℕ → End → CellName
make track index end = record { track = track; index = index; end = end }

cell_missed : (text : List ℕ) (miss : Miss) → Misses (Both IsName IsFine) (both_spelled (named 58) number_text) text miss → Misses IsSpelledCell cell_text text miss
unfolding make
cell_missed text miss missed =
    misses_named (Both IsName IsFine) (both_spelled (named 58) number_text) IsSpelledCell cell_text text miss
    (λ x fits. (make x.0 x.1.0 x.1.1, record { track = fits.0; index = fits.1 }, sym (append_assoc x.0 (58 ∷ []) (number_text x.1))))
    (λ z more rest fits same. ((z.track, (z.index, z.end)), (fits.track, fits.index), sym (append_assoc z.track (58 ∷ []) (decimal z.index ++ sign z.end))))
    missed

pub no_track : (text : List ℕ) (miss : Miss) → Misses IsName (named 58) text miss → Misses IsSpelledCell cell_text text miss
no_track text miss missed = cell_missed text miss (misses_first IsName (named 58) IsFine number_text text miss (0, High) (omega arith) missed)

behind_track : (text track rest : List ℕ) (miss : Miss) → IsName track → text ≡ track ++ 58 ∷ rest → Misses IsFine number_text rest miss → Misses IsSpelledCell cell_text text miss
behind_track text track rest miss fits is missed =
    cell_missed text miss (misses_second IsName (named 58) IsFine number_text text rest miss track (name_read_once 58 refl) fits (is ∙ sym (append_assoc track (58 ∷ []) rest)) missed)

pub short_number : (text track rest : List ℕ) → IsName track → text ≡ track ++ 58 ∷ rest → EndsWithin IsShort (ended 43) rest → EndsWithin IsSpelledCell cell_text text
short_number text track rest fits is within =
    behind_track text track rest Short fits is (record { item = (within.item, High); more = within.more; fits = within.fits; goes_on = within.goes_on; too_early = within.too_early })

pub no_number : (text track rest : List ℕ) (miss : Miss) → IsName track → text ≡ track ++ 58 ∷ rest → NeverBegins IsShort (ended 43) rest → Misses IsShort (ended 45) rest miss → Misses IsSpelledCell cell_text text miss
no_number text track rest miss fits is never missed =
    behind_track text track rest miss fits is
    (misses_either IsShort (ended 43) IsShort (ended 45) IsFine number_text rest miss (λ n short. ((n, Low), short, refl)) either never missed)
  where
    either : (z : Numbered) → IsFine z → ((n : ℕ) × IsShort n × (number_text z ≡ ended 43 n)) ⊎ ((n : ℕ) × IsShort n × (number_text z ≡ ended 45 n))
    either z short = by_end z.0 z.1 short
      where
        by_end : (n : ℕ) (e : End) → IsShort n → ((m : ℕ) × IsShort m × (decimal n ++ sign e ≡ ended 43 m)) ⊎ ((m : ℕ) × IsShort m × (decimal n ++ sign e ≡ ended 45 m))
        by_end n High short = inl (n, short, refl)
        by_end n Low short = inr (n, short, refl)

-- a text that begins with a track, a number and a sign
pub cell_front : (text track rest after : List ℕ) (index : ℕ) (end : End) → text ≡ track ++ 58 ∷ rest → rest ≡ decimal index ++ (sign end ++ after) → text ≡ cell_text (record { track = track; index = index; end = end }) ++ after
cell_front text track rest after index end is found =
    is ∙ (ap (λ back. track ++ 58 ∷ back) (found ∙ sym (append_assoc (decimal index) (sign end) after)) ∙ sym (append_assoc track (58 ∷ (decimal index ++ sign end)) after))

-- so many cells are read of the text, and this is left
pub record IsCellsFront (text rest : List ℕ) : Type 0 where
  pub cells : List CellName
  pub fit : All IsSpelledCell cells
  pub so_far : text ≡ flat_map spaced cells ++ rest

pub IsCellsFront-none : (text : List ℕ) → IsCellsFront text text
IsCellsFront-none text = record { cells = []; fit = All-nil IsSpelledCell; so_far = refl }

pub IsCellsFront-more : (text rest behind after : List ℕ) (cell : CellName) → IsCellsFront text rest → rest ≡ 32 ∷ behind → IsSpelledCell cell → behind ≡ cell_text cell ++ after → IsCellsFront text after
IsCellsFront-more text rest behind after cell front is fits found = record {
  cells = front.cells ++ cell ∷ [];
  fit = All-push IsSpelledCell front.cells cell front.fit fits;
  so_far = front.so_far ∙ (ap (λ back. flat_map spaced front.cells ++ back) (is ∙ ap (λ b. 32 ∷ b) found)
      ∙ (sym (append_assoc (flat_map spaced front.cells) (spaced cell) after) ∙ ap (λ b. b ++ after) (flat_map_more spaced [] front.cells cell)));
}

-- what is left of cells behind others
record CellsGoOn (done cells : List CellName) (left rest : List ℕ) : Type 0 where
  later : List CellName
  is_more : cells ≡ done ++ later
  is_left : left ≡ flat_map spaced later ++ rest
  fit : All IsSpelledCell later

cells_go_on : (done cells : List CellName) (left rest : List ℕ) → All IsSpelledCell done → All IsSpelledCell cells → flat_map spaced done ++ left ≡ flat_map spaced cells ++ 10 ∷ rest → CellsGoOn done cells left (10 ∷ rest)
unfolding IsReadOnce
cells_go_on [] cells left rest fits fits' same = record { later = cells; is_more = refl; is_left = same; fit = fits' }
cells_go_on (c ∷ done) [] left rest fits fits' same = absurd (omega (arith, ap (λ b. slice_index b 0) same))
cells_go_on (c ∷ done) (c' ∷ cells) left rest fits fits' same =
    let inner : cell_text c ++ (flat_map spaced done ++ left) ≡ cell_text c' ++ (flat_map spaced cells ++ 10 ∷ rest) =
    append_cancel_left (32 ∷ []) (cell_text c ++ (flat_map spaced done ++ left)) (cell_text c' ++ (flat_map spaced cells ++ 10 ∷ rest))
    (ap (λ b. 32 ∷ b) (sym (append_assoc (cell_text c) (flat_map spaced done) left)) ∙ (same ∙ ap (λ b. 32 ∷ b) (append_assoc (cell_text c') (flat_map spaced cells) (10 ∷ rest)))) in
    let first = cell_read_once c c' (flat_map spaced done ++ left) (flat_map spaced cells ++ 10 ∷ rest) (All-head IsSpelledCell c done fits) (All-head IsSpelledCell c' cells fits') inner in
    let more = cells_go_on done cells left rest (All-tail IsSpelledCell c done fits) (All-tail IsSpelledCell c' cells fits') first.1 in
    let same_first : c ≡ c' = first.0 in
    let same_more : cells ≡ done ++ more.later = more.is_more in
    record { later = more.later; is_more = cc; is_left = more.is_left; fit = more.fit }

goes_on_from : (text rest more after : List ℕ) (cells : List CellName) → (front : IsCellsFront text rest) → All IsSpelledCell cells → text ++ more ≡ cells_line cells ++ after → CellsGoOn front.cells cells (rest ++ more) (10 ∷ after)
goes_on_from text rest more after cells front fits same =
    cells_go_on front.cells cells (rest ++ more) after front.fit fits
    (sym (append_assoc (flat_map spaced front.cells) rest more) ∙ (ap (λ b. b ++ more) (sym front.so_far) ∙ (same ∙ append_assoc (flat_map spaced cells) (10 ∷ []) after)))

some_cell : CellName
some_cell = record { track = 88 ∷ []; index = 0; end = High }

some_fits : IsSpelledCell some_cell
unfolding some_cell
some_fits = record { track = letter; index = omega arith }

within_cells : (text rest tail : List ℕ) (cell : CellName) → (front : IsCellsFront text rest) → IsSpelledCell cell → rest ++ tail ≡ spaced cell → EndsWithin AreSweepCells cells_line text
within_cells text rest tail cell front fits is = record {
  item = front.cells ++ cell ∷ [];
  more = tail ++ 10 ∷ [];
  fits = (omega (arith, length-append front.cells (cell ∷ [])), All-push IsSpelledCell front.cells cell front.fit fits);
  goes_on =
      ap (λ b. b ++ (tail ++ 10 ∷ [])) front.so_far
      ∙ (append_assoc (flat_map spaced front.cells) rest (tail ++ 10 ∷ [])
      ∙ (ap (λ b. flat_map spaced front.cells ++ b) (sym (append_assoc rest tail (10 ∷ [])) ∙ ap (λ b. b ++ 10 ∷ []) is)
      ∙ (sym (append_assoc (flat_map spaced front.cells) (spaced cell) (10 ∷ [])) ∙ ap (λ b. b ++ 10 ∷ []) (flat_map_more spaced [] front.cells cell))));
  too_early = omega (arith, length-append tail (10 ∷ []));
}

-- the text ends between two cells
pub cells_end : (text rest : List ℕ) → IsCellsFront text rest → length rest ≡ 0 → EndsWithin AreSweepCells cells_line text
cells_end text [] front none = within_cells text [] (spaced some_cell) some_cell front some_fits refl
cells_end text (b ∷ rest) front none = absurd (omega arith)

-- behind a blank no cell stands, so these are no cells
pub no_cell : (text rest behind : List ℕ) (miss : Miss) → IsCellsFront text rest → rest ≡ 32 ∷ behind → Misses IsSpelledCell cell_text behind miss → Misses AreSweepCells cells_line text miss
unfolding NeverBegins
no_cell text rest behind Short front is missed =
    within_cells text rest missed.more missed.item front missed.fits (ap (λ b. b ++ missed.more) is ∙ ap (λ b. 32 ∷ b) missed.goes_on)
no_cell text rest behind Wrong front is missed = λ cells more after fits same.
    let on = goes_on_from text rest more after cells front fits.1 same in
    fails behind more after on.later missed (ap (λ b. b ++ more) (sym is) ∙ on.is_left) on.fit
  where
    fails : (behind more after : List ℕ) (later : List CellName) → ((cell : CellName) (more rest : List ℕ) → IsSpelledCell cell → behind ++ more ≢ cell_text cell ++ rest) → 32 ∷ (behind ++ more) ≡ flat_map spaced later ++ 10 ∷ after → All IsSpelledCell later → ⊥
    fails behind more after [] missed same fits = omega (arith, ap (λ b. slice_index b 0) same)
    fails behind more after (cell ∷ later) missed same fits =
        missed cell more (flat_map spaced later ++ 10 ∷ after) (All-head IsSpelledCell cell later fits)
        (append_cancel_left (32 ∷ []) (behind ++ more) (cell_text cell ++ (flat_map spaced later ++ 10 ∷ after)) (same ∙ ap (λ b. 32 ∷ b) (append_assoc (cell_text cell) (flat_map spaced later) (10 ∷ after))))

-- neither a further cell nor, behind some, the end of the line
pub no_end : (text rest : List ℕ) → IsCellsFront text rest → 0 < length rest → slice_index rest 0 ≢ 32 → (slice_index rest 0 ≢ 10) ⊎ (length rest ≡ length text) → NeverBegins AreSweepCells cells_line text
unfolding NeverBegins
no_end text rest front some no_blank bad = λ cells more after fits same.
    let on = goes_on_from text rest more after cells front fits.1 same in
    fails rest more after cells on.later front.cells some no_blank bad (front.so_far) fits.0 on.is_more on.is_left
  where
    fails : (rest more after : List ℕ) (cells later done : List CellName) → 0 < length rest → slice_index rest 0 ≢ 32 → (slice_index rest 0 ≢ 10) ⊎ (length rest ≡ length text) → text ≡ flat_map spaced done ++ rest
        → 0 < length cells → cells ≡ done ++ later → rest ++ more ≡ flat_map spaced later ++ 10 ∷ after → ⊥
    fails [] more after cells later done some no_blank bad is many split same = omega arith
    fails (b ∷ rest) more after cells (cell ∷ later) done some no_blank bad is many split same = no_blank (ap (λ t. slice_index t 0) same)
    fails (b ∷ rest) more after cells [] done some no_blank bad is many split same = elim bad [
      | inl no_feed ↦ no_feed (ap (λ t. slice_index t 0) same)
      | inr all ↦ no_cells done all is (omega (arith, many, ap length split, length-append done []))
    ]
      where
        no_cells : (done : List CellName) → length (b ∷ rest) ≡ length text → text ≡ flat_map spaced done ++ (b ∷ rest) → 0 < length done → ⊥
        no_cells [] all is many = omega arith
        no_cells (c ∷ done) all is many = omega (arith, all, ap length is, length-append (flat_map spaced (c ∷ done)) (b ∷ rest), length-append (spaced c) (flat_map spaced done))

pub cells_found : (text rest : List ℕ) → (front : IsCellsFront text rest) → 0 < length rest → slice_index rest 0 ≡ 10 → length rest ≢ length text → HasCells text (take (length text - length rest) text) (drop 1 (drop (length text - length rest) text))
cells_found text rest front some feed fewer =
    let cells : List ℕ = flat_map spaced front.cells in
    let long : length cells ≡ length text - length rest = omega (arith, ap length front.so_far, length-append cells rest) in
    let front_is : take (length text - length rest) text ≡ cells = ap (take (length text - length rest)) front.so_far ∙ take_at cells rest (length text - length rest) long in
    let back_is : drop (length text - length rest) text ≡ rest = ap (drop (length text - length rest)) front.so_far ∙ drop_at cells rest (length text - length rest) long in
    record {
      named = front.cells;
      fit = (some_cells front.cells front.so_far, front.fit);
      are = front_is;
      is_front = front.so_far ∙ (ap (λ b. cells ++ b) (begins rest some feed ∙ ap (λ b. 10 ∷ drop 1 b) (sym back_is)) ∙ ap (λ b. b ++ 10 ∷ drop 1 (drop (length text - length rest) text)) (sym front_is));
    }
  where
    begins : (rest : List ℕ) → 0 < length rest → slice_index rest 0 ≡ 10 → rest ≡ 10 ∷ drop 1 rest
    begins [] some feed = absurd (omega arith)
    begins (b ∷ rest) some feed = ap (λ c. c ∷ rest) feed

    some_cells : (cells : List CellName) → text ≡ flat_map spaced cells ++ rest → 0 < length cells
    some_cells [] is = absurd (fewer (sym (ap length is)))
    some_cells (c ∷ cells) is = omega arith

pub one_cell : List CellName
one_cell = some_cell ∷ []

pub one_fits : AreSweepCells one_cell
unfolding one_cell
one_fits = (omega arith, All-push IsSpelledCell [] some_cell (All-nil IsSpelledCell) some_fits)
