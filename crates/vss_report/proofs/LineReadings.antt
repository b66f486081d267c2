-- No text begins with two lines of a report.
use Rattle.std.proofs.Common.{◌≡◌, ◌<◌, ◌≤◌, ◌^◌, ℕ, List, [], ◌∷◌, ◌++◌, All, length, codes, decimal, refl, sym, ap, ◌∙◌, arith, append_assoc, length-append}
use Rattle.std.specs.Prelude.{slice_index}
use Rattle.std.specs.List.{flat_map}
use Rattle.std.proofs.lemmas.List.{append_cancel_left}
use Rattle.std.proofs.lemmas.List.Elements.{All-head, All-tail}
use Rattle.std.proofs.lemmas.Fmt.{decimal_injective, decimal_is_IsNumeral, decimal_nonempty}
use Rattle.std.proofs.lemmas.Str.Parse.{digit_at}
use Rattle.cell_net.specs.declared.cells.End.{End}
use Rattle.cell_net.specs.declared.cells.End.TheVariants.{Low, High}
use Rattle.derivation_log.specs.Text.{step_text, IsInRange}
use Rattle.derivation_log.specs.declared.step.Step.{Step}
use Rattle.derivation_log.specs.declared.step.Bound.{Bound}
use Rattle.derivation_log.specs.declared.step.Bound.TheVariants.{Given, AtMost}
use Rattle.derivation_log.proofs.StepLemmas.{step_read_once}
use Rattle.vss_names.specs.Names.{IsName}
use Rattle.vss_text.specs.Reading.{IsReadOnce}
use Rattle.vss_text.proofs.NumberLaws.{number_one_reading}
use Rattle.vss_text.proofs.LineLaws.{word_same}
use Rattle.vss_report.specs.Lines.{ReportLine, PlaceName, CellName, cut, joint, header, verdict_done, verdict_impossible, verdict_spent, conflicts, best_none, count, border, run, sweep, smaller_none, refutes, step, end_line, line_kind, sign, cell_text, spaced, place_text, bound_text, line_text, full_text, text_of_lines, IsSpelledPlace, IsSpelledCell, IsSpelledBound, IsSpelled}
use Rattle.vss_report.proofs.LineTexts.{same_kind, line_plain, name_lacks}

sign_byte : End → ℕ
sign_byte Low = 45
sign_byte High = 43

sign_is : (end : End) → sign end ≡ sign_byte end ∷ []
unfolding sign_byte
sign_is Low = refl
sign_is High = refl

sign_low : (end : End) → sign_byte end < 48
unfolding sign_byte
sign_low Low = omega arith
sign_low High = omega arith

sign_once : (one other : End) → sign_byte one ≡ sign_byte other → one ≡ other
unfolding sign_byte
sign_once Low Low same = refl
sign_once High High same = refl
sign_once Low High same = absurd (omega (arith, same))
sign_once High Low same = absurd (omega (arith, same))

cell_parts : (cell : CellName) (rest : List ℕ) → cell_text cell ++ rest ≡ cell.track ++ 58 ∷ (decimal cell.index ++ sign_byte cell.end ∷ rest)
cell_parts cell rest =
    append_assoc cell.track (58 ∷ (decimal cell.index ++ sign cell.end)) rest
    ∙ ap (λ back. cell.track ++ 58 ∷ back) (append_assoc (decimal cell.index) (sign cell.end) rest ∙ ap (λ s. decimal cell.index ++ (s ++ rest)) (sign_is cell.end))

-- no text begins with two cells
pub cell_read_once : IsReadOnce IsSpelledCell cell_text
unfolding IsReadOnce
cell_read_once = λ one other rest rest' fits fits' same.
    let track = word_same 58 one.track other.track (decimal one.index ++ sign_byte one.end ∷ rest) (decimal other.index ++ sign_byte other.end ∷ rest')
    (name_lacks 58 one.track refl fits.track) (name_lacks 58 other.track refl fits'.track) (sym (cell_parts one rest) ∙ (same ∙ cell_parts other rest')) in
    let number = number_one_reading (sign_byte one.end) (sign_byte other.end) one.index other.index rest rest' (sign_low one.end) (sign_low other.end) fits.index fits'.index track.1 in
    let ends = sign_once one.end other.end number.1 in
    (λ i. record { track = track.0 i; index = number.0 i; end = ends i }, number.2)

-- no text is that of two lists of cells
pub cells_once : (one other : List CellName) → All IsSpelledCell one → All IsSpelledCell other → flat_map spaced one ≡ flat_map spaced other → one ≡ other
unfolding IsReadOnce
cells_once [] [] fits fits' same = refl
cells_once [] (cell ∷ other) fits fits' same = absurd (let never : [] ≡ 32 ∷ (cell_text cell ++ flat_map spaced other) = same in cc)
cells_once (cell ∷ one) [] fits fits' same = absurd (let never : 32 ∷ (cell_text cell ++ flat_map spaced one) ≡ [] = same in cc)
cells_once (cell ∷ one) (cell' ∷ other) fits fits' same =
    let inner : cell_text cell ++ flat_map spaced one ≡ cell_text cell' ++ flat_map spaced other = append_cancel_left (32 ∷ []) (cell_text cell ++ flat_map spaced one) (cell_text cell' ++ flat_map spaced other) same in
    let first = cell_read_once cell cell' (flat_map spaced one) (flat_map spaced other) (All-head IsSpelledCell cell one fits) (All-head IsSpelledCell cell' other fits') inner in
    let more : one ≡ other = cells_once one other (All-tail IsSpelledCell cell one fits) (All-tail IsSpelledCell cell' other fits') first.1 in
    let same_first : cell ≡ cell' = first.0 in
    cc

named_number : (name name' : List ℕ) (n n' : ℕ) → IsName name → IsName name' → n < 2 ^ 64 → n' < 2 ^ 64 → name ++ (codes " " ++ decimal n) ≡ name' ++ (codes " " ++ decimal n') → (name ≡ name') × (n ≡ n')
named_number name name' n n' fits fits' small small' same =
    let first = word_same 32 name name' (decimal n) (decimal n') (name_lacks 32 name refl fits) (name_lacks 32 name' refl fits') same in
    (first.0, decimal_injective n n' small small' first.1)

places_once : (one other : PlaceName) → IsSpelledPlace one → IsSpelledPlace other → place_text one ≡ place_text other → one ≡ other
places_once (cut track at_m) (cut track' at_m') fits fits' same =
    let parts = named_number track track' at_m at_m' fits.0 fits'.0 (omega (arith, fits.1)) (omega (arith, fits'.1)) (append_cancel_left (codes "cut ") (track ++ (codes " " ++ decimal at_m)) (track' ++ (codes " " ++ decimal at_m')) same) in
    ap (λ t. cut t at_m) parts.0 ∙ ap (cut track') parts.1
places_once (joint name) (joint name') fits fits' same = ap joint (append_cancel_left (codes "joint ") name name' same)
places_once (cut track at_m) (joint name) fits fits' same = absurd (omega (arith, ap (λ b. slice_index b 0) same))
places_once (joint name) (cut track at_m) fits fits' same = absurd (omega (arith, ap (λ b. slice_index b 0) same))

digit_first : (n : ℕ) → n < 2 ^ 64 → slice_index (decimal n) 0 ≤ 57
digit_first n small = (digit_at (decimal n) 0 (decimal_is_IsNumeral n small).0.1 (decimal_nonempty n small)).1

bounds_once : (one other : Bound) → IsSpelledBound one → IsSpelledBound other → bound_text one ≡ bound_text other → one ≡ other
bounds_once Given Given fits fits' same = refl
bounds_once (AtMost k) (AtMost k') fits fits' same = ap AtMost (decimal_injective k k' (omega arith) (omega arith) same)
bounds_once Given (AtMost k) fits fits' same = absurd (omega (arith, digit_first k (omega arith), ap (λ b. slice_index b 0) same))
bounds_once (AtMost k) Given fits fits' same = absurd (omega (arith, digit_first k (omega arith), ap (λ b. slice_index b 0) same))

steps_once : (one other : Step) → IsInRange one → IsInRange other → step_text one ≡ step_text other → one ≡ other
unfolding IsReadOnce
steps_once one other range range' same = (step_read_once one other [] [] range range' (ap (λ b. b ++ []) same)).0

-- lines of one kind and text are one
texts_once : (one other : ReportLine) → line_kind one ≡ line_kind other → IsSpelled one → IsSpelled other → line_text one ≡ line_text other → one ≡ other
texts_once header header kinds fits fits' same = refl
texts_once verdict_done verdict_done kinds fits fits' same = refl
texts_once verdict_impossible verdict_impossible kinds fits fits' same = refl
texts_once verdict_spent verdict_spent kinds fits fits' same = refl
texts_once (conflicts n) (conflicts n') kinds fits fits' same = ap conflicts (decimal_injective n n' (omega arith) (omega arith) (append_cancel_left (codes "conflicts ") (decimal n) (decimal n') same))
texts_once best_none best_none kinds fits fits' same = refl
texts_once (count n) (count n') kinds fits fits' same = ap count (decimal_injective n n' (omega arith) (omega arith) (append_cancel_left (codes "design ") (decimal n) (decimal n') same))
texts_once (border place) (border place') kinds fits fits' same = ap border (places_once place place' fits fits' (append_cancel_left (codes "border ") (place_text place) (place_text place') same))
texts_once (run train start) (run train' start') kinds fits fits' same =
    let parts = named_number train train' start start' fits.0 fits'.0 (omega (arith, fits.1)) (omega (arith, fits'.1)) (append_cancel_left (codes "run ") (train ++ (codes " " ++ decimal start)) (train' ++ (codes " " ++ decimal start')) same) in
    ap (λ t. run t start) parts.0 ∙ ap (run train') parts.1
texts_once (sweep cells) (sweep cells') kinds fits fits' same = ap sweep (cells_once cells cells' fits.1 fits'.1 (append_cancel_left (codes "sweep") (flat_map spaced cells) (flat_map spaced cells') same))
texts_once smaller_none smaller_none kinds fits fits' same = refl
texts_once (refutes bound) (refutes bound') kinds fits fits' same = ap refutes (bounds_once bound bound' fits fits' (append_cancel_left (codes "refutes ") (bound_text bound) (bound_text bound') same))
texts_once (step s) (step s') kinds fits fits' same = ap step (steps_once s s' fits fits' same)
texts_once end_line end_line kinds fits fits' same = refl
texts_once one other kinds fits fits' same = absurd (cc)

-- no text begins with two lines
pub line_read_once : IsReadOnce IsSpelled full_text
unfolding IsReadOnce
line_read_once = λ one other rest rest' fits fits' same.
    let bodies = word_same 10 (line_text one) (line_text other) rest rest' (line_plain one fits) (line_plain other fits') (sym (append_assoc (line_text one) (10 ∷ []) rest) ∙ (same ∙ append_assoc (line_text other) (10 ∷ []) rest')) in
    (texts_once one other (same_kind one other rest rest' same) fits fits' bodies.0, bodies.1)

-- what is left of lines behind others that were read
pub record GoesOn (done lines : List ReportLine) (left : List ℕ) : Type 0 where
  pub later : List ReportLine
  pub is_more : lines ≡ done ++ later
  pub is_left : left ≡ text_of_lines later
  pub spelled : All IsSpelled later

pub goes_on : (done lines : List ReportLine) (left : List ℕ) → All IsSpelled done → All IsSpelled lines → text_of_lines done ++ left ≡ text_of_lines lines → GoesOn done lines left
unfolding IsReadOnce
goes_on [] lines left fits fits' same = record { later = lines; is_more = refl; is_left = same; spelled = fits' }
goes_on (l ∷ done) [] left fits fits' same = absurd (omega (arith, ap length same, length-append (full_text l ++ text_of_lines done) left, length-append (full_text l) (text_of_lines done), length-append (line_text l) (10 ∷ [])))
goes_on (l ∷ done) (l' ∷ lines) left fits fits' same =
    let first = line_read_once l l' (text_of_lines done ++ left) (text_of_lines lines) (All-head IsSpelled l done fits) (All-head IsSpelled l' lines fits') (sym (append_assoc (full_text l) (text_of_lines done) left) ∙ same) in
    let more = goes_on done lines left (All-tail IsSpelled l done fits) (All-tail IsSpelled l' lines fits') first.1 in
    let same_first : l ≡ l' = first.0 in
    let same_more : lines ≡ done ++ more.later = more.is_more in
    record { later = more.later; is_more = cc; is_left = more.is_left; spelled = more.spelled }
