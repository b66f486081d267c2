-- A text has one design for a scene, or one fault.
use Rattle.std.proofs.Common.{◌≡◌, ◌≢◌, ◌<◌, ◌+◌, inl, inr, ℕ, true, false, List, [], ◌∷◌, ◌++◌, All, Some, slice_get, length, map, refl, sym, ap, subst, ◌∙◌, arith, append_assoc, append-nil, length-append}
use Rattle.std.specs.Prelude.{Contains, Ok, Err}
use Rattle.std.proofs.lemmas.List.Elements.{All-head, All-tail}
use Rattle.cell_net.specs.Labelled.{AreLabels}
use Rattle.cell_net.specs.declared.cells.DirCell.{DirCell}
use Rattle.cell_net.specs.declared.ids.CandidateId.{CandidateId}
use Rattle.cell_net.specs.declared.labels.Labels.{Labels}
use Rattle.cell_net.specs.declared.plans.Plan.{Plan}
use Rattle.cell_net.specs.declared.plans.Sweep.{Sweep}
use Rattle.cell_net.specs.declared.plans.TrainRun.{TrainRun}
use Rattle.vss_text.specs.Reading.{IsReadOnce}
use Rattle.vss_report.specs.DesignFaults.{IsPlaceNumber, HasCells, HasCellsOfRun, StatesDesign, FaultyAt, GoesWrongFirst, IsDesignFault, HasOneDesignReading}
use Rattle.vss_report.specs.Designs.{sweep_line, lines_of_runs, has_design, borders_in, runs_in, runs_begun}
use Rattle.vss_report.specs.Fits.{LineFits, FitBehind, LinesFit, IsOutOfOrder, NamesUnknown}
use Rattle.vss_report.specs.Lines.{ReportLine, CellName, border, run, sweep, smaller_none, refutes, end_line, line_kind, line_text, full_text, text_of_lines, IsSpelled}
use Rattle.vss_report.specs.Names.{train_name, cell_named, place_named}
use Rattle.vss_report.specs.Places.{kinds_at, IsAmong, MayStand, LinesLead, EndsReport}
use Rattle.vss_report.specs.declared.fault.ReportFault.{ReportFault}
use Rattle.vss_report.specs.declared.fault.ReportFault.TheVariants.{BadLine, UnknownName, NoPart, Memory}
use Rattle.vss_report.specs.declared.place.Place.{Place}
use Rattle.vss_report.specs.declared.place.Place.TheVariants.{Start}
use Rattle.vss_report.proofs.LineReadings.{line_read_once}
use Rattle.vss_report.proofs.NameLemmas.{place_same, cell_same}
use Rattle.vss_report.proofs.Placed.{at_place}
use Rattle.vss_report.proofs.PlaceLemmas.{leads_on}
use Rattle.vss_report.proofs.OneFault.{no_bad_line, one_bad_line}

-- two readings of the lines of one text: the same, or the one goes on behind the other
data Compared (lines other : List ReportLine) (left left' : List ℕ) : Type 0 where
  same : lines ≡ other → left ≡ left' → Compared lines other left left'
  longer : (l : ReportLine) (more : List ReportLine) → lines ≡ other ++ (l ∷ more) → left' ≡ full_text l ++ (text_of_lines more ++ left) → IsSpelled l → Compared lines other left left'
  shorter : (l : ReportLine) (more : List ReportLine) → other ≡ lines ++ (l ∷ more) → left ≡ full_text l ++ (text_of_lines more ++ left') → IsSpelled l → Compared lines other left left'

behind_first : (l : ReportLine) (lines : List ReportLine) (left : List ℕ) → text_of_lines (l ∷ lines) ++ left ≡ full_text l ++ (text_of_lines lines ++ left)
behind_first l lines left = append_assoc (full_text l) (text_of_lines lines) left

compare : (lines other : List ReportLine) (left left' : List ℕ) → All IsSpelled lines → All IsSpelled other → text_of_lines lines ++ left ≡ text_of_lines other ++ left' → Compared lines other left left'
unfolding IsReadOnce
compare [] [] left left' fits fits' text = same refl text
compare (l ∷ more) [] left left' fits fits' text = longer l more refl (sym text ∙ behind_first l more left) (All-head IsSpelled l more fits)
compare [] (l ∷ more) left left' fits fits' text = shorter l more refl (text ∙ behind_first l more left') (All-head IsSpelled l more fits')
compare (l ∷ lines) (m ∷ other) left left' fits fits' text =
    let first = line_read_once l m (text_of_lines lines ++ left) (text_of_lines other ++ left') (All-head IsSpelled l lines fits) (All-head IsSpelled m other fits') (sym (behind_first l lines left) ∙ (text ∙ behind_first m other left')) in
    on first.0 (compare lines other left left' (All-tail IsSpelled l lines fits) (All-tail IsSpelled m other fits') first.1)
  where
    on : l ≡ m → Compared lines other left left' → Compared (l ∷ lines) (m ∷ other) left left'
    on first (same is rest) = same (ap (λ x. x ∷ lines) first ∙ ap (λ xs. m ∷ xs) is) rest
    on first (longer x more is rest spelled) = longer x more (ap (λ x. x ∷ lines) first ∙ ap (λ xs. m ∷ xs) is) rest spelled
    on first (shorter x more is rest spelled) = shorter x more (ap (λ x. x ∷ other) (sym first) ∙ ap (λ xs. l ∷ xs) is) rest spelled

-- what is left of two readings that lead to one place
some_left : (l : ReportLine) (rest : List ℕ) → [] ≢ full_text l ++ rest
some_left l rest is = omega (arith, ap length is, length-append (line_text l ++ 10 ∷ []) rest, length-append (line_text l) (10 ∷ []))

fit_at : (labels : Labels) (before lines more : List ReportLine) (l : ReportLine) → FitBehind labels before (lines ++ (l ∷ more)) → LineFits labels (before ++ lines) l
fit_at labels before [] more l fit = subst (λ ls. LineFits labels ls l) (sym (append-nil before)) fit.0
fit_at labels before (x ∷ lines) more l fit = subst (λ ls. LineFits labels ls l) (append_assoc before (x ∷ []) lines) (fit_at labels (before ++ x ∷ []) lines more l fit.1)

may_at : (from at to : Place) (lines more : List ReportLine) (l : ReportLine) → LinesLead from lines at → LinesLead from (lines ++ (l ∷ more)) to → IsAmong (kinds_at at) (line_kind l)
may_at from at to lines more l first all = (leads_on from at to lines (l ∷ more) first all).0

same_place : (from at to : Place) (lines other : List ReportLine) → lines ≡ other → LinesLead from lines at → LinesLead from other to → at ≡ to
same_place from at to lines other is first second = leads_on from at to lines [] first (subst (λ ls. LinesLead from ls to) (sym is ∙ sym (append-nil lines)) second)

contains_at : (items : List (List ℕ)) (k : ℕ) (item : List ℕ) → slice_get items k ≡ Some item → Contains items item
contains_at items k item is = let at = at_place items k item is in (k, at.0, at.1 item)

-- a line that fits isn't out of order, and names nothing unknown
fits_in_order : (labels : Labels) (before : List ReportLine) (l : ReportLine) → AreLabels labels → LineFits labels before l → IsOutOfOrder labels before l → ⊥
fits_in_order labels before (border name) good fits wrong =
    let one : fits.candidate ≡ wrong.candidate = place_same labels name fits.candidate wrong.candidate good fits.is_place wrong.is_place in
    omega (arith, fits.above wrong.last wrong.is_last, wrong.low, ap (λ (c : CandidateId). c.0) one)
fits_in_order labels before (run train start) good fits wrong = wrong.not_next fits
fits_in_order labels before smaller_none good fits wrong = wrong fits
fits_in_order labels before (refutes bound) good fits wrong = wrong fits
fits_in_order labels before end_line good fits wrong = wrong fits
fits_in_order labels before l good fits wrong = absurd wrong

fits_known : (labels : Labels) (before : List ReportLine) (l : ReportLine) → LineFits labels before l → NamesUnknown labels before l → ⊥
fits_known labels before (border name) fits unknown = unknown fits.candidate fits.is_place
fits_known labels before (run train start) fits unknown = unknown.unknown (contains_at labels.trains (runs_begun before) train fits)
fits_known labels before (sweep cells) fits unknown = unknown fits
fits_known labels before l fits unknown = absurd unknown

order_or_known : (labels : Labels) (before : List ReportLine) (l : ReportLine) → IsOutOfOrder labels before l → NamesUnknown labels before l → ⊥
order_or_known labels before (border name) wrong unknown = unknown wrong.candidate wrong.is_place
order_or_known labels before (run train start) wrong unknown = elim wrong.known [
  | inl past ↦ omega (arith, past, unknown.due)
  | inr known ↦ unknown.unknown known
]
order_or_known labels before (sweep cells) wrong unknown = absurd wrong
order_or_known labels before l wrong unknown = absurd unknown

-- two faults of lines of one text are faults of one line
record MeetAt (F G : List ReportLine → ReportLine → Type 0) (n m : ℕ) : Type 0 where
  before : List ReportLine
  line : ReportLine
  one : F before line
  other : G before line
  same_number : n ≡ m

one_text : (bytes : List ℕ) (one other : List ℕ) → bytes ≡ one → bytes ≡ other → one ≡ other
one_text bytes one other is is' = sym is ∙ is'

same_line : (l m : ReportLine) (rest rest' : List ℕ) → IsSpelled l → IsSpelled m → full_text l ++ rest ≡ full_text m ++ rest' → l ≡ m
unfolding IsReadOnce
same_line l m rest rest' fits fits' text = (line_read_once l m rest rest' fits fits' text).0

faults_meet : (F G : List ReportLine → ReportLine → Type 0) (labels : Labels) (bytes : List ℕ) (n m : ℕ) → ((before : List ReportLine) (l : ReportLine) → LineFits labels before l → F before l → ⊥) → ((before : List ReportLine) (l : ReportLine) → LineFits labels before l → G before l → ⊥)
    → FaultyAt F labels bytes n → FaultyAt G labels bytes m → MeetAt F G n m
faults_meet F G labels bytes n m fits_F fits_G one other =
    by_lines (compare one.before.lines other.before.lines one.before.left other.before.left one.before.spelled other.before.spelled
    (one_text bytes (text_of_lines one.before.lines ++ one.before.left) (text_of_lines other.before.lines ++ other.before.left) one.before.begins other.before.begins))
  where
    by_lines : Compared one.before.lines other.before.lines one.before.left other.before.left → MeetAt F G n m
    by_lines (same is rest) =
        let line_is : one.line ≡ other.line = same_line one.line other.line one.behind other.behind one.may_stand.spelled other.may_stand.spelled (sym one.is_next ∙ (rest ∙ other.is_next)) in
        record {
          before = one.before.lines;
          line = one.line;
          one = one.fault;
          other = subst (λ ls. G ls one.line) (sym is) (subst (λ x. G other.before.lines x) (sym line_is) other.fault);
          same_number = omega (arith, one.counted, other.counted, ap length is);
        }
    by_lines (longer x more is rest spelled) =
        let line_is : other.line ≡ x = same_line other.line x other.behind (text_of_lines more ++ one.before.left) other.may_stand.spelled spelled (sym other.is_next ∙ rest) in
        absurd (fits_G other.before.lines other.line (subst (LineFits labels other.before.lines) (sym line_is) (fit_at labels [] other.before.lines more x (subst (LinesFit labels) is one.before.fit))) other.fault)
    by_lines (shorter x more is rest spelled) =
        let line_is : one.line ≡ x = same_line one.line x one.behind (text_of_lines more ++ other.before.left) one.may_stand.spelled spelled (sym one.is_next ∙ rest) in
        absurd (fits_F one.before.lines one.line (subst (LineFits labels one.before.lines) (sym line_is) (fit_at labels [] one.before.lines more x (subst (LinesFit labels) is other.before.fit))) one.fault)

-- a text that goes wrong first has no line with a fault
wrong_meets : (F : List ReportLine → ReportLine → Type 0) (labels : Labels) (bytes : List ℕ) (n m : ℕ) → ((before : List ReportLine) (l : ReportLine) → LineFits labels before l → F before l → ⊥) → GoesWrongFirst labels bytes n → FaultyAt F labels bytes m → ⊥
wrong_meets F labels bytes n m fits_F one other =
    by_lines (compare one.before.lines other.before.lines one.before.left other.before.left one.before.spelled other.before.spelled
    (one_text bytes (text_of_lines one.before.lines ++ one.before.left) (text_of_lines other.before.lines ++ other.before.left) one.before.begins other.before.begins))
  where
    by_lines : Compared one.before.lines other.before.lines one.before.left other.before.left → ⊥
    by_lines (same is rest) =
        let at : one.before.at ≡ other.before.at = same_place Start one.before.at other.before.at one.before.lines other.before.lines is one.before.leads other.before.leads in
        one.all other.line other.behind (subst (λ p. MayStand p other.line) (sym at) other.may_stand) (rest ∙ other.is_next)
    by_lines (longer x more is rest spelled) =
        let line_is : other.line ≡ x = same_line other.line x other.behind (text_of_lines more ++ one.before.left) other.may_stand.spelled spelled (sym other.is_next ∙ rest) in
        fits_F other.before.lines other.line (subst (LineFits labels other.before.lines) (sym line_is) (fit_at labels [] other.before.lines more x (subst (LinesFit labels) is one.before.fit))) other.fault
    by_lines (shorter x more is rest spelled) =
        one.all x (text_of_lines more ++ other.before.left)
        (record { spelled = spelled; among = may_at Start one.before.at other.before.at one.before.lines more x one.before.leads (subst (λ ls. LinesLead Start ls other.before.at) is other.before.leads) }) rest

-- a report whose lines fit has no line with a fault
report_meets : (F : List ReportLine → ReportLine → Type 0) (labels : Labels) (bytes : List ℕ) (m : ℕ) → ((before : List ReportLine) (l : ReportLine) → LineFits labels before l → F before l → ⊥) → (report : EndsReport Start bytes) → LinesFit labels report.lines → FaultyAt F labels bytes m → ⊥
report_meets F labels bytes m fits_F report fit other =
    by_lines (compare report.lines other.before.lines [] other.before.left report.spelled other.before.spelled
    (one_text bytes (text_of_lines report.lines ++ []) (text_of_lines other.before.lines ++ other.before.left) (report.text ∙ sym (append-nil (text_of_lines report.lines))) other.before.begins))
  where
    by_lines : Compared report.lines other.before.lines [] other.before.left → ⊥
    by_lines (same is rest) = some_left other.line other.behind (rest ∙ other.is_next)
    by_lines (longer x more is rest spelled) =
        let line_is : other.line ≡ x = same_line other.line x other.behind (text_of_lines more ++ []) other.may_stand.spelled spelled (sym other.is_next ∙ rest) in
        fits_F other.before.lines other.line (subst (LineFits labels other.before.lines) (sym line_is) (fit_at labels [] other.before.lines more x (subst (LinesFit labels) is fit))) other.fault
    by_lines (shorter x more is rest spelled) = some_left x (text_of_lines more ++ other.before.left) rest

-- two readings of a report have the same lines
pub one_report : (bytes : List ℕ) → (one other : EndsReport Start bytes) → one.lines ≡ other.lines
one_report bytes one other =
    by_lines (compare one.lines other.lines [] [] one.spelled other.spelled (one_text bytes (text_of_lines one.lines ++ []) (text_of_lines other.lines ++ []) (one.text ∙ sym (append-nil (text_of_lines one.lines))) (other.text ∙ sym (append-nil (text_of_lines other.lines)))))
  where
    by_lines : Compared one.lines other.lines [] [] → one.lines ≡ other.lines
    by_lines (same is rest) = is
    by_lines (longer x more is rest spelled) = absurd (some_left x (text_of_lines more ++ []) rest)
    by_lines (shorter x more is rest spelled) = absurd (some_left x (text_of_lines more ++ []) rest)

borders_once : (labels : Labels) (bs cs : List CandidateId) → AreLabels labels → All (IsPlaceNumber labels) bs → All (IsPlaceNumber labels) cs → map (place_named labels) bs ≡ map (place_named labels) cs → bs ≡ cs
borders_once labels [] [] good fits fits' names = refl
borders_once labels [] (c ∷ cs) good fits fits' names = absurd (omega (arith, ap length names))
borders_once labels (b ∷ bs) [] good fits fits' names = absurd (omega (arith, ap length names))
borders_once labels (b ∷ bs) (c ∷ cs) good fits fits' names =
    let first : place_named labels b ≡ place_named labels c = cc in
    let more : map (place_named labels) bs ≡ map (place_named labels) cs = cc in
    let one : b ≡ c = place_same labels (place_named labels c) b c good (record { within = All-head (IsPlaceNumber labels) b bs fits; named = first }) (record { within = All-head (IsPlaceNumber labels) c cs fits'; named = refl }) in
    ap (λ x. x ∷ bs) one ∙ ap (λ xs. c ∷ xs) (borders_once labels bs cs good (All-tail (IsPlaceNumber labels) b bs fits) (All-tail (IsPlaceNumber labels) c cs fits') more)

abbrev IsCell : Labels → DirCell → Type 0
IsCell labels d = d.cell.0 < length labels.cells

cells_same : (labels : Labels) (ds es : List DirCell) → AreLabels labels → All (IsCell labels) ds → All (IsCell labels) es → map (cell_named labels) ds ≡ map (cell_named labels) es → ds ≡ es
cells_same labels [] [] good fits fits' names = refl
cells_same labels [] (e ∷ es) good fits fits' names = absurd (omega (arith, ap length names))
cells_same labels (d ∷ ds) [] good fits fits' names = absurd (omega (arith, ap length names))
cells_same labels (d ∷ ds) (e ∷ es) good fits fits' names =
    let first : cell_named labels d ≡ cell_named labels e = cc in
    let more : map (cell_named labels) ds ≡ map (cell_named labels) es = cc in
    let one : d ≡ e = cell_same labels (cell_named labels e) d e good (record { within = All-head (IsCell labels) d ds fits; named = first }) (record { within = All-head (IsCell labels) e es fits'; named = refl }) in
    ap (λ x. x ∷ ds) one ∙ ap (λ xs. e ∷ xs) (cells_same labels ds es good (All-tail (IsCell labels) d ds fits) (All-tail (IsCell labels) e es fits') more)

-- lines that no sweep begins
BeginsNoSweep : List ReportLine → Type 0
BeginsNoSweep lines = (cells : List CellName) (more : List ReportLine) → lines ≢ sweep cells ∷ more

runs_no_sweep : (labels : Labels) (train : ℕ) (rs : List TrainRun) → BeginsNoSweep (lines_of_runs labels train rs)
unfolding BeginsNoSweep
runs_no_sweep labels train [] cells more is = cc
runs_no_sweep labels train (r ∷ rs) cells more is = cc

swept : (cells cells' : List CellName) (more more' : List ReportLine) → sweep cells ∷ more ≡ sweep cells' ∷ more' → (cells ≡ cells') × (more ≡ more')
swept cells cells' more more' is = let first : sweep cells ≡ sweep cells' = cc in (cc, cc)

sweeps_once : (labels : Labels) (ss ts : List Sweep) (more more' : List ReportLine) → AreLabels labels → All (HasCells labels) ss → All (HasCells labels) ts → BeginsNoSweep more → BeginsNoSweep more'
    → map (sweep_line labels) ss ++ more ≡ map (sweep_line labels) ts ++ more' → (ss ≡ ts) × (more ≡ more')
unfolding BeginsNoSweep
sweeps_once labels [] [] more more' good fits fits' none none' is = (refl, is)
sweeps_once labels [] (t ∷ ts) more more' good fits fits' none none' is = absurd (none (map (cell_named labels) t.cells) (map (sweep_line labels) ts ++ more') is)
sweeps_once labels (s ∷ ss) [] more more' good fits fits' none none' is = absurd (none' (map (cell_named labels) s.cells) (map (sweep_line labels) ss ++ more) (sym is))
sweeps_once labels (s ∷ ss) (t ∷ ts) more more' good fits fits' none none' is =
    let parts = swept (map (cell_named labels) s.cells) (map (cell_named labels) t.cells) (map (sweep_line labels) ss ++ more) (map (sweep_line labels) ts ++ more') is in
    let cells : s.cells ≡ t.cells = cells_same labels s.cells t.cells good (All-head (HasCells labels) s ss fits) (All-head (HasCells labels) t ts fits') parts.0 in
    let one : s ≡ t = λ i. record { cells = cells i } in
    let others = sweeps_once labels ss ts more more' good (All-tail (HasCells labels) s ss fits) (All-tail (HasCells labels) t ts fits') none none' parts.1 in
    (ap (λ x. x ∷ ss) one ∙ ap (λ xs. t ∷ xs) others.0, others.1)

begun_alike : (train train' : List ℕ) (start start' : ℕ) (more more' : List ReportLine) → run train start ∷ more ≡ run train' start' ∷ more' → (start ≡ start') × (more ≡ more')
begun_alike train train' start start' more more' is = let first : run train start ≡ run train' start' = cc in (cc, cc)

runs_once : (labels : Labels) (train : ℕ) (rs qs : List TrainRun) → AreLabels labels → All (HasCellsOfRun labels) rs → All (HasCellsOfRun labels) qs → lines_of_runs labels train rs ≡ lines_of_runs labels train qs → rs ≡ qs
runs_once labels train [] [] good fits fits' is = refl
runs_once labels train [] (q ∷ qs) good fits fits' is = absurd (omega (arith, ap length is))
runs_once labels train (r ∷ rs) [] good fits fits' is = absurd (omega (arith, ap length is))
runs_once labels train (r ∷ rs) (q ∷ qs) good fits fits' is =
    let parts = begun_alike (train_name labels (record { 0 = train })) (train_name labels (record { 0 = train })) r.start q.start (map (sweep_line labels) r.sweeps ++ lines_of_runs labels (train + 1) rs) (map (sweep_line labels) q.sweeps ++ lines_of_runs labels (train + 1) qs) is in
    let sweeps = sweeps_once labels r.sweeps q.sweeps (lines_of_runs labels (train + 1) rs) (lines_of_runs labels (train + 1) qs) good (All-head (HasCellsOfRun labels) r rs fits) (All-head (HasCellsOfRun labels) q qs fits')
    (runs_no_sweep labels (train + 1) rs) (runs_no_sweep labels (train + 1) qs) parts.1 in
    let starts : r.start ≡ q.start = parts.0 in
    let swept : r.sweeps ≡ q.sweeps = sweeps.0 in
    let one : r ≡ q = λ i. record { start = starts i; sweeps = swept i } in
    ap (λ x. x ∷ rs) one ∙ ap (λ xs. q ∷ xs) (runs_once labels (train + 1) rs qs good (All-tail (HasCellsOfRun labels) r rs fits) (All-tail (HasCellsOfRun labels) q qs fits') sweeps.1)

-- a text states one design
pub one_design : (labels : Labels) (bytes : List ℕ) (borders others : List CandidateId) (plan other : Plan) → AreLabels labels → StatesDesign labels bytes borders plan → StatesDesign labels bytes others other → (borders ≡ others) × (plan ≡ other)
one_design labels bytes borders others plan other good one also =
    let lines = one_report bytes one.report also.report in
    let runs : plan.runs ≡ other.runs = runs_once labels 0 plan.runs other.runs good one.cells also.cells (one.runs_are ∙ (ap runs_in lines ∙ sym also.runs_are)) in
    (borders_once labels borders others good one.places also.places (one.borders_are ∙ (ap borders_in lines ∙ sym also.borders_are)), λ i. record { runs = runs i })

-- a text that states a design, or states none, has no fault of a line
stated_no_fault : (labels : Labels) (bytes : List ℕ) (fault : ReportFault) → AreLabels labels → (report : EndsReport Start bytes) → LinesFit labels report.lines → fault ≢ NoPart → fault ≢ Memory → IsDesignFault labels bytes fault → ⊥
stated_no_fault labels bytes (BadLine n) good report fit other_part other_memory (inl wrong) = no_bad_line Start bytes n report wrong.wrong
stated_no_fault labels bytes (BadLine n) good report fit other_part other_memory (inr fault) = report_meets (IsOutOfOrder labels) labels bytes n (λ before l. fits_in_order labels before l good) report fit fault
stated_no_fault labels bytes (UnknownName n) good report fit other_part other_memory fault = report_meets (NamesUnknown labels) labels bytes n (fits_known labels) report fit fault
stated_no_fault labels bytes NoPart good report fit other_part other_memory fault = other_part refl
stated_no_fault labels bytes Memory good report fit other_part other_memory fault = other_memory refl

one_bad : (labels : Labels) (bytes : List ℕ) (n m : ℕ) → AreLabels labels → IsDesignFault labels bytes (BadLine n) → IsDesignFault labels bytes (BadLine m) → n ≡ m
one_bad labels bytes n m good (inl one) (inl other) = one_bad_line Start bytes n m one.wrong other.wrong
one_bad labels bytes n m good (inl one) (inr other) = absurd (wrong_meets (IsOutOfOrder labels) labels bytes n m (λ before l. fits_in_order labels before l good) one other)
one_bad labels bytes n m good (inr one) (inl other) = absurd (wrong_meets (IsOutOfOrder labels) labels bytes m n (λ before l. fits_in_order labels before l good) other one)
one_bad labels bytes n m good (inr one) (inr other) = (faults_meet (IsOutOfOrder labels) (IsOutOfOrder labels) labels bytes n m (λ before l. fits_in_order labels before l good) (λ before l. fits_in_order labels before l good) one other).same_number

bad_or_unknown : (labels : Labels) (bytes : List ℕ) (n m : ℕ) → AreLabels labels → IsDesignFault labels bytes (BadLine n) → IsDesignFault labels bytes (UnknownName m) → ⊥
bad_or_unknown labels bytes n m good (inl one) other = wrong_meets (NamesUnknown labels) labels bytes n m (fits_known labels) one other
bad_or_unknown labels bytes n m good (inr one) other =
    let both = faults_meet (IsOutOfOrder labels) (NamesUnknown labels) labels bytes n m (λ before l. fits_in_order labels before l good) (fits_known labels) one other in
    order_or_known labels both.before both.line both.one both.other

one_fault : (labels : Labels) (bytes : List ℕ) (one other : ReportFault) → AreLabels labels → one ≢ Memory → other ≢ Memory → IsDesignFault labels bytes one → IsDesignFault labels bytes other → one ≡ other
one_fault labels bytes Memory other good not_memory not_memory' fault fault' = absurd (not_memory refl)
one_fault labels bytes one Memory good not_memory not_memory' fault fault' = absurd (not_memory' refl)
one_fault labels bytes (BadLine n) (BadLine m) good not_memory not_memory' fault fault' = ap BadLine (one_bad labels bytes n m good fault fault')
one_fault labels bytes (BadLine n) (UnknownName m) good not_memory not_memory' fault fault' = absurd (bad_or_unknown labels bytes n m good fault fault')
one_fault labels bytes (UnknownName n) (BadLine m) good not_memory not_memory' fault fault' = absurd (bad_or_unknown labels bytes m n good fault' fault)
one_fault labels bytes (UnknownName n) (UnknownName m) good not_memory not_memory' fault fault' = ap UnknownName (faults_meet (NamesUnknown labels) (NamesUnknown labels) labels bytes n m (fits_known labels) (fits_known labels) fault fault').same_number
one_fault labels bytes NoPart NoPart good not_memory not_memory' fault fault' = refl
one_fault labels bytes NoPart (BadLine m) good not_memory not_memory' fault fault' = absurd (stated_no_fault labels bytes (BadLine m) good fault.report fault.fit (λ is. cc) not_memory' fault')
one_fault labels bytes NoPart (UnknownName m) good not_memory not_memory' fault fault' = absurd (stated_no_fault labels bytes (UnknownName m) good fault.report fault.fit (λ is. cc) not_memory' fault')
one_fault labels bytes (BadLine n) NoPart good not_memory not_memory' fault fault' = absurd (stated_no_fault labels bytes (BadLine n) good fault'.report fault'.fit (λ is. cc) not_memory fault)
one_fault labels bytes (UnknownName n) NoPart good not_memory not_memory' fault fault' = absurd (stated_no_fault labels bytes (UnknownName n) good fault'.report fault'.fit (λ is. cc) not_memory fault)

design_no_fault : (labels : Labels) (bytes : List ℕ) (borders : List CandidateId) (plan : Plan) (fault : ReportFault) → AreLabels labels → fault ≢ Memory → StatesDesign labels bytes borders plan → IsDesignFault labels bytes fault → ⊥
design_no_fault labels bytes borders plan NoPart good not_memory states none =
    let never : true ≡ false = sym states.begun ∙ (ap has_design (one_report bytes states.report none.report) ∙ none.nothing) in cc
design_no_fault labels bytes borders plan Memory good not_memory states fault = not_memory refl
design_no_fault labels bytes borders plan (BadLine n) good not_memory states fault = stated_no_fault labels bytes (BadLine n) good states.report states.fit (λ is. cc) not_memory fault
design_no_fault labels bytes borders plan (UnknownName n) good not_memory states fault = stated_no_fault labels bytes (UnknownName n) good states.report states.fit (λ is. cc) not_memory fault

pub one_reading : (labels : Labels) (bytes : List ℕ) → AreLabels labels → HasOneDesignReading labels bytes
one_reading labels bytes good (Ok one) (Ok other) not_memory not_memory' is is' =
    let same = one_design labels bytes one.0 other.0 one.1 other.1 good is is' in
    let pair : one ≡ other = λ i. (same.0 i, same.1 i) in
    ap Ok pair
one_reading labels bytes good (Ok one) (Err fault) not_memory not_memory' is is' = absurd (design_no_fault labels bytes one.0 one.1 fault good (λ e. not_memory' (ap Err e)) is is')
one_reading labels bytes good (Err fault) (Ok other) not_memory not_memory' is is' = absurd (design_no_fault labels bytes other.0 other.1 fault good (λ e. not_memory (ap Err e)) is' is)
one_reading labels bytes good (Err one) (Err other) not_memory not_memory' is is' = ap Err (one_fault labels bytes one other good (λ e. not_memory (ap Err e)) (λ e. not_memory' (ap Err e)) is is')
