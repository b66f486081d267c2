-- The lines of an outcome are spelled as a report's, and fit the scene.
use Rattle.std.proofs.Common.{◌≡◌, ◌<◌, ◌≤◌, ◌+◌, ℕ, suc, true, false, List, [], ◌∷◌, ◌++◌, All, Option, Some, None, slice_get, unwrap_or, length, map, refl, sym, ap, subst, ◌∙◌, arith, append_assoc, append-nil, length-append}
use Rattle.std.proofs.lemmas.List.Elements.{All-nil, All-cons, All-head, All-tail, All-append}
use Rattle.cell_net.specs.Borders.{RisesAt}
use Rattle.cell_net.specs.Labelled.{AreLabels, IsGoodPlace}
use Rattle.cell_net.specs.declared.cells.DirCell.{DirCell}
use Rattle.cell_net.specs.declared.ids.CandidateId.{CandidateId}
use Rattle.cell_net.specs.declared.labels.PlaceLabel.{PlaceLabel}
use Rattle.cell_net.specs.declared.labels.PlaceLabel.TheVariants.{Cut, Joint}
use Rattle.cell_net.specs.declared.labels.Labels.{Labels}
use Rattle.cell_net.specs.declared.plans.Plan.{Plan}
use Rattle.cell_net.specs.declared.plans.Sweep.{Sweep}
use Rattle.cell_net.specs.declared.plans.TrainRun.{TrainRun}
use Rattle.derivation_log.specs.Text.{IsInRange}
use Rattle.derivation_log.specs.declared.step.Refutation.{Refutation}
use Rattle.derivation_log.specs.declared.step.Step.{Step}
use Rattle.vss_lists.specs.Breaks.{HoldsOfEach}
use Rattle.vss_names.specs.Names.{IsName}
use Rattle.vss_text.specs.Numbers.{IsShort}
use Rattle.vss_report.specs.DesignFaults.{IsPlaceNumber}
use Rattle.vss_report.specs.Designs.{sweep_line, lines_of_run, lines_of_runs, has_design, borders_in, runs_begun}
use Rattle.vss_report.specs.Fits.{IsKnownCell, IsLastBorder, FitBehind, HasAllRuns}
use Rattle.vss_report.specs.Lines.{ReportLine, PlaceName, header, verdict_done, verdict_impossible, verdict_spent, conflicts, best_none, count, run, smaller_none, refutes, step, end_line, IsSpelledCell, IsSpelledPlace, IsSpelled}
use Rattle.vss_report.specs.Names.{train_name, labelled_cell, labelled_place, cell_named, place_named}
use Rattle.vss_report.specs.Outcomes.{border_line, lines_of_design, lines_of_refutation, lines_of_smaller, lines_of_best, lines_of_outcome}
use Rattle.vss_report.specs.Written.{IsShortPlace, HasShortNames, IsReportSweep, IsReportRun, IsReportDesign, IsReportRefutation, IsReportSmaller, IsReportBest, IsReportOutcome}
use Rattle.vss_report.specs.declared.outcome.Smaller.{Smaller}
use Rattle.vss_report.specs.declared.outcome.Smaller.TheVariants as smaller
use Rattle.vss_report.specs.declared.outcome.Outcome.{Outcome}
use Rattle.vss_report.specs.declared.outcome.Outcome.TheVariants as outcome
use Rattle.vss_report.proofs.DesignLines.{borders_in-append, runs_begun-append}
use Rattle.vss_report.proofs.NameLemmas.{place_same}
use Rattle.vss_report.proofs.Placed.{some_at, all_at}

-- what each item has, each of their lines has
all_mapped : {X Y : Type 0} (P : X → Type 0) (Q : Y → Type 0) (f : X → Y) (xs : List X) → ((x : X) → P x → Q (f x)) → All P xs → All Q (map f xs)
all_mapped P Q f [] each fit = All-nil Q
all_mapped P Q f (x ∷ xs) each fit = All-cons Q (f x) (map f xs) (each x (All-head P x xs fit)) (all_mapped P Q f xs each (All-tail P x xs fit))

named_at : (names : List (List ℕ)) (k : ℕ) → All IsName names → k < length names → IsName (unwrap_or (slice_get names k) [])
named_at names k fit within =
    let found = some_at names k within in
    subst (λ o. IsName (unwrap_or o [])) (sym found.1) (all_at IsName names k found.0 fit found.1)

place_spelled : (labels : Labels) (label : PlaceLabel) → AreLabels labels → IsGoodPlace (length labels.tracks) label → IsShortPlace label → IsSpelledPlace (labelled_place labels (Some label))
place_spelled labels (Cut track at) good fits short = (named_at labels.tracks track good.tracks_named (fits.cut track at refl), short)
place_spelled labels (Joint name) good fits short = fits.joint name refl

border_spelled : (labels : Labels) → AreLabels labels → HasShortNames labels → (b : CandidateId) → IsPlaceNumber labels b → IsSpelled (border_line labels b)
border_spelled labels good short b within =
    let found = some_at labels.places b.0 within in
    subst (λ o. IsSpelledPlace (labelled_place labels o)) (sym found.1)
    (place_spelled labels found.0 good (all_at (IsGoodPlace (length labels.tracks)) labels.places b.0 found.0 good.places found.1) (all_at IsShortPlace labels.places b.0 found.0 short.places found.1))

cell_spelled : (labels : Labels) → AreLabels labels → HasShortNames labels → (d : DirCell) → d.cell.0 < length labels.cells → IsSpelledCell (cell_named labels d)
cell_spelled labels good short d within =
    let found = some_at labels.cells d.cell.0 within in
    subst (λ o. IsSpelledCell (labelled_cell labels d.end o)) (sym found.1) (record {
      track = named_at labels.tracks found.0.track good.tracks_named (all_at (λ c. c.track < length labels.tracks) labels.cells d.cell.0 found.0 good.cell_tracks found.1);
      index = all_at (λ c. IsShort c.index) labels.cells d.cell.0 found.0 short.cells found.1;
    })

length-mapped : {X Y : Type 0} (f : X → Y) (xs : List X) → length (map f xs) ≡ length xs
length-mapped f [] = refl
length-mapped f (x ∷ xs) = omega (arith, length-mapped f xs)

sweep_spelled : (labels : Labels) → AreLabels labels → HasShortNames labels → (s : Sweep) → IsReportSweep labels s → IsSpelled (sweep_line labels s)
sweep_spelled labels good short s fit =
    (omega (arith, length-mapped (cell_named labels) s.cells, fit.not_empty), all_mapped (λ (d : DirCell). d.cell.0 < length labels.cells) IsSpelledCell (cell_named labels) s.cells (cell_spelled labels good short) fit.cells)

runs_spelled : (labels : Labels) (k : ℕ) (rs : List TrainRun) → AreLabels labels → HasShortNames labels → k + length rs ≤ length labels.trains → All (IsReportRun labels) rs → All IsSpelled (lines_of_runs labels k rs)
runs_spelled labels k [] good short few fit = All-nil IsSpelled
runs_spelled labels k (r ∷ rs) good short few fit =
    let first = All-head (IsReportRun labels) r rs fit in
    All-append IsSpelled (lines_of_run labels k r) (lines_of_runs labels (k + 1) rs)
    (All-cons IsSpelled (run (train_name labels (record { 0 = k })) r.start) (map (sweep_line labels) r.sweeps) (named_at labels.trains k good.trains_named (omega (arith, few)), first.start)
    (all_mapped (IsReportSweep labels) IsSpelled (sweep_line labels) r.sweeps (sweep_spelled labels good short) first.sweeps))
    (runs_spelled labels (k + 1) rs good short (omega (arith, few)) (All-tail (IsReportRun labels) r rs fit))

design_spelled : (labels : Labels) (bs : List CandidateId) (plan : Plan) → AreLabels labels → HasShortNames labels → IsReportDesign labels bs plan → All IsSpelled (lines_of_design labels bs plan)
design_spelled labels bs plan good short fit =
    All-cons IsSpelled (count (length bs)) (map (border_line labels) bs ++ lines_of_runs labels 0 plan.runs) fit.few
    (All-append IsSpelled (map (border_line labels) bs) (lines_of_runs labels 0 plan.runs) (all_mapped (IsPlaceNumber labels) IsSpelled (border_line labels) bs (border_spelled labels good short) fit.places)
    (runs_spelled labels 0 plan.runs good short (omega (arith, fit.one_run_each)) fit.runs))

refutation_spelled : (r : Refutation) → IsReportRefutation r → All IsSpelled (lines_of_refutation r)
refutation_spelled r fit = All-cons IsSpelled (refutes r.bound) (map step r.log.steps) fit.bound (all_mapped IsInRange IsSpelled step r.log.steps (λ s range. range) fit.steps)

one_spelled : (l : ReportLine) → IsSpelled l → All IsSpelled (l ∷ [])
one_spelled l fits = All-cons IsSpelled l [] fits (All-nil IsSpelled)

smaller_spelled : (s : Smaller) → IsReportSmaller s → All IsSpelled (lines_of_smaller s)
smaller_spelled smaller.NotAsked fit = All-nil IsSpelled
smaller_spelled smaller.Nothing fit = one_spelled smaller_none tt
smaller_spelled (smaller.Refuted r) fit = refutation_spelled r fit

best_spelled : (labels : Labels) (best : Option (List CandidateId × Plan)) → AreLabels labels → HasShortNames labels → IsReportBest labels best → All IsSpelled (lines_of_best labels best)
best_spelled labels None good short fit = one_spelled best_none tt
best_spelled labels (Some design) good short fit = design_spelled labels design.0 design.1 good short fit

end_spelled : (lines : List ReportLine) → All IsSpelled lines → All IsSpelled (lines ++ end_line ∷ [])
end_spelled lines fits = All-append IsSpelled lines (end_line ∷ []) fits (one_spelled end_line tt)

pub outcome_spelled : (labels : Labels) (o : Outcome) → AreLabels labels → HasShortNames labels → IsReportOutcome labels o → All IsSpelled (lines_of_outcome labels o)
outcome_spelled labels (outcome.Done d) good short fit =
    let design = lines_of_design labels d.layout d.plan in
    All-cons IsSpelled header (verdict_done ∷ ((design ++ lines_of_smaller d.smaller) ++ end_line ∷ [])) tt
    (All-cons IsSpelled verdict_done ((design ++ lines_of_smaller d.smaller) ++ end_line ∷ []) tt
    (end_spelled (design ++ lines_of_smaller d.smaller) (All-append IsSpelled design (lines_of_smaller d.smaller) (design_spelled labels d.layout d.plan good short fit.0) (smaller_spelled d.smaller fit.1))))
outcome_spelled labels (outcome.Impossible r) good short fit =
    All-cons IsSpelled header (verdict_impossible ∷ (lines_of_refutation r ++ end_line ∷ [])) tt
    (All-cons IsSpelled verdict_impossible (lines_of_refutation r ++ end_line ∷ []) tt (end_spelled (lines_of_refutation r) (refutation_spelled r fit)))
outcome_spelled labels (outcome.Spent n best) good short fit =
    All-cons IsSpelled header (verdict_spent ∷ (conflicts n ∷ (lines_of_best labels best ++ end_line ∷ []))) tt
    (All-cons IsSpelled verdict_spent (conflicts n ∷ (lines_of_best labels best ++ end_line ∷ [])) tt
    (All-cons IsSpelled (conflicts n) (lines_of_best labels best ++ end_line ∷ []) fit.0 (end_spelled (lines_of_best labels best) (best_spelled labels best good short fit.1))))

-- lines that fit behind others
fit_append : (labels : Labels) (before lines more : List ReportLine) → FitBehind labels before lines → FitBehind labels (before ++ lines) more → FitBehind labels before (lines ++ more)
fit_append labels before [] more fit later = subst (λ ls. FitBehind labels ls more) (append-nil before) later
fit_append labels before (l ∷ lines) more fit later =
    (fit.0, fit_append labels (before ++ l ∷ []) lines more fit.1 (subst (λ ls. FitBehind labels ls more) (sym (append_assoc before (l ∷ []) lines)) later))

-- the borders before lie below
IsBelow : Labels → List ReportLine → CandidateId → Type 0
IsBelow labels before c = (last : CandidateId) → IsLastBorder labels before last → last.0 < c.0

last_same : {X : Type 0} (xs ys : List X) (x y : X) → xs ++ x ∷ [] ≡ ys ++ y ∷ [] → x ≡ y
last_same [] [] x y is = cc
last_same [] (z ∷ ys) x y is = absurd (omega (arith, ap length is, length-append ys (y ∷ [])))
last_same (z ∷ xs) [] x y is = absurd (omega (arith, ap length is, length-append xs (x ∷ [])))
last_same (z ∷ xs) (w ∷ ys) x y is = let more : xs ++ x ∷ [] ≡ ys ++ y ∷ [] = cc in last_same xs ys x y more

below_next : (labels : Labels) (before : List ReportLine) (b c : CandidateId) → AreLabels labels → IsPlaceNumber labels b → b.0 < c.0 → IsBelow labels (before ++ border_line labels b ∷ []) c
unfolding IsBelow
below_next labels before b c good within below = λ last is_last.
    let same : place_named labels b ≡ is_last.name = last_same (borders_in before) is_last.earlier (place_named labels b) is_last.name (sym (borders_in-append before (border_line labels b ∷ [])) ∙ is_last.is_last) in
    let one : b ≡ last = place_same labels is_last.name b last good (record { within = within; named = same }) is_last.is_place in
    omega (arith, below, ap (λ (x : CandidateId). x.0) one)

-- rising, as the borders stand
Rising : List CandidateId → Type 0
Rising bs = (k : ℕ) (b c : CandidateId) → slice_get bs k ≡ Some b → slice_get bs (suc k) ≡ Some c → b.0 < c.0

borders_fit : (labels : Labels) (before : List ReportLine) (bs : List CandidateId) → AreLabels labels → All (IsPlaceNumber labels) bs → Rising bs → ((c : CandidateId) → slice_get bs 0 ≡ Some c → IsBelow labels before c) → FitBehind labels before (map (border_line labels) bs)
unfolding IsBelow Rising
borders_fit labels before [] good places rising below = tt
borders_fit labels before (b ∷ bs) good places rising below =
    let within = All-head (IsPlaceNumber labels) b bs places in (
      record { candidate = b; is_place = record { within = within; named = refl }; above = below b refl },
      borders_fit labels (before ++ border_line labels b ∷ []) bs good (All-tail (IsPlaceNumber labels) b bs places) (λ k c e. rising (suc k) c e) (λ c is. below_next labels before b c good within (rising 0 b c refl is)),
    )

sweeps_fit : (labels : Labels) (before : List ReportLine) (ss : List Sweep) → All (IsReportSweep labels) ss → FitBehind labels before (map (sweep_line labels) ss)
sweeps_fit labels before [] fit = tt
sweeps_fit labels before (s ∷ ss) fit = (
  all_mapped (λ (d : DirCell). d.cell.0 < length labels.cells) (IsKnownCell labels) (cell_named labels) s.cells (λ d within. record { cell = d; is_cell = record { within = within; named = refl } }) (All-head (IsReportSweep labels) s ss fit).cells,
  sweeps_fit labels (before ++ sweep_line labels s ∷ []) ss (All-tail (IsReportSweep labels) s ss fit),
)

no_run_begun : (labels : Labels) (ss : List Sweep) → runs_begun (map (sweep_line labels) ss) ≡ 0
no_run_begun labels [] = refl
no_run_begun labels (s ∷ ss) = no_run_begun labels ss

runs_fit : (labels : Labels) (before : List ReportLine) (k : ℕ) (rs : List TrainRun) → runs_begun before ≡ k → k + length rs ≤ length labels.trains → All (IsReportRun labels) rs → FitBehind labels before (lines_of_runs labels k rs)
runs_fit labels before k [] begun few fit = tt
runs_fit labels before k (r ∷ rs) begun few fit =
    let start = run (train_name labels (record { 0 = k })) r.start in
    let sweeps = map (sweep_line labels) r.sweeps in
    let found = some_at labels.trains k (omega (arith, few)) in
    let next : slice_get labels.trains (runs_begun before) ≡ Some (train_name labels (record { 0 = k })) = ap (slice_get labels.trains) begun ∙ (found.1 ∙ ap (λ o. Some (unwrap_or o [])) (sym found.1)) in
    fit_append labels before (start ∷ sweeps) (lines_of_runs labels (k + 1) rs)
    (next, sweeps_fit labels (before ++ start ∷ []) r.sweeps (All-head (IsReportRun labels) r rs fit).sweeps)
    (runs_fit labels (before ++ (start ∷ sweeps)) (k + 1) rs (omega (arith, runs_begun-append before (start ∷ sweeps), begun, no_run_begun labels r.sweeps)) (omega (arith, few)) (All-tail (IsReportRun labels) r rs fit))

runs_counted : (labels : Labels) (k : ℕ) (rs : List TrainRun) → runs_begun (lines_of_runs labels k rs) ≡ length rs
runs_counted labels k [] = refl
runs_counted labels k (r ∷ rs) =
    omega (arith, runs_begun-append (map (sweep_line labels) r.sweeps) (lines_of_runs labels (k + 1) rs), no_run_begun labels r.sweeps, runs_counted labels (k + 1) rs)

no_border_begun : (labels : Labels) (bs : List CandidateId) → runs_begun (map (border_line labels) bs) ≡ 0
no_border_begun labels [] = refl
no_border_begun labels (b ∷ bs) = no_border_begun labels bs

steps_fit : (labels : Labels) (before : List ReportLine) (ss : List Step) → FitBehind labels before (map step ss)
steps_fit labels before [] = tt
steps_fit labels before (s ∷ ss) = (tt, steps_fit labels (before ++ step s ∷ []) ss)

-- behind steps as many runs have begun as before, and a design if one had
steps_tell : (ss : List Step) → (runs_begun (map step ss) ≡ 0) × (has_design (map step ss) ≡ false)
steps_tell [] = (refl, refl)
steps_tell (s ∷ ss) = steps_tell ss

more_runs : (labels : Labels) (before lines : List ReportLine) → length labels.trains ≤ runs_begun before → HasAllRuns labels (before ++ lines)
more_runs labels before lines all begun = omega (arith, all, runs_begun-append before lines)

no_design : (labels : Labels) (lines : List ReportLine) → has_design lines ≡ false → HasAllRuns labels lines
no_design labels lines none begun = absurd (let never : false ≡ true = sym none ∙ begun in cc)

-- the end of a report whose trains all have their runs
refutation_fit : (labels : Labels) (before : List ReportLine) (r : Refutation) → length labels.trains ≤ runs_begun before → FitBehind labels before (lines_of_refutation r ++ end_line ∷ [])
refutation_fit labels before r all =
    let steps = map step r.log.steps in (
      (λ begun. all),
      fit_append labels (before ++ refutes r.bound ∷ []) steps (end_line ∷ []) (steps_fit labels (before ++ refutes r.bound ∷ []) r.log.steps)
          (subst (HasAllRuns labels) (sym (append_assoc before (refutes r.bound ∷ []) steps)) (more_runs labels before (refutes r.bound ∷ steps) all), tt),
    )

smaller_fit : (labels : Labels) (before : List ReportLine) (s : Smaller) → length labels.trains ≤ runs_begun before → FitBehind labels before (lines_of_smaller s ++ end_line ∷ [])
smaller_fit labels before smaller.NotAsked all = ((λ begun. all), tt)
smaller_fit labels before smaller.Nothing all = ((λ begun. all), (more_runs labels before (smaller_none ∷ []) all, tt))
smaller_fit labels before (smaller.Refuted r) all = refutation_fit labels before r all

rising_of : (bs : List CandidateId) → HoldsOfEach (RisesAt bs) bs → Rising bs
unfolding Rising
rising_of bs holds k b c is next = holds.at_each (suc k) c next k b (omega arith) is

-- a design behind lines without borders and runs, and what follows it
design_fit : (labels : Labels) (before more : List ReportLine) (bs : List CandidateId) (plan : Plan) → AreLabels labels → IsReportDesign labels bs plan → borders_in before ≡ [] → runs_begun before ≡ 0
    → ((behind : List ReportLine) → length labels.trains ≤ runs_begun behind → FitBehind labels behind more) → FitBehind labels before (lines_of_design labels bs plan ++ more)
unfolding IsBelow
design_fit labels before more bs plan good fit no_border no_run later =
    let borders = map (border_line labels) bs in
    let runs = lines_of_runs labels 0 plan.runs in
    let counted = before ++ count (length bs) ∷ [] in
    let begun : runs_begun (counted ++ borders) ≡ 0 = omega (arith, runs_begun-append counted borders, runs_begun-append before (count (length bs) ∷ []), no_run, no_border_begun labels bs) in
    let none : borders_in counted ≡ [] = borders_in-append before (count (length bs) ∷ []) ∙ (append-nil (borders_in before) ∙ no_border) in (
      tt,
      fit_append labels counted (borders ++ runs) more
          (fit_append labels counted borders runs (borders_fit labels counted bs good fit.places (rising_of bs fit.rising) (λ c is last is_last. absurd (not_last is_last.earlier is_last.name (sym none ∙ is_last.is_last))))
          (runs_fit labels (counted ++ borders) 0 plan.runs begun (omega (arith, fit.one_run_each)) fit.runs))
          (later (counted ++ (borders ++ runs)) (omega (arith, runs_begun-append counted (borders ++ runs), runs_begun-append borders runs, runs_counted labels 0 plan.runs, fit.one_run_each))),
    )
  where
    not_last : (earlier : List PlaceName) (name : PlaceName) → [] ≡ earlier ++ name ∷ [] → ⊥
    not_last earlier name is = omega (arith, ap length is, length-append earlier (name ∷ []))

impossible_fit : (labels : Labels) (before : List ReportLine) (r : Refutation) → has_design before ≡ false → FitBehind labels before (lines_of_refutation r ++ end_line ∷ [])
impossible_fit labels before r none =
    let steps = map step r.log.steps in (
      no_design labels before none,
      fit_append labels (before ++ refutes r.bound ∷ []) steps (end_line ∷ []) (steps_fit labels (before ++ refutes r.bound ∷ []) r.log.steps)
          (no_design labels ((before ++ refutes r.bound ∷ []) ++ steps) (none_more (before ++ refutes r.bound ∷ []) steps (none_more before (refutes r.bound ∷ []) none refl) (steps_tell r.log.steps).1), tt),
    )
  where
    none_more : (lines more : List ReportLine) → has_design lines ≡ false → has_design more ≡ false → has_design (lines ++ more) ≡ false
    none_more [] more none also = also
    none_more (count n ∷ lines) more none also = absurd (let never : true ≡ false = none in cc)
    none_more (l ∷ lines) more none also = none_more lines more none also

best_fit : (labels : Labels) (before : List ReportLine) (best : Option (List CandidateId × Plan)) → AreLabels labels → IsReportBest labels best → borders_in before ≡ [] → runs_begun before ≡ 0 → has_design (before ++ best_none ∷ []) ≡ false → FitBehind labels before (lines_of_best labels best ++ end_line ∷ [])
best_fit labels before None good fit no_border no_run none = (tt, (no_design labels (before ++ best_none ∷ []) none, tt))
best_fit labels before (Some design) good fit no_border no_run none = design_fit labels before (end_line ∷ []) design.0 design.1 good fit no_border no_run (λ behind all. ((λ begun. all), tt))

pub outcome_fits : (labels : Labels) (o : Outcome) → AreLabels labels → IsReportOutcome labels o → FitBehind labels [] (lines_of_outcome labels o)
outcome_fits labels (outcome.Done d) good fit =
    let design = lines_of_design labels d.layout d.plan in (
      tt,
      (
        tt,
        subst (FitBehind labels (header ∷ verdict_done ∷ [])) (sym (append_assoc design (lines_of_smaller d.smaller) (end_line ∷ [])))
            (design_fit labels (header ∷ verdict_done ∷ []) (lines_of_smaller d.smaller ++ end_line ∷ []) d.layout d.plan good fit.0 refl refl (λ behind all. smaller_fit labels behind d.smaller all)),
      ),
    )
outcome_fits labels (outcome.Impossible r) good fit = (tt, (tt, impossible_fit labels (header ∷ verdict_impossible ∷ []) r refl))
outcome_fits labels (outcome.Spent n best) good fit = (tt, (tt, (tt, best_fit labels (header ∷ verdict_spent ∷ conflicts n ∷ []) best good fit.1 refl refl refl)))
