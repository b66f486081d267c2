-- The lines of a report, read for a scene up to the first fault or to its end.
use Rattle.std.proofs.Common.{◌≡◌, ◌≢◌, ◌<◌, ◌≤◌, ◌+◌, ◌⊎◌, inl, inr, ℕ, zero, suc, Bool, true, false, List, [], ◌∷◌, ◌++◌, All, Some, slice_get, get_or, length, map, refl, sym, ap, subst, ◌∙◌, arith, append_assoc, append-nil, length-append}
use Rattle.std.specs.Prelude.{not}
use Rattle.std.proofs.lemmas.List.{get_or_at}
use Rattle.std.proofs.lemmas.List.Elements.{All-nil, All-cons}
use Rattle.cell_net.specs.Borders.{IsBorderSet, RisesAt}
use Rattle.cell_net.specs.Labelled.{AreLabelsOf}
use Rattle.cell_net.specs.declared.ids.CandidateId.{CandidateId}
use Rattle.cell_net.specs.declared.labels.Labels.{Labels}
use Rattle.cell_net.specs.declared.parts.InstanceParts.{InstanceParts}
use Rattle.cell_net.specs.declared.plans.Plan.{Plan}
use Rattle.cell_net.specs.declared.plans.TrainRun.{TrainRun}
use Rattle.vss_text.specs.Lines.{lines_of}
use Rattle.vss_text.specs.Reading.{EndsWithin, NeverBegins}
use Rattle.vss_report.specs.DesignFaults.{IsPlaceNumber, HasCellsOfRun, StatesDesign, BeginsWell, ReachesDesign, IsDesignFault}
use Rattle.vss_report.specs.Designs.{sweep_line, lines_of_run, lines_of_runs, borders_in, runs_in, runs_begun}
use Rattle.vss_report.specs.Faults.{IsWrongHere}
use Rattle.vss_report.specs.Fits.{LineFits, FitBehind, HasAllRuns}
use Rattle.vss_report.specs.Lines.{ReportLine, header, verdict_done, verdict_impossible, verdict_spent, conflicts, best_none, count, border, run, sweep, smaller_none, refutes, step, end_line, line_kind, line_text, full_text, text_of_lines}
use Rattle.vss_report.specs.Names.{place_named}
use Rattle.vss_report.specs.Places.{kinds_at, place_after, MayStand, LinesLead}
use Rattle.vss_report.specs.Taken.{AreRising, AreTaken, StandsBehind, IsOfDesign, IsFaultOfLine, IsTakenWhole, IsLineFault}
use Rattle.vss_report.specs.declared.design_parts.DesignParts.{DesignParts}
use Rattle.vss_report.specs.declared.fault.ReportFault.{ReportFault}
use Rattle.vss_report.specs.declared.fault.ReportFault.TheVariants.{BadLine, UnknownName, NoPart, Memory}
use Rattle.vss_report.specs.declared.place.Place.{Place}
use Rattle.vss_report.specs.declared.place.Place.TheVariants.{Start, Finished}
use Rattle.vss_report.proofs.DesignLines.{borders_in-append, runs_in-append, runs_begun-append, has_design-push}
use Rattle.vss_report.proofs.FaultLemmas.{short_plain}
use Rattle.vss_report.proofs.RefutationLemmas.{IsReadTo, IsReadTo-none, IsReadTo-more, wrong_here, wrong_behind}
use Rattle.vss_report.proofs.Placed.{at_place, all_at}

-- the report is read up to here, and what its lines give for the scene is taken
pub record IsTakenTo (labels : Labels) (bytes : List ℕ) (number : ℕ) (place : Place) (rest : List ℕ) (parts : DesignParts) : Type 0 where
  pub read : IsReadTo bytes number place rest
  pub taken : AreTaken labels read.lines parts

pub IsTakenTo-none : (labels : Labels) (bytes : List ℕ) (parts : DesignParts) → AreTaken labels [] parts → IsTakenTo labels bytes 1 Start bytes parts
unfolding IsReadTo-none
IsTakenTo-none labels bytes parts taken = record { read = IsReadTo-none bytes; taken = taken }

-- the next line stands behind those that were read
pub stands : (labels : Labels) (bytes : List ℕ) (number : ℕ) (place : Place) (rest : List ℕ) (parts : DesignParts) (l : ReportLine) → (to : IsTakenTo labels bytes number place rest parts) → MayStand place l → StandsBehind to.read.lines l
stands labels bytes number place rest parts l to may = record { at = place; leads = to.read.read.leads; may_stand = may }

pub IsTakenTo-more : (labels : Labels) (bytes : List ℕ) (number : ℕ) (place : Place) (rest behind : List ℕ) (l : ReportLine) (old new : DesignParts) → (to : IsTakenTo labels bytes number place rest old) → MayStand place l → rest ≡ full_text l ++ behind
    → AreTaken labels (to.read.lines ++ l ∷ []) new → IsTakenTo labels bytes (number + 1) (place_after place l) behind new
unfolding IsReadTo-more
IsTakenTo-more labels bytes number place rest behind l old new to may is taken = record { read = IsReadTo-more bytes number place rest behind l to.read may is; taken = taken }

-- the lines that were read begin the text well
abbrev begins_well : (labels : Labels) (bytes : List ℕ) (number : ℕ) (place : Place) (rest : List ℕ) (parts : DesignParts) → IsTakenTo labels bytes number place rest parts → BeginsWell labels bytes
begins_well labels bytes number place rest parts to = record {
  lines = to.read.lines;
  left = rest;
  at = place;
  leads = to.read.read.leads;
  spelled = to.read.read.spelled;
  begins = to.read.read.so_far;
  fit = to.taken.fit;
}

-- the next line has a fault for the scene
pub faulty_line : (labels : Labels) (bytes : List ℕ) (number : ℕ) (place : Place) (rest behind : List ℕ) (l : ReportLine) (parts : DesignParts) (fault : ReportFault) → (to : IsTakenTo labels bytes number place rest parts) → MayStand place l → rest ≡ full_text l ++ behind
    → IsFaultOfLine labels to.read.lines l number fault → IsLineFault labels bytes fault
unfolding IsReadTo-more
faulty_line labels bytes number place rest behind l parts (BadLine n) to may is fault =
    inr (record { before = begins_well labels bytes number place rest parts to; line = l; behind = behind; may_stand = may; is_next = is; counted = fault.0 ∙ to.read.counted; fault = fault.1 })
faulty_line labels bytes number place rest behind l parts (UnknownName n) to may is fault =
    record { before = begins_well labels bytes number place rest parts to; line = l; behind = behind; may_stand = may; is_next = is; counted = fault.0 ∙ to.read.counted; fault = fault.1 }
faulty_line labels bytes number place rest behind l parts NoPart to may is fault = absurd fault
faulty_line labels bytes number place rest behind l parts Memory to may is fault = reaches (IsReadTo-more bytes number place rest behind l to.read may is) refl
  where
    one_more : (l : ReportLine) → IsOfDesign l → 0 < length (borders_in (l ∷ [])) + length (runs_in (l ∷ []))
    one_more (border name) of = omega arith
    one_more (run train start) of = omega arith
    one_more (sweep cells) of = omega arith
    one_more l of = absurd of

    some : 0 < length (borders_in (to.read.lines ++ l ∷ [])) + length (runs_in (to.read.lines ++ l ∷ []))
    some = omega (arith, ap length (borders_in-append to.read.lines (l ∷ [])), ap length (runs_in-append to.read.lines (l ∷ [])), length-append (borders_in to.read.lines) (borders_in (l ∷ [])), length-append (runs_in to.read.lines) (runs_in (l ∷ [])), one_more l fault)

    reaches : (more : IsReadTo bytes (number + 1) (place_after place l) behind) → more.lines ≡ to.read.lines ++ l ∷ [] → ReachesDesign bytes
    reaches more same = record {
      lines = more.lines;
      left = behind;
      at = place_after place l;
      leads = more.read.leads;
      spelled = more.read.spelled;
      begins = more.read.so_far;
      some = subst (λ ls. 0 < length (borders_in ls) + length (runs_in ls)) (sym same) some;
    }

-- where no line that may stand there begins the text, no whole one does
none_wrong : (place : Place) (rest : List ℕ) → NeverBegins (MayStand place) full_text rest → (line : ReportLine) (behind : List ℕ) → MayStand place line → rest ≢ full_text line ++ behind
unfolding NeverBegins
none_wrong place rest never line behind may is = never line [] behind may (append-nil rest ∙ is)

none_short : (place : Place) (rest : List ℕ) → EndsWithin (MayStand place) full_text rest → (line : ReportLine) (behind : List ℕ) → MayStand place line → rest ≢ full_text line ++ behind
none_short place rest within line behind may is =
    short_plain place rest within (length (line_text line)) 0
    (omega (arith, ap length is, length-append (line_text line ++ 10 ∷ []) behind, length-append (line_text line) (10 ∷ [])))
    (ap (λ b. get_or b (length (line_text line)) 0) (is ∙ append_assoc (line_text line) (10 ∷ []) behind) ∙ get_or_at (line_text line) 10 behind 0 (length (line_text line)) refl)

-- a fault of the next line is one of the report
pub wrong_line_here : (labels : Labels) (bytes : List ℕ) (number : ℕ) (place : Place) (rest : List ℕ) (parts : DesignParts) (fault : ReportFault) → IsTakenTo labels bytes number place rest parts → IsWrongHere place number rest fault → IsLineFault labels bytes fault
wrong_line_here labels bytes number place rest parts fault to wrong =
    let found = wrong_here bytes number place rest fault to.read wrong in
    subst (IsLineFault labels bytes) (sym found.1) (inl (record { before = begins_well labels bytes number place rest parts to; all = none wrong.wrong; wrong = found.2 }))
  where
    none : ((wrong.line ≡ number) × (0 < length rest) × NeverBegins (MayStand place) full_text rest) ⊎ ((wrong.line ≡ number + length (lines_of rest)) × EndsWithin (MayStand place) full_text rest)
        → (line : ReportLine) (behind : List ℕ) → MayStand place line → rest ≢ full_text line ++ behind
    none (inl here) = none_wrong place rest here.2
    none (inr short) = none_short place rest short.1

-- something stands behind the last line
pub wrong_line_behind : (labels : Labels) (bytes : List ℕ) (number : ℕ) (place : Place) (rest : List ℕ) (parts : DesignParts) → place ≡ Finished → IsTakenTo labels bytes number place rest parts → 0 < length rest → IsLineFault labels bytes (BadLine number)
wrong_line_behind labels bytes number place rest parts at to some = at_end (subst (λ p. IsTakenTo labels bytes number p rest parts) at to)
  where
    at_end : IsTakenTo labels bytes number Finished rest parts → IsLineFault labels bytes (BadLine number)
    at_end to = inl (record {
      before = begins_well labels bytes number Finished rest parts to;
      all = λ line behind may is. let never : slice_get (kinds_at Finished) may.among.place ≡ Some (line_kind line) = may.among.is_there in cc;
      wrong = wrong_behind bytes number rest to.read some;
    })

pub is_whole : (labels : Labels) (bytes : List ℕ) (number : ℕ) (place : Place) (rest : List ℕ) (parts : DesignParts) → place ≡ Finished → length rest ≡ 0 → IsTakenTo labels bytes number place rest parts → IsTakenWhole labels bytes parts
is_whole labels bytes number place [] parts at none to = record {
  report = record { lines = to.read.lines; leads = subst (LinesLead Start to.read.lines) at to.read.read.leads; spelled = to.read.read.spelled; text = to.read.read.so_far ∙ append-nil (text_of_lines to.read.lines) };
  taken = to.taken;
  few = omega (arith, to.read.room);
}
is_whole labels bytes number place (b ∷ rest) parts at none to = absurd (omega arith)

ends_finished : (from : Place) (l : ReportLine) → place_after from l ≡ Finished → l ≡ end_line
ends_finished from header at = cc
ends_finished from verdict_done at = cc
ends_finished from verdict_impossible at = cc
ends_finished from verdict_spent at = cc
ends_finished from (conflicts n) at = cc
ends_finished from best_none at = cc
ends_finished from (count n) at = cc
ends_finished from (border name) at = cc
ends_finished from (run train start) at = cc
ends_finished from (sweep cells) at = cc
ends_finished from smaller_none at = cc
ends_finished from (refutes bound) at = cc
ends_finished from (step s) at = cc
ends_finished from end_line at = refl

-- lines that fit and end a report have all runs
pub ends_with_all : (labels : Labels) (from : Place) (before lines : List ReportLine) → from ≢ Finished → LinesLead from lines Finished → FitBehind labels before lines → HasAllRuns labels (before ++ lines)
ends_with_all labels from before [] due leads fit = absurd (due leads)
ends_with_all labels from before (l ∷ []) due leads fit =
    let is : l ≡ end_line = ends_finished from l leads.1 in
    let all : HasAllRuns labels before = subst (LineFits labels before) is fit.0 in
    subst (λ x. HasAllRuns labels (before ++ x ∷ [])) (sym is) (λ begun. omega (arith, all (sym (has_design-push before end_line refl) ∙ begun), runs_begun-append before (end_line ∷ [])))
ends_with_all labels from before (l ∷ m ∷ lines) due leads fit =
    subst (HasAllRuns labels) (append_assoc before (l ∷ []) (m ∷ lines)) (ends_with_all labels (place_after from l) (before ++ l ∷ []) (m ∷ lines) (not_finished (place_after from l) leads.1) leads.1 fit.1)
  where
    not_finished : (place : Place) → LinesLead place (m ∷ lines) Finished → place ≢ Finished
    not_finished place leads at = let never : slice_get (kinds_at Finished) leads.0.place ≡ Some (line_kind m) = subst (λ p. slice_get (kinds_at p) leads.0.place ≡ Some (line_kind m)) at leads.0.is_there in cc

few_runs : (labels : Labels) (before lines : List ReportLine) → FitBehind labels before lines → runs_begun before ≤ length labels.trains → runs_begun (before ++ lines) ≤ length labels.trains
few_runs labels before [] fit few = subst (λ ls. runs_begun ls ≤ length labels.trains) (sym (append-nil before)) few
few_runs labels before (l ∷ lines) fit few = subst (λ ls. runs_begun ls ≤ length labels.trains) (append_assoc before (l ∷ []) lines) (few_runs labels (before ++ l ∷ []) lines fit.1 (by_line l fit.0))
  where
    by_line : (l : ReportLine) → LineFits labels before l → runs_begun (before ++ l ∷ []) ≤ length labels.trains
    by_line (run train start) fits = omega (arith, runs_begun-append before (run train start ∷ []), (at_place labels.trains (runs_begun before) train fits).0)
    by_line header fits = omega (arith, runs_begun-append before (header ∷ []))
    by_line verdict_done fits = omega (arith, runs_begun-append before (verdict_done ∷ []))
    by_line verdict_impossible fits = omega (arith, runs_begun-append before (verdict_impossible ∷ []))
    by_line verdict_spent fits = omega (arith, runs_begun-append before (verdict_spent ∷ []))
    by_line (conflicts n) fits = omega (arith, runs_begun-append before (conflicts n ∷ []))
    by_line best_none fits = omega (arith, runs_begun-append before (best_none ∷ []))
    by_line (count n) fits = omega (arith, runs_begun-append before (count n ∷ []))
    by_line (border name) fits = omega (arith, runs_begun-append before (border name ∷ []))
    by_line (sweep cells) fits = omega (arith, runs_begun-append before (sweep cells ∷ []))
    by_line smaller_none fits = omega (arith, runs_begun-append before (smaller_none ∷ []))
    by_line (refutes bound) fits = omega (arith, runs_begun-append before (refutes bound ∷ []))
    by_line (step s) fits = omega (arith, runs_begun-append before (step s ∷ []))
    by_line end_line fits = omega (arith, runs_begun-append before (end_line ∷ []))

-- a design has one run for each train
pub one_run_each : (labels : Labels) (bytes : List ℕ) (parts : DesignParts) → IsTakenWhole labels bytes parts → parts.begun ≡ true → length parts.runs.items ≡ length labels.trains
one_run_each labels bytes parts whole begun =
    let all = ends_with_all labels Start [] whole.report.lines (λ at. cc) whole.report.leads whole.taken.fit (sym whole.taken.begun ∙ begun) in
    let few = few_runs labels [] whole.report.lines whole.taken.fit (omega arith) in
    omega (arith, all, few, whole.taken.counted)

runs_within : (lines : List ReportLine) → length (runs_in lines) ≤ length lines
runs_within [] = omega arith
runs_within (run train start ∷ lines) = omega (arith, runs_within lines)
runs_within (sweep cells ∷ lines) = omega (arith, runs_within lines)
runs_within (l ∷ lines) = omega (arith, runs_within lines)

borders_within : (lines : List ReportLine) → length (borders_in lines) ≤ length lines
borders_within [] = omega arith
borders_within (border name ∷ lines) = omega (arith, borders_within lines)
borders_within (l ∷ lines) = omega (arith, borders_within lines)

length-same : {X Y : Type 0} (f : X → Y) (xs : List X) → length (map f xs) ≡ length xs
length-same f [] = refl
length-same f (x ∷ xs) = omega (arith, length-same f xs)

pub few_borders : (labels : Labels) (bytes : List ℕ) (parts : DesignParts) → IsTakenWhole labels bytes parts → length parts.borders.items ≤ length bytes
few_borders labels bytes parts whole = omega (arith, length-same (place_named labels) parts.borders.items, ap length whole.taken.borders_are, borders_within whole.report.lines, whole.few)

short_run : (labels : Labels) (train : ℕ) (rs : List TrainRun) → All (λ r. length r.sweeps ≤ length (lines_of_runs labels train rs)) rs
short_run labels train [] = All-nil (λ r. length r.sweeps ≤ length (lines_of_runs labels train []))
short_run labels train (r ∷ rs) =
    All-cons (λ q. length q.sweeps ≤ length (lines_of_runs labels train (r ∷ rs))) r rs
    (omega (arith, length-append (lines_of_run labels train r) (lines_of_runs labels (train + 1) rs), length-same (sweep_line labels) r.sweeps))
    (λ k d within. omega (arith, short_run labels (train + 1) rs k d within, length-append (lines_of_run labels train r) (lines_of_runs labels (train + 1) rs)))

pub short_runs : (labels : Labels) (bytes : List ℕ) (parts : DesignParts) → IsTakenWhole labels bytes parts → All (λ r. length r.sweeps ≤ length bytes) parts.runs.items
short_runs labels bytes parts whole = λ k d within.
    omega (arith, short_run labels 0 parts.runs.items k d within, ap length whole.taken.runs_are, runs_within whole.report.lines, whole.few)

rises : (borders : List CandidateId) (place : ℕ) (item : CandidateId) → AreRising borders → slice_get borders place ≡ Some item → RisesAt borders place item
rises [] place item rising is before b at got = cc
rises (x ∷ bs) zero item rising is before b at got = absurd (omega arith)
rises (x ∷ []) (suc place) item rising is before b at got = cc
rises (x ∷ y ∷ bs) (suc zero) item rising is zero b at got =
    let one : x ≡ b = cc in
    let other : y ≡ item = cc in
    omega (arith, rising.0, ap (λ (c : CandidateId). c.0) one, ap (λ (c : CandidateId). c.0) other)
rises (x ∷ y ∷ bs) (suc zero) item rising is (suc before) b at got = absurd (omega arith)
rises (x ∷ y ∷ bs) (suc (suc place)) item rising is zero b at got = absurd (omega arith)
rises (x ∷ y ∷ bs) (suc (suc place)) item rising is (suc before) b at got = rises (y ∷ bs) (suc place) item rising.1 is before b (omega arith) got

-- the borders are candidates of the instance, and rise
pub is_border_set : (p : InstanceParts) (labels : Labels) (bytes : List ℕ) (parts : DesignParts) → AreLabelsOf p labels → IsTakenWhole labels bytes parts → IsBorderSet p parts.borders.items
is_border_set p labels bytes parts labelled whole = record {
  rising = record { at_each = λ place item is. rises parts.borders.items place item whole.taken.rising is };
  in_range = record { at_each = λ place item is. omega (arith, all_at (IsPlaceNumber labels) parts.borders.items place item whole.taken.places is, labelled.places) };
}

pub states_design : (labels : Labels) (bytes : List ℕ) (parts : DesignParts) → IsTakenWhole labels bytes parts → parts.begun ≡ true → (borders : List CandidateId) (plan : Plan) → borders ≡ parts.borders.items → plan.runs ≡ parts.runs.items → StatesDesign labels bytes borders plan
states_design labels bytes parts whole begun borders plan same_borders same_runs = record {
  report = whole.report;
  begun = sym whole.taken.begun ∙ begun;
  fit = whole.taken.fit;
  places = subst (All (IsPlaceNumber labels)) (sym same_borders) whole.taken.places;
  borders_are = ap (map (place_named labels)) same_borders ∙ whole.taken.borders_are;
  cells = subst (All (HasCellsOfRun labels)) (sym same_runs) whole.taken.cells;
  runs_are = ap (lines_of_runs labels 0) same_runs ∙ whole.taken.runs_are;
}

-- a fault of a line is one of the report
pub of_line : (labels : Labels) (bytes : List ℕ) (fault : ReportFault) → IsLineFault labels bytes fault → IsDesignFault labels bytes fault
of_line labels bytes (BadLine n) is = is
of_line labels bytes (UnknownName n) is = is
of_line labels bytes NoPart is = absurd is
of_line labels bytes Memory is = is

pub is_false : (b : Bool) → not b ≡ true → b ≡ false
is_false true is = absurd (let never : false ≡ true = is in cc)
is_false false is = refl

pub is_true : (b : Bool) → not b ≡ false → b ≡ true
is_true true is = refl
is_true false is = absurd (let never : true ≡ false = is in cc)
