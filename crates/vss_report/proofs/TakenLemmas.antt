-- What is taken of lines for a design, line after line.
use Rattle.std.proofs.Common.{◌≡◌, ◌<◌, ◌≤◌, ◌+◌, ◌⊎◌, inl, inr, ℕ, Bool, true, false, List, [], ◌∷◌, ◌++◌, All, Option, Some, slice_get, length, map, refl, sym, ap, subst, ◌∙◌, arith, append-nil, length-append}
use Rattle.std.specs.Prelude.{IsTrue, Contains, unwrap_or}
use Rattle.std.specs.Borrow.{Bor}
use Rattle.std.proofs.lemmas.Bool.{cases_lt}
use Rattle.std.proofs.lemmas.List.{map-append}
use Rattle.std.proofs.lemmas.List.Elements.{All-nil, All-push, All-cons, All-head, All-tail}
use Rattle.cell_net.specs.Labelled.{AreLabels}
use Rattle.cell_net.specs.declared.cells.DirCell.{DirCell}
use Rattle.cell_net.specs.declared.ids.CandidateId.{CandidateId}
use Rattle.cell_net.specs.declared.labels.Labels.{Labels}
use Rattle.cell_net.specs.declared.plans.Sweep.{Sweep}
use Rattle.cell_net.specs.declared.plans.TrainRun.{TrainRun}
use Rattle.derivation_log.specs.declared.step.Bound.{Bound}
use Rattle.vss_report.specs.DesignFaults.{IsPlaceNumber, HasCells, HasCellsOfRun}
use Rattle.vss_report.specs.Designs.{sweep_line, lines_of_run, lines_of_runs, has_design, borders_in, runs_in, runs_begun}
use Rattle.vss_report.specs.Fits.{IsNextBorder, IsBorderTooLow, IsRunOutOfTurn, IsKnownCell, LineFits, HasAllRuns}
use Rattle.vss_report.specs.Lines.{ReportLine, CellName, PlaceName, count, border, run, sweep, step}
use Rattle.vss_report.specs.Names.{train_name, cell_named, place_named, IsPlaceOf}
use Rattle.vss_report.specs.Readings.{SaysLine}
use Rattle.vss_report.specs.Taken.{IsOneAboveLast, AreRising, AreTaken, AddsSweep}
use Rattle.vss_report.specs.declared.design_parts.DesignParts.{DesignParts}
use Rattle.vss_report.specs.declared.read_line.ReadLine.{ReadLine}
use Rattle.vss_report.specs.declared.read_line.ReadLine.TheVariants as read
use Rattle.vss_report.proofs.DesignLines.{IsPlain, borders_in-append, runs_in-append, runs_begun-append, has_design-push, has_design-count, fit_push, lines_of_runs-push, lines_of_runs-sweep, count_sweep, cells_sweep, ends_with, below_from, from_push, rising_push}
use Rattle.vss_report.proofs.NameLemmas.{place_same}

-- a border above the last one is the next
pub next_border : (labels : Labels) (lines : List ReportLine) (parts : DesignParts) (name : PlaceName) (c : CandidateId) → AreLabels labels → AreTaken labels lines parts → IsPlaceOf labels name c → parts.from ≤ c.0 → IsNextBorder labels lines name
next_border labels lines parts name c good taken is above = record {
  candidate = c;
  is_place = is;
  above = λ last is_last.
      let found = below_from (place_named labels) parts.borders.items parts.from is_last.earlier is_last.name taken.from (taken.borders_are ∙ is_last.is_last) in
      let same : found.0 ≡ last = place_same labels is_last.name found.0 last good (record { within = found.3 (IsPlaceNumber labels) taken.places; named = found.1 }) is_last.is_place in
      omega (arith, found.2, ap (λ (b : CandidateId). b.0) same);
}

pub border_taken : (labels : Labels) (lines : List ReportLine) (old new : DesignParts) (name : PlaceName) (c : CandidateId) → AreLabels labels → AreTaken labels lines old → IsPlaceOf labels name c → old.from ≤ c.0
    → new.begun ≡ old.begun → new.borders.items ≡ old.borders.items ++ c ∷ [] → new.from ≡ c.0 + 1 → new.runs.items ≡ old.runs.items → AreTaken labels (lines ++ border name ∷ []) new
border_taken labels lines old new name c good taken is above begun borders from runs = record {
  fit = fit_push labels [] lines (border name) taken.fit (next_border labels lines old name c good taken is above);
  begun = begun ∙ (taken.begun ∙ sym (has_design-push lines (border name) refl));
  places = subst (All (IsPlaceNumber labels)) (sym borders) (All-push (IsPlaceNumber labels) old.borders.items c taken.places is.within);
  rising = subst AreRising (sym borders) (rising_push old.borders.items c old.from taken.rising taken.from above);
  from = subst (λ bs. IsOneAboveLast bs new.from) (sym borders) (subst (IsOneAboveLast (old.borders.items ++ c ∷ [])) (sym from) (from_push old.borders.items c));
  borders_are =
      ap (map (place_named labels)) borders ∙ (map-append (place_named labels) old.borders.items (c ∷ [])
      ∙ (ap (λ names. names ++ place_named labels c ∷ []) taken.borders_are ∙ (ap (λ n. borders_in lines ++ n ∷ []) is.named ∙ sym (borders_in-append lines (border name ∷ [])))));
  cells = subst (All (HasCellsOfRun labels)) (sym runs) taken.cells;
  counted = ap length runs ∙ omega (arith, taken.counted, runs_begun-append lines (border name ∷ []));
  runs_are = ap (lines_of_runs labels 0) runs ∙ (taken.runs_are ∙ sym (runs_in-append lines (border name ∷ []) ∙ append-nil (runs_in lines)));
}

map-same : (bs : List CandidateId) → map (λ (b : CandidateId). b) bs ≡ bs
map-same [] = refl
map-same (b ∷ bs) = ap (λ xs. b ∷ xs) (map-same bs)

-- a border that isn't above the last one
pub low_border : (labels : Labels) (lines : List ReportLine) (parts : DesignParts) (name : PlaceName) (c : CandidateId) → AreTaken labels lines parts → IsPlaceOf labels name c
    → ((d : CandidateId) → parts.from ≤ d.0 → ¬ IsPlaceOf labels name d) → IsBorderTooLow labels lines name
low_border labels lines parts name c taken is none = elim (cases_lt c.0 parts.from) [
  | inl below ↦
      let end = ends_with parts.borders.items parts.from taken.from (omega arith) in
      record {
        candidate = c;
        is_place = is;
        last = end.last;
        is_last = record {
          earlier = map (place_named labels) end.earlier;
          name = place_named labels end.last;
          is_last = sym taken.borders_are ∙ (ap (map (place_named labels)) end.is ∙ map-append (place_named labels) end.earlier (end.last ∷ []));
          is_place = record { within = at_last end.earlier end.last (subst (All (IsPlaceNumber labels)) end.is taken.places); named = refl };
        };
        low = omega (arith, end.above);
      }
  | inr above ↦ absurd (none c above is)
]
  where
    at_last : (earlier : List CandidateId) (last : CandidateId) → All (IsPlaceNumber labels) (earlier ++ last ∷ []) → IsPlaceNumber labels last
    at_last earlier last all =
        let found = below_from (λ (b : CandidateId). b) (earlier ++ last ∷ []) (last.0 + 1) earlier last (from_push earlier last) (map-same (earlier ++ last ∷ [])) in
        subst (IsPlaceNumber labels) found.1 (found.3 (IsPlaceNumber labels) all)

-- the run of the next train
pub run_taken : (labels : Labels) (lines : List ReportLine) (old new : DesignParts) (train : List ℕ) (start : ℕ) (r : TrainRun) → AreTaken labels lines old → slice_get labels.trains (length old.runs.items) ≡ Some train
    → r.start ≡ start → r.sweeps ≡ [] → new.begun ≡ old.begun → new.borders.items ≡ old.borders.items → new.from ≡ old.from → new.runs.items ≡ old.runs.items ++ r ∷ [] → AreTaken labels (lines ++ run train start ∷ []) new
run_taken labels lines old new train start r taken next starts none begun borders from runs = record {
  fit = fit_push labels [] lines (run train start) taken.fit (ap (slice_get labels.trains) (sym taken.counted) ∙ next);
  begun = begun ∙ (taken.begun ∙ sym (has_design-push lines (run train start) refl));
  places = subst (All (IsPlaceNumber labels)) (sym borders) taken.places;
  rising = subst AreRising (sym borders) taken.rising;
  from = subst (λ bs. IsOneAboveLast bs new.from) (sym borders) (subst (IsOneAboveLast old.borders.items) (sym from) taken.from);
  borders_are = ap (map (place_named labels)) borders ∙ (taken.borders_are ∙ sym (borders_in-append lines (run train start ∷ []) ∙ append-nil (borders_in lines)));
  cells = subst (All (HasCellsOfRun labels)) (sym runs) (All-push (HasCellsOfRun labels) old.runs.items r taken.cells (subst (All (HasCells labels)) (sym none) (All-nil (HasCells labels))));
  counted = ap length runs ∙ omega (arith, taken.counted, runs_begun-append lines (run train start ∷ []), length-append old.runs.items (r ∷ []));
  runs_are =
      ap (lines_of_runs labels 0) runs ∙ (lines_of_runs-push labels 0 old.runs.items r
      ∙ (ap (λ ls. lines_of_runs labels 0 old.runs.items ++ ls) (ap (λ n. lines_of_run labels n r) none_more ∙ line_is) ∙ (ap (λ ls. ls ++ run train start ∷ []) taken.runs_are ∙ sym (runs_in-append lines (run train start ∷ [])))));
}
  where
    none_more : 0 + length old.runs.items ≡ length old.runs.items
    none_more = omega arith

    line_is : lines_of_run labels (length old.runs.items) r ≡ run train start ∷ []
    line_is =
        let name : train_name labels (record { 0 = length old.runs.items }) ≡ train = ap (λ o. unwrap_or o []) next in
        ap (λ t. run t r.start ∷ map (sweep_line labels) r.sweeps) name ∙ (ap (λ n. run train n ∷ map (sweep_line labels) r.sweeps) starts ∙ ap (λ ss. run train start ∷ map (sweep_line labels) ss) none)

-- a sweep of the last run
pub sweep_taken : (labels : Labels) (lines : List ReportLine) (old new : DesignParts) (named : List CellName) (s : Sweep) → AreTaken labels lines old → 0 < runs_begun lines → map (cell_named labels) s.cells ≡ named → HasCells labels s
    → AddsSweep old.runs.items new.runs.items s → new.begun ≡ old.begun → new.borders.items ≡ old.borders.items → new.from ≡ old.from → AreTaken labels (lines ++ sweep named ∷ []) new
sweep_taken labels lines old new named s taken some are has adds begun borders from = record {
  fit = fit_push labels [] lines (sweep named) taken.fit (known s.cells named are has);
  begun = begun ∙ (taken.begun ∙ sym (has_design-push lines (sweep named) refl));
  places = subst (All (IsPlaceNumber labels)) (sym borders) taken.places;
  rising = subst AreRising (sym borders) taken.rising;
  from = subst (λ bs. IsOneAboveLast bs new.from) (sym borders) (subst (IsOneAboveLast old.borders.items) (sym from) taken.from);
  borders_are = ap (map (place_named labels)) borders ∙ (taken.borders_are ∙ sym (borders_in-append lines (sweep named ∷ []) ∙ append-nil (borders_in lines)));
  cells = cells_sweep labels old.runs.items new.runs.items s adds has taken.cells;
  counted = omega (arith, count_sweep old.runs.items new.runs.items s adds, taken.counted, runs_begun-append lines (sweep named ∷ []));
  runs_are =
      lines_of_runs-sweep labels 0 old.runs.items new.runs.items s (omega (arith, taken.counted)) adds
      ∙ (ap (λ ls. ls ++ sweep_line labels s ∷ []) taken.runs_are ∙ (ap (λ cells. runs_in lines ++ sweep cells ∷ []) are ∙ sym (runs_in-append lines (sweep named ∷ []))));
}
  where
    known : (cells : List DirCell) (named : List CellName) → map (cell_named labels) cells ≡ named → All (λ d. d.cell.0 < length labels.cells) cells → All (IsKnownCell labels) named
    known cells named are has = subst (All (IsKnownCell labels)) are (each cells has)
      where
        each : (cells : List DirCell) → All (λ d. d.cell.0 < length labels.cells) cells → All (IsKnownCell labels) (map (cell_named labels) cells)
        each [] has = All-nil (IsKnownCell labels)
        each (d ∷ ds) has =
            All-cons (IsKnownCell labels) (cell_named labels d) (map (cell_named labels) ds) (record { cell = d; is_cell = record { within = All-head (λ d. d.cell.0 < length labels.cells) d ds has; named = refl } })
            (each ds (All-tail (λ d. d.cell.0 < length labels.cells) d ds has))

plain_design : (l : ReportLine) → IsPlain l → has_design (l ∷ []) ≡ false
plain_design (count n) plain = absurd plain
plain_design (border name) plain = absurd plain
plain_design (run train start) plain = absurd plain
plain_design (sweep cells) plain = absurd plain
plain_design l plain = refl

plain_borders : (l : ReportLine) → IsPlain l → borders_in (l ∷ []) ≡ []
plain_borders (count n) plain = absurd plain
plain_borders (border name) plain = absurd plain
plain_borders (run train start) plain = absurd plain
plain_borders (sweep cells) plain = absurd plain
plain_borders l plain = refl

plain_runs : (l : ReportLine) → IsPlain l → runs_in (l ∷ []) ≡ []
plain_runs (count n) plain = absurd plain
plain_runs (border name) plain = absurd plain
plain_runs (run train start) plain = absurd plain
plain_runs (sweep cells) plain = absurd plain
plain_runs l plain = refl

plain_begun : (l : ReportLine) → IsPlain l → runs_begun (l ∷ []) ≡ 0
plain_begun (count n) plain = absurd plain
plain_begun (border name) plain = absurd plain
plain_begun (run train start) plain = absurd plain
plain_begun (sweep cells) plain = absurd plain
plain_begun l plain = refl

-- a line that tells nothing of a design
pub plain_taken : (labels : Labels) (lines : List ReportLine) (parts : DesignParts) (l : ReportLine) → IsPlain l → LineFits labels lines l → AreTaken labels lines parts → AreTaken labels (lines ++ l ∷ []) parts
plain_taken labels lines parts l plain fits taken = record {
  fit = fit_push labels [] lines l taken.fit fits;
  begun = taken.begun ∙ sym (has_design-push lines l (plain_design l plain));
  places = taken.places;
  rising = taken.rising;
  from = taken.from;
  borders_are = taken.borders_are ∙ sym (borders_in-append lines (l ∷ []) ∙ (ap (λ bs. borders_in lines ++ bs) (plain_borders l plain) ∙ append-nil (borders_in lines)));
  cells = taken.cells;
  counted = taken.counted ∙ omega (arith, runs_begun-append lines (l ∷ []), plain_begun l plain);
  runs_are = taken.runs_are ∙ sym (runs_in-append lines (l ∷ []) ∙ (ap (λ rs. runs_in lines ++ rs) (plain_runs l plain) ∙ append-nil (runs_in lines)));
}

-- the count of a design
pub count_taken : (labels : Labels) (lines : List ReportLine) (old new : DesignParts) (n : ℕ) → AreTaken labels lines old → new.begun ≡ true → new.borders.items ≡ old.borders.items → new.from ≡ old.from → new.runs.items ≡ old.runs.items
    → AreTaken labels (lines ++ count n ∷ []) new
count_taken labels lines old new n taken begun borders from runs = record {
  fit = fit_push labels [] lines (count n) taken.fit tt;
  begun = begun ∙ sym (has_design-count lines n);
  places = subst (All (IsPlaceNumber labels)) (sym borders) taken.places;
  rising = subst AreRising (sym borders) taken.rising;
  from = subst (λ bs. IsOneAboveLast bs new.from) (sym borders) (subst (IsOneAboveLast old.borders.items) (sym from) taken.from);
  borders_are = ap (map (place_named labels)) borders ∙ (taken.borders_are ∙ sym (borders_in-append lines (count n ∷ []) ∙ append-nil (borders_in lines)));
  cells = subst (All (HasCellsOfRun labels)) (sym runs) taken.cells;
  counted = ap length runs ∙ omega (arith, taken.counted, runs_begun-append lines (count n ∷ []));
  runs_are = ap (lines_of_runs labels 0) runs ∙ (taken.runs_are ∙ sym (runs_in-append lines (count n ∷ []) ∙ append-nil (runs_in lines)));
}

-- where no run is missing, each train has its run
pub all_runs : (labels : Labels) (lines : List ReportLine) (parts : DesignParts) → AreTaken labels lines parts → (IsTrue parts.begun → length labels.trains ≤ length parts.runs.items) → HasAllRuns labels lines
all_runs labels lines parts taken all begun = omega (arith, all (taken.begun ∙ begun), taken.counted)

-- a run is missing
pub run_missing : (labels : Labels) (lines : List ReportLine) (parts : DesignParts) → AreTaken labels lines parts → IsTrue parts.begun → length parts.runs.items < length labels.trains → ¬ HasAllRuns labels lines
run_missing labels lines parts taken begun few all = omega (arith, all (sym taken.begun ∙ begun), taken.counted, few)

-- a run that isn't due, of a train of the scene or where no run is due
pub out_of_turn : (labels : Labels) (lines : List ReportLine) (parts : DesignParts) (train : List ℕ) → AreTaken labels lines parts → ¬ (slice_get labels.trains (length parts.runs.items) ≡ Some train)
    → (length labels.trains ≤ length parts.runs.items) ⊎ Contains labels.trains train → IsRunOutOfTurn labels lines train
out_of_turn labels lines parts train taken other (inl past) = record { not_next = λ is. other (ap (slice_get labels.trains) taken.counted ∙ is); known = inl (omega (arith, taken.counted, past)) }
out_of_turn labels lines parts train taken other (inr known) = record { not_next = λ is. other (ap (slice_get labels.trains) taken.counted ∙ is); known = inr known }

pub adds_sweep : (front : List TrainRun) (r : TrainRun) (s : Sweep) → AddsSweep (front ++ r ∷ []) (front ++ (record { start = r.start; sweeps = r.sweeps ++ s ∷ [] }) ∷ []) s
adds_sweep [] r s = refl
adds_sweep (x ∷ []) r s = (refl, refl)
adds_sweep (x ∷ y ∷ front) r s = (refl, adds_sweep (y ∷ front) r s)

-- a line of the other kinds
abbrev pub IsOtherLine : ReadLine → Type 0
IsOtherLine (read.Count n) = ⊥
IsOtherLine (read.Cut track at_m) = ⊥
IsOtherLine (read.Joint name) = ⊥
IsOtherLine (read.Run train start) = ⊥
IsOtherLine (read.Sweep cells) = ⊥
IsOtherLine read.SmallerNone = ⊥
IsOtherLine (read.Refutes bound) = ⊥
IsOtherLine read.End = ⊥
IsOtherLine found = Unit {0}

pub other_taken : (labels : Labels) (lines : List ReportLine) (parts : DesignParts) (found : ReadLine) (l : ReportLine) → IsOtherLine found → SaysLine found l → AreTaken labels lines parts → AreTaken labels (lines ++ l ∷ []) parts
other_taken labels lines parts found l other says taken = by_line l (told found l other says) taken
  where
    IsFree : ReportLine → Type 0
    IsFree l = IsPlain l × LineFits labels lines l

    told : (found : ReadLine) (l : ReportLine) → IsOtherLine found → SaysLine found l → IsFree l
    told read.Header l other says = subst IsFree (sym says) (tt, tt)
    told read.Done l other says = subst IsFree (sym says) (tt, tt)
    told read.Impossible l other says = subst IsFree (sym says) (tt, tt)
    told read.Spent l other says = subst IsFree (sym says) (tt, tt)
    told (read.Conflicts n) l other says = subst IsFree (sym says) (tt, tt)
    told read.BestNone l other says = subst IsFree (sym says) (tt, tt)
    told (read.Step text) (step s) other says = (tt, tt)
    told (read.Step text) l other says = absurd says
    told found l other says = absurd other

    by_line : (l : ReportLine) → IsFree l → AreTaken labels lines parts → AreTaken labels (lines ++ l ∷ []) parts
    by_line l free taken = plain_taken labels lines parts l free.0 free.1 taken

pub other_line : (found : ReadLine) → ((n : ℕ) → found ≡ read.Count n → ⊥) → ((track : Bor (List ℕ)) (at_m : ℕ) → found ≡ read.Cut track at_m → ⊥) → ((name : Bor (List ℕ)) → found ≡ read.Joint name → ⊥)
    → ((train : Bor (List ℕ)) (start : ℕ) → found ≡ read.Run train start → ⊥) → ((cells : Bor (List ℕ)) → found ≡ read.Sweep cells → ⊥) → (found ≡ read.SmallerNone → ⊥) → ((bound : Bound) → found ≡ read.Refutes bound → ⊥)
    → (found ≡ read.End → ⊥) → IsOtherLine found
other_line (read.Count n) no_count no_cut no_joint no_run no_sweep no_smaller no_bound no_end = no_count n refl
other_line (read.Cut track at_m) no_count no_cut no_joint no_run no_sweep no_smaller no_bound no_end = no_cut track at_m refl
other_line (read.Joint name) no_count no_cut no_joint no_run no_sweep no_smaller no_bound no_end = no_joint name refl
other_line (read.Run train start) no_count no_cut no_joint no_run no_sweep no_smaller no_bound no_end = no_run train start refl
other_line (read.Sweep cells) no_count no_cut no_joint no_run no_sweep no_smaller no_bound no_end = no_sweep cells refl
other_line read.SmallerNone no_count no_cut no_joint no_run no_sweep no_smaller no_bound no_end = no_smaller refl
other_line (read.Refutes bound) no_count no_cut no_joint no_run no_sweep no_smaller no_bound no_end = no_bound bound refl
other_line read.End no_count no_cut no_joint no_run no_sweep no_smaller no_bound no_end = no_end refl
other_line found no_count no_cut no_joint no_run no_sweep no_smaller no_bound no_end = tt

-- the name at a place is the one that is asked for
pub due_same : (found : Option (List ℕ)) (due name : List ℕ) (same : Bool) → found ≡ Some due → (IsTrue same → due ≡ name) × (due ≡ name → IsTrue same) → (IsTrue same → found ≡ Some name) × (found ≡ Some name → IsTrue same)
due_same found due name same is tells = (λ yes. is ∙ ap Some (tells.0 yes), λ named. tells.1 (some_same due name (sym is ∙ named)))
  where
    some_same : (one other : List ℕ) → Some one ≡ Some other → one ≡ other
    some_same one other e = cc

-- the parts behind the count of a design
abbrev pub begun : DesignParts → DesignParts
begun parts = record { begun = true; borders = parts.borders; from = parts.from; runs = parts.runs; finder = parts.finder }
