-- What lines tell of a design, line after line.
use Rattle.std.proofs.Common.{◌≡◌, ◌<◌, ◌≤◌, ◌+◌, ℕ, true, false, List, [], ◌∷◌, ◌++◌, All, length, map, refl, sym, ap, subst, ◌∙◌, arith, append_assoc, append-nil, length-append}
use Rattle.std.proofs.lemmas.List.{map-append}
use Rattle.std.proofs.lemmas.List.Elements.{All-nil, All-head, All-tail, All-cons, All-push}
use Rattle.cell_net.specs.declared.ids.CandidateId.{CandidateId}
use Rattle.cell_net.specs.declared.labels.Labels.{Labels}
use Rattle.cell_net.specs.declared.plans.Sweep.{Sweep}
use Rattle.cell_net.specs.declared.plans.TrainRun.{TrainRun}
use Rattle.vss_report.specs.DesignFaults.{HasCells, HasCellsOfRun}
use Rattle.vss_report.specs.Designs.{sweep_line, lines_of_run, lines_of_runs, has_design, borders_in, runs_in, runs_begun}
use Rattle.vss_report.specs.Fits.{LineFits, FitBehind}
use Rattle.vss_report.specs.Lines.{ReportLine, count, border, run, sweep}
use Rattle.vss_report.specs.Names.{train_name}
use Rattle.vss_report.specs.Taken.{IsOneAboveLast, AreRising, AddsSweep}

-- a line that tells nothing of a design
abbrev pub IsPlain : ReportLine → Type 0
IsPlain (count n) = ⊥
IsPlain (border name) = ⊥
IsPlain (run train start) = ⊥
IsPlain (sweep cells) = ⊥
IsPlain l = Unit {0}

pub borders_in-append : (lines more : List ReportLine) → borders_in (lines ++ more) ≡ borders_in lines ++ borders_in more
borders_in-append [] more = refl
borders_in-append (border name ∷ lines) more = ap (λ names. name ∷ names) (borders_in-append lines more)
borders_in-append (l ∷ lines) more = borders_in-append lines more

pub runs_in-append : (lines more : List ReportLine) → runs_in (lines ++ more) ≡ runs_in lines ++ runs_in more
runs_in-append [] more = refl
runs_in-append (run train start ∷ lines) more = ap (λ ls. run train start ∷ ls) (runs_in-append lines more)
runs_in-append (sweep cells ∷ lines) more = ap (λ ls. sweep cells ∷ ls) (runs_in-append lines more)
runs_in-append (l ∷ lines) more = runs_in-append lines more

pub runs_begun-append : (lines more : List ReportLine) → runs_begun (lines ++ more) ≡ runs_begun lines + runs_begun more
runs_begun-append [] more = omega arith
runs_begun-append (run train start ∷ lines) more = omega (arith, runs_begun-append lines more)
runs_begun-append (l ∷ lines) more = runs_begun-append lines more

pub has_design-push : (lines : List ReportLine) (l : ReportLine) → has_design (l ∷ []) ≡ false → has_design (lines ++ l ∷ []) ≡ has_design lines
has_design-push [] l none = none
has_design-push (count n ∷ lines) l none = refl
has_design-push (x ∷ lines) l none = has_design-push lines l none

pub has_design-count : (lines : List ReportLine) (n : ℕ) → has_design (lines ++ count n ∷ []) ≡ true
has_design-count [] n = refl
has_design-count (count m ∷ lines) n = refl
has_design-count (x ∷ lines) n = has_design-count lines n

-- one line more fits behind lines that fit
pub fit_push : (labels : Labels) (before lines : List ReportLine) (l : ReportLine) → FitBehind labels before lines → LineFits labels (before ++ lines) l → FitBehind labels before (lines ++ l ∷ [])
fit_push labels before [] l fit fits = (subst (λ ls. LineFits labels ls l) (append-nil before) fits, tt)
fit_push labels before (x ∷ lines) l fit fits =
    (fit.0, fit_push labels (before ++ x ∷ []) lines l fit.1 (subst (λ ls. LineFits labels ls l) (sym (append_assoc before (x ∷ []) lines)) fits))

pub lines_of_runs-push : (labels : Labels) (train : ℕ) (rs : List TrainRun) (r : TrainRun) → lines_of_runs labels train (rs ++ r ∷ []) ≡ lines_of_runs labels train rs ++ lines_of_run labels (train + length rs) r
lines_of_runs-push labels train [] r =
    let first : train ≡ train + 0 = omega arith in
    append-nil (lines_of_run labels train r) ∙ ap (λ n. lines_of_run labels n r) first
lines_of_runs-push labels train (x ∷ rs) r =
    let more : train + 1 + length rs ≡ train + length (x ∷ rs) = omega arith in
    ap (λ ls. lines_of_run labels train x ++ ls) (lines_of_runs-push labels (train + 1) rs r ∙ ap (λ n. lines_of_runs labels (train + 1) rs ++ lines_of_run labels n r) more)
    ∙ sym (append_assoc (lines_of_run labels train x) (lines_of_runs labels (train + 1) rs) (lines_of_run labels (train + length (x ∷ rs)) r))

-- with a sweep added to the last run
pub lines_of_runs-sweep : (labels : Labels) (train : ℕ) (old new : List TrainRun) (s : Sweep) → 0 < length old → AddsSweep old new s → lines_of_runs labels train new ≡ lines_of_runs labels train old ++ sweep_line labels s ∷ []
lines_of_runs-sweep labels train [] new s some adds = absurd (omega arith)
lines_of_runs-sweep labels train (r ∷ []) new s some adds =
    ap (lines_of_runs labels train) adds
    ∙ (append-nil (lines_of_run labels train (record { start = r.start; sweeps = r.sweeps ++ s ∷ [] }))
    ∙ (ap (λ ls. run (train_name labels (record { 0 = train })) r.start ∷ ls) (map-append (sweep_line labels) r.sweeps (s ∷ []))
    ∙ ap (λ ls. ls ++ sweep_line labels s ∷ []) (sym (append-nil (lines_of_run labels train r)))))
lines_of_runs-sweep labels train (r ∷ q ∷ rs) [] s some adds = absurd adds
lines_of_runs-sweep labels train (r ∷ q ∷ rs) (n ∷ ns) s some adds =
    ap (λ x. lines_of_run labels train x ++ lines_of_runs labels (train + 1) ns) adds.0
    ∙ (ap (λ ls. lines_of_run labels train r ++ ls) (lines_of_runs-sweep labels (train + 1) (q ∷ rs) ns s (omega arith) adds.1)
    ∙ sym (append_assoc (lines_of_run labels train r) (lines_of_runs labels (train + 1) (q ∷ rs)) (sweep_line labels s ∷ [])))

pub count_sweep : (old new : List TrainRun) (s : Sweep) → AddsSweep old new s → length new ≡ length old
count_sweep [] new s adds = ap length adds
count_sweep (r ∷ []) new s adds = ap length adds
count_sweep (r ∷ q ∷ rs) [] s adds = absurd adds
count_sweep (r ∷ q ∷ rs) (n ∷ ns) s adds = omega (arith, count_sweep (q ∷ rs) ns s adds.1)

pub cells_sweep : (labels : Labels) (old new : List TrainRun) (s : Sweep) → AddsSweep old new s → HasCells labels s → All (HasCellsOfRun labels) old → All (HasCellsOfRun labels) new
cells_sweep labels [] new s adds cells all = subst (All (HasCellsOfRun labels)) (sym adds) all
cells_sweep labels (r ∷ []) new s adds cells all =
    subst (All (HasCellsOfRun labels)) (sym adds) (All-cons (HasCellsOfRun labels) (record { start = r.start; sweeps = r.sweeps ++ s ∷ [] }) [] (All-push (HasCells labels) r.sweeps s (All-head (HasCellsOfRun labels) r [] all) cells) (All-nil (HasCellsOfRun labels)))
cells_sweep labels (r ∷ q ∷ rs) [] s adds cells all = absurd adds
cells_sweep labels (r ∷ q ∷ rs) (n ∷ ns) s adds cells all =
    All-cons (HasCellsOfRun labels) n ns (subst (HasCellsOfRun labels) (sym adds.0) (All-head (HasCellsOfRun labels) r (q ∷ rs) all)) (cells_sweep labels (q ∷ rs) ns s adds.1 cells (All-tail (HasCellsOfRun labels) r (q ∷ rs) all))

-- the last of the borders, from the number that the next one has at least
pub record EndsWith (borders : List CandidateId) (from : ℕ) : Type 0 where
  pub earlier : List CandidateId
  pub last : CandidateId
  pub is : borders ≡ earlier ++ last ∷ []
  pub above : from ≡ last.0 + 1

pub ends_with : (borders : List CandidateId) (from : ℕ) → IsOneAboveLast borders from → 0 < from → EndsWith borders from
ends_with [] from is some = absurd (omega arith)
ends_with (b ∷ []) from is some = record { earlier = []; last = b; is = refl; above = is }
ends_with (b ∷ c ∷ bs) from is some =
    let end = ends_with (c ∷ bs) from is some in
    record { earlier = b ∷ end.earlier; last = end.last; is = ap (λ xs. b ∷ xs) end.is; above = end.above }

-- what names the last border is below that number
pub below_from : {N : Type 0} (name : CandidateId → N) (borders : List CandidateId) (from : ℕ) (earlier : List N) (last : N) → IsOneAboveLast borders from → map name borders ≡ earlier ++ last ∷ []
    → (b : CandidateId) × (name b ≡ last) × (from ≡ b.0 + 1) × ((P : CandidateId → Type 0) → All P borders → P b)
below_from name [] from [] last is same = absurd (omega (arith, ap length same))
below_from name [] from (x ∷ earlier) last is same = absurd (omega (arith, ap length same))
below_from name (b ∷ []) from [] last is same = (b, cc, is, λ P all. All-head P b [] all)
below_from name (b ∷ []) from (x ∷ earlier) last is same = absurd (omega (arith, ap length same, length-append earlier (last ∷ [])))
below_from name (b ∷ c ∷ bs) from [] last is same = absurd (omega (arith, ap length same))
below_from name (b ∷ c ∷ bs) from (x ∷ earlier) last is same =
    let inner : map name (c ∷ bs) ≡ earlier ++ last ∷ [] = cc in
    let more = below_from name (c ∷ bs) from earlier last is inner in
    (more.0, more.1, more.2, λ P all. more.3 P (All-tail P b (c ∷ bs) all))

pub from_push : (borders : List CandidateId) (b : CandidateId) → IsOneAboveLast (borders ++ b ∷ []) (b.0 + 1)
from_push [] b = refl
from_push (x ∷ []) b = refl
from_push (x ∷ y ∷ bs) b = from_push (y ∷ bs) b

pub rising_push : (borders : List CandidateId) (b : CandidateId) (from : ℕ) → AreRising borders → IsOneAboveLast borders from → from ≤ b.0 → AreRising (borders ++ b ∷ [])
rising_push [] b from rising is above = tt
rising_push (x ∷ []) b from rising is above = (omega arith, tt)
rising_push (x ∷ y ∷ bs) b from rising is above = (rising.0, rising_push (y ∷ bs) b from rising.1 is above)
