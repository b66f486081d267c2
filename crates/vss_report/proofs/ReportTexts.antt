-- The lines of a report, printed one after another.
use Rattle.std.proofs.Common.{◌≡◌, ◌<◌, ◌≤◌, ◌+◌, ℕ, List, [], ◌∷◌, ◌++◌, Option, Some, None, Result, Ok, Err, length, map, take, drop, get_or, codes, decimal, refl, sym, ap, subst, ◌∙◌, arith, append_assoc, append-nil}
use Rattle.std.specs.Prelude.{IsErr}
use Rattle.std.specs.Borrow.{Bor}
use Rattle.std.specs.List.{flat_map}
use Rattle.std.proofs.Math.Seq.{take-append_seam}
use Rattle.std.proofs.lemmas.Grind.{flat_map-append}
use Rattle.std.proofs.lemmas.List.{at_drop_more, drop_all}
use Rattle.cell_net.specs.declared.cells.DirCell.{DirCell}
use Rattle.cell_net.specs.declared.labels.Labels.{Labels}
use Rattle.cell_net.specs.declared.plans.TrainRun.{TrainRun}
use Rattle.vss_io.specs.Line.{flat, joined, line}
use Rattle.vss_io.specs.Shown.{Output}
use Rattle.vss_io.specs.Written.{followed_by, Prints, PrintsAllBut, PutsFront, PutsAllBut, HasPrinted}
use Rattle.vss_io.proofs.CallLaws.{Prints-stopped, HasPrinted-ended}
use Rattle.vss_report.specs.declared.cells.NamedCell.{NamedCell}
use Rattle.vss_report.specs.Designs.{lines_of_run, lines_of_runs}
use Rattle.vss_report.specs.Found.{name_of_cell}
use Rattle.vss_report.specs.Lines.{ReportLine, conflicts, count, border, run, refutes, cut, joint, CellName, sign, spaced, full_text, text_of_lines}
use Rattle.vss_report.specs.Names.{cell_named}
use Rattle.derivation_log.specs.declared.step.Bound.TheVariants.{AtMost}

-- what was printed as one text was printed as another that is the same
pub prints_same : {T E : Type 0} (before now : Output) (t u : List ℕ) (r : Result T E) → t ≡ u → Prints before now t r → Prints before now u r
prints_same before now t u r e h = subst (λ (x : List ℕ). Prints before now x r) e h

followed_by-nil : (written : Option (List ℕ)) → followed_by written [] ≡ written
followed_by-nil None = refl
followed_by-nil (Some bytes) = ap Some (append-nil bytes)

-- nothing is printed by no call
pub prints_nothing : {T E : Type 0} (output : Output) (x : T) → Prints {T = T} {E = E} output output [] (Ok x)
prints_nothing output x = record { front = record { count = 0; grew = sym (followed_by-nil output.written) }; whole = sym (followed_by-nil output.written); never_falls = omega arith; cause = tt }

-- the next of the texts that are left is printed, or a front of it
pub texts_stopped : {T E U F : Type 0} (before between now : Output) (left text first rest : List ℕ) (e : E) (s : Result U F)
    → HasPrinted before between left text → Prints {T = T} {E = E} between now first (Err e) → first ++ rest ≡ left → IsErr s → Prints before now text s
texts_stopped before between now left text first rest e s so_far more split is = HasPrinted-ended before between now left text s so_far (Prints-stopped between now first rest left e s more split is)

-- all texts are printed
pub texts_ended : {T E : Type 0} (before now : Output) (left text : List ℕ) (x : T) → HasPrinted before now left text → left ≡ [] → Prints {T = T} {E = E} before now text (Ok x)
texts_ended before now left text x so_far none = HasPrinted-ended before now now left text (Ok x) so_far (prints_same now now [] left (Ok x) (sym none) (prints_nothing now x))

-- the lines that are left begin with the next one
pub next_line : {X : Type 0} (line_of : X → ReportLine) (items : List X) (place : ℕ) (x : X) → place < length items → x ≡ get_or items place x
    → full_text (line_of x) ++ text_of_lines (map line_of (drop (place + 1) items)) ≡ text_of_lines (map line_of (drop place items))
next_line line_of items place x within is =
    ap (λ one. full_text (line_of one) ++ text_of_lines (map line_of (drop (place + 1) items))) is ∙ sym (at_drop_more (λ xs. text_of_lines (map line_of xs)) items place x within)

-- the same of the item that stands at the place
pub next_line_at : {X : Type 0} (line_of : X → ReportLine) (items : List X) (place : ℕ) (d : X) → place < length items
    → full_text (line_of (get_or items place d)) ++ text_of_lines (map line_of (drop (place + 1) items)) ≡ text_of_lines (map line_of (drop place items))
next_line_at line_of items place d within = sym (at_drop_more (λ xs. text_of_lines (map line_of xs)) items place d within)

pub no_line : {X : Type 0} (line_of : X → ReportLine) (items : List X) (place : ℕ) → length items ≤ place → text_of_lines (map line_of (drop place items)) ≡ []
no_line line_of items place past = ap (λ xs. text_of_lines (map line_of xs)) (drop_all place items past)

pub next_run : (labels : Labels) (runs : List TrainRun) (place : ℕ) (r : TrainRun) → place < length runs → r ≡ get_or runs place r
    → text_of_lines (lines_of_run labels place r) ++ text_of_lines (lines_of_runs labels (place + 1) (drop (place + 1) runs)) ≡ text_of_lines (lines_of_runs labels place (drop place runs))
next_run labels runs place r within is =
    ap (λ one. text_of_lines (lines_of_run labels place one) ++ text_of_lines (lines_of_runs labels (place + 1) (drop (place + 1) runs))) is
    ∙ (sym (flat_map-append full_text (lines_of_run labels place (get_or runs place r)) (lines_of_runs labels (place + 1) (drop (place + 1) runs)))
    ∙ sym (at_drop_more (λ rs. text_of_lines (lines_of_runs labels place rs)) runs place r within))

pub no_run : (labels : Labels) (runs : List TrainRun) (place : ℕ) → length runs ≤ place → text_of_lines (lines_of_runs labels place (drop place runs)) ≡ []
no_run labels runs place past = ap (λ rs. text_of_lines (lines_of_runs labels place rs)) (drop_all place runs past)

-- lines behind others
pub behind_lines : (lines more : List ReportLine) → text_of_lines lines ++ text_of_lines more ≡ text_of_lines (lines ++ more)
behind_lines lines more = sym (flat_map-append full_text lines more)

-- the pieces of a line are its text
pub conflicts_line : (n : ℕ) → line (flat (codes "conflicts " ∷ decimal n ∷ [])) ≡ full_text (conflicts n)
conflicts_line n = ap (λ t. line (codes "conflicts " ++ t)) (append-nil (decimal n))

pub count_line : (n : ℕ) → line (flat (codes "design " ∷ decimal n ∷ [])) ≡ full_text (count n)
count_line n = ap (λ t. line (codes "design " ++ t)) (append-nil (decimal n))

pub most_line : (n : ℕ) → line (flat (codes "refutes " ∷ decimal n ∷ [])) ≡ full_text (refutes (AtMost n))
most_line n = ap (λ t. line (codes "refutes " ++ t)) (append-nil (decimal n))

pub run_line : (train : List ℕ) (n : ℕ) → line (flat (codes "run " ∷ train ∷ codes " " ∷ decimal n ∷ [])) ≡ full_text (run train n)
run_line train n = ap (λ t. line (codes "run " ++ (train ++ 32 ∷ t))) (append-nil (decimal n))

pub cut_line : (track : List ℕ) (n : ℕ) → line (flat (codes "border cut " ∷ track ∷ codes " " ∷ decimal n ∷ [])) ≡ full_text (border (cut track n))
cut_line track n = ap (λ t. line (codes "border cut " ++ (track ++ 32 ∷ t))) (append-nil (decimal n))

pub joint_line : (name : List ℕ) → line (flat (codes "border joint " ∷ name ∷ [])) ≡ full_text (border (joint name))
joint_line name = ap (λ t. line (codes "border joint " ++ t)) (append-nil name)

-- what was printed but for what is kept
pub kept_same : {T E : Type 0} (before now : Output) (keeps t u : List ℕ) (r : Result T E) → t ≡ u → PrintsAllBut before now keeps t r → PrintsAllBut before now keeps u r
kept_same before now keeps t u r e h = subst (λ (x : List ℕ). PrintsAllBut before now keeps x r) e h

-- the pieces of a cell's name are its text
pub cell_pieces : (named : NamedCell) (name : CellName) → name_of_cell named ≡ name → flat (codes " " ∷ named.track.now ∷ codes ":" ∷ decimal named.index ∷ sign named.end ∷ []) ≡ spaced name
cell_pieces named name is = ap (λ t. 32 ∷ (named.track.now ++ 58 ∷ (decimal named.index ++ t))) (append-nil (sign named.end)) ∙ ap spaced is

-- the cells, the pieces that are left begin with the next one
pub next_cell : (labels : Labels) (text : List ℕ) (cells : List DirCell) (place : ℕ) (d : DirCell) → place < length cells
    → (text ++ spaced (cell_named labels (get_or cells place d))) ++ flat_map spaced (map (cell_named labels) (drop (place + 1) cells)) ≡ text ++ flat_map spaced (map (cell_named labels) (drop place cells))
next_cell labels text cells place d within =
    append_assoc text (spaced (cell_named labels (get_or cells place d))) (flat_map spaced (map (cell_named labels) (drop (place + 1) cells)))
    ∙ ap (λ back. text ++ back) (sym (at_drop_more (λ ds. flat_map spaced (map (cell_named labels) ds)) cells place d within))

pub no_cell : (labels : Labels) (text : List ℕ) (cells : List DirCell) (place : ℕ) → length cells ≤ place → text ++ flat_map spaced (map (cell_named labels) (drop place cells)) ≡ text
no_cell labels text cells place past = ap (λ ds. text ++ flat_map spaced (map (cell_named labels) ds)) (drop_all place cells past) ∙ append-nil text

pub next_piece : (text : List ℕ) (pieces : List (Bor (List ℕ))) (place : ℕ) (d : Bor (List ℕ)) → place < length pieces → (text ++ (get_or pieces place d).now) ++ joined (drop (place + 1) pieces) ≡ text ++ joined (drop place pieces)
next_piece text pieces place d within =
    append_assoc text (get_or pieces place d).now (joined (drop (place + 1) pieces)) ∙ ap (λ back. text ++ back) (sym (at_drop_more joined pieces place d within))

pub no_piece : (text : List ℕ) (pieces : List (Bor (List ℕ))) (place : ℕ) → length pieces ≤ place → text ++ joined (drop place pieces) ≡ text
no_piece text pieces place past = ap (λ ps. text ++ joined ps) (drop_all place pieces past) ∙ append-nil text

-- all is printed but what is kept
pub all_kept : {T E : Type 0} (before now : Output) (left text keeps : List ℕ) (x : T) → HasPrinted before now left text → left ≡ keeps → PrintsAllBut {T = T} {E = E} before now keeps text (Ok x)
all_kept before now left text keeps x so_far same = record {
  front = PutsAllBut-front before.written now.written left text so_far.all_but;
  added = subst (λ k. PutsAllBut before.written now.written k text) same so_far.all_but;
  never_falls = so_far.never_falls;
  cause = tt;
}
  where
    PutsAllBut-front : (before now : Option (List ℕ)) (kept bytes : List ℕ) → PutsAllBut before now kept bytes → PutsFront before now bytes
    PutsAllBut-front before now kept bytes all = record { count = length all.put; grew = all.grew ∙ ap (followed_by before) (sym (ap (take (length all.put)) (sym all.rest) ∙ take-append_seam all.put kept)) }
