-- The verdict, then the borders, then the end.
use Rattle.std.proofs.Common.{◌++◌, ◌∷◌, [], refl}
use Rattle.std.specs.Prelude.{codes}
use Rattle.std.proofs.lemmas.List.{append_assoc}
use Rattle.vss_io.specs.Line.{flat, line}
use Rattle.vss_io.proofs.CallLaws.{Prints-then, Prints-stopped}
use Rattle.case_texts.specs.Summaries.{borders_text, ending_text, verdict_of}
use Rattle.case_texts.proofs.summary.print_ending.Goals as goal

pub returns-in_err-print_line : goal.returns-in_err-print_line
unfolding ending_text
returns-in_err-print_line g c =
    let verdict = line (flat (codes "verdict " ∷ verdict_of c.args.outcome.now ∷ [])) in
    Prints-stopped _ _ verdict (borders_text c.args.outcome.now ++ line (codes "end")) _ _ _
    (rw c.verdict_word.ensures at c.in_err-print_line.ensures) refl c.from_residual.ensures.0

pub returns-in_err-print_borders : goal.returns-in_err-print_borders
unfolding ending_text
returns-in_err-print_borders g c =
    let verdict = line (flat (codes "verdict " ∷ verdict_of c.args.outcome.now ∷ [])) in
    let borders = borders_text c.args.outcome.now in
    let so_far = Prints-then _ _ _ verdict borders (verdict ++ borders) _ _
    (rw c.verdict_word.ensures at c.in_ok-print_line.ensures) c.in_err-print_borders.ensures refl in
    Prints-stopped _ _ (verdict ++ borders) (line (codes "end")) _ _ _ so_far (append_assoc verdict borders (line (codes "end"))) c.from_residual-in_err-print_borders.ensures.0

pub returns : goal.returns
unfolding ending_text
returns g c =
    let verdict = line (flat (codes "verdict " ∷ verdict_of c.args.outcome.now ∷ [])) in
    let borders = borders_text c.args.outcome.now in
    let so_far = Prints-then _ _ _ verdict borders (verdict ++ borders) _ _
    (rw c.verdict_word.ensures at c.in_ok-print_line.ensures) c.in_ok-print_borders.ensures refl in
    Prints-then _ _ _ (verdict ++ borders) (line (codes "end")) _ _ _ so_far c.print_line-2.ensures (append_assoc verdict borders (line (codes "end")))
