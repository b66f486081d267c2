-- One line is printed behind the other.
use Rattle.std.proofs.Common.{length, refl}
use Rattle.std.specs.Prelude.{codes}
use Rattle.vss_io.proofs.CallLaws.{Prints-then, Prints-stopped}
use Rattle.case_texts.specs.Summaries.{counted_line, space_text}
use Rattle.case_texts.proofs.summary.print_space.Goals as goal

pub returns-in_err-print_counted : goal.returns-in_err-print_counted
unfolding space_text
returns-in_err-print_counted g c = Prints-stopped _ _ (counted_line (codes "cells ") (length c.args.inst.now.cells)) (counted_line (codes "candidates ") (length c.args.inst.now.candidates)) _ _ _
    (rw c.cell_count.ensures.value at c.in_err-print_counted.ensures) refl c.from_residual.ensures.0

pub returns : goal.returns
unfolding space_text
returns g c = Prints-then _ _ _ (counted_line (codes "cells ") (length c.args.inst.now.cells)) (counted_line (codes "candidates ") (length c.args.inst.now.candidates)) _ _ _
    (rw c.cell_count.ensures.value at c.in_ok-print_counted.ensures) (rw c.candidate_count.ensures.value at c.print_counted-2.ensures) refl
