-- One line is printed behind the other.
use Rattle.std.proofs.Common.{length, refl}
use Rattle.std.specs.Prelude.{codes}
use Rattle.vss_io.proofs.CallLaws.{Prints-then, Prints-stopped}
use Rattle.case_texts.specs.Summaries.{counted_line, time_text}
use Rattle.case_texts.proofs.summary.print_time.Goals as goal

pub returns-in_err-print_counted : goal.returns-in_err-print_counted
unfolding time_text
returns-in_err-print_counted g c = Prints-stopped _ _ (counted_line (codes "trains ") (length c.args.inst.now.trains)) (counted_line (codes "steps ") (c.args.inst.now.steps)) _ _ _
    (rw c.train_count.ensures.value at c.in_err-print_counted.ensures) refl c.from_residual.ensures.0

pub returns : goal.returns
unfolding time_text
returns g c = Prints-then _ _ _ (counted_line (codes "trains ") (length c.args.inst.now.trains)) (counted_line (codes "steps ") (c.args.inst.now.steps)) _ _ _
    (rw c.train_count.ensures.value at c.in_ok-print_counted.ensures) (rw c.steps.ensures at c.print_counted-2.ensures) refl
