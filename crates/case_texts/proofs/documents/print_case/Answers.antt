-- One document is printed behind the other.
use Rattle.std.proofs.Common.{refl}
use Rattle.vss_io.proofs.CallLaws.{Prints-then, Prints-stopped}
use Rattle.case_texts.proofs.documents.print_case.Goals as goal

pub returns-in_err-print_text : goal.returns-in_err-print_text
returns-in_err-print_text g c = Prints-stopped _ _ c.args.network.now c.args.timetable.now _ _ _ c.in_err-print_text.ensures refl c.from_residual.ensures.0

pub returns : goal.returns
returns g c = Prints-then _ _ _ c.args.network.now c.args.timetable.now _ _ _ c.in_ok-print_text.ensures c.print_text-2.ensures refl
