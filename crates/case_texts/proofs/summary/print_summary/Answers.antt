-- Space, time and ending are printed in turn.
use Rattle.std.proofs.Common.{◌++◌, refl}
use Rattle.std.proofs.lemmas.List.{append_assoc}
use Rattle.vss_io.proofs.CallLaws.{Prints-then, Prints-stopped}
use Rattle.case_texts.specs.Summaries.{ending_text, space_text, summary_text, time_text}
use Rattle.case_texts.proofs.summary.print_summary.Goals as goal

pub returns-in_err-print_space : goal.returns-in_err-print_space
unfolding summary_text
returns-in_err-print_space g c =
    Prints-stopped _ _ (space_text c.args.inst.now) (time_text c.args.inst.now ++ ending_text c.args.outcome.now) _ _ _
    c.in_err-print_space.ensures refl c.from_residual.ensures.0

pub returns-in_err-print_time : goal.returns-in_err-print_time
unfolding summary_text
returns-in_err-print_time g c =
    let space = space_text c.args.inst.now in
    let time = time_text c.args.inst.now in
    let ending = ending_text c.args.outcome.now in
    let so_far = Prints-then _ _ _ space time (space ++ time) _ _ c.in_ok-print_space.ensures c.in_err-print_time.ensures refl in
    Prints-stopped _ _ (space ++ time) ending _ _ _ so_far (append_assoc space time ending) c.from_residual-in_err-print_time.ensures.0

pub returns : goal.returns
unfolding summary_text
returns g c =
    let space = space_text c.args.inst.now in
    let time = time_text c.args.inst.now in
    let ending = ending_text c.args.outcome.now in
    let so_far = Prints-then _ _ _ space time (space ++ time) _ _ c.in_ok-print_space.ensures c.in_ok-print_time.ensures refl in
    Prints-then _ _ _ (space ++ time) ending _ _ _ so_far c.print_ending.ensures (append_assoc space time ending)
