-- The pieces of two cells make the line of two trains that are not apart.
use Rattle.std.proofs.Common.{decimal}
use Rattle.vss_report.specs.Names.{train_name}
use Rattle.vss_answers.specs.PrintedNames.{cell_name}
use Rattle.vss_answers.specs.Texts.{apart_text}
use Rattle.vss_answers.proofs.Pieces.{prints_same, apart_line}
use Rattle.vss_answers.proofs.breach.print_apart.Goals as goal

pub returns : goal.returns
unfolding apart_text
returns g c =
    let labels = c.args.labels.now in
    let same = apart_line (train_name labels c.args.a) (train_name labels c.args.b) (decimal c.args.step)
    c.new-e.result.track.now c.new-e.result.colon.now c.new-e.result.index.now c.new-f.result.track.now c.new-f.result.colon.now c.new-f.result.index.now
    (cell_name labels c.args.e) (cell_name labels c.args.f) c.new-e.ensures c.new-f.ensures in
    prints_same _ _ _ _ _ same (rw (c.name_of_train-a.ensures, c.name_of_train-b.ensures, c.as_bytes-step.ensures.value, c.format.ensures.text) at c.print_line.ensures)
