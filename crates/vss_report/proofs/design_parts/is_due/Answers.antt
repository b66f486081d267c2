-- Why `is_due` does what its contract says.
use Rattle.std.proofs.Common.{sym}
use Rattle.vss_report.proofs.TakenLemmas.{due_same}
use Rattle.vss_report.proofs.design_parts.is_due.Goals as goal

pub returns-in-Some : goal.returns-in-Some
returns-in-Some c = due_same _ c.in-Some.due.now c.args.name.now c.is_same.result (sym c.in-Some.ensures.value) (rw c.as_bytes.ensures at c.is_same.ensures)
