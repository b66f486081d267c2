-- Why `next_line` does what its contract says.
use Rattle.vss_report.proofs.NextLemmas.{wrong_at, short_at_end, short_in_line}
use Rattle.vss_report.proofs.next_line.next_line.Goals as goal

pub returns-in-Err-Wrong-clause-wrong : goal.returns-in-Err-Wrong-clause-wrong
returns-in-Err-Wrong-clause-wrong c = wrong_at c.args.place c.args.number c.args.text.now c.requires.due (rw c.in-Err-Wrong.field-0-is at c.in-Err-Wrong.ensures.missed)

pub returns-then-is_empty-clause-wrong : goal.returns-then-is_empty-clause-wrong
returns-then-is_empty-clause-wrong c = short_at_end c.args.place c.args.number c.args.text.now c.is_empty.result c.is_empty.ensures c.if-is_empty.true (rw c.in-Err-Short.field-0-is at c.in-Err-Short.ensures.missed)

pub returns-else-is_empty-clause-wrong : goal.returns-else-is_empty-clause-wrong
returns-else-is_empty-clause-wrong c = short_in_line c.args.place c.args.number c.args.text.now c.is_empty.result c.is_empty.ensures c.if-is_empty.false (rw c.in-Err-Short.field-0-is at c.in-Err-Short.ensures.missed)
