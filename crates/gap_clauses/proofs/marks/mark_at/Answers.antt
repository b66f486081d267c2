-- Why `mark_at` does what its contract says.
use Rattle.std.proofs.Common.{refl}
use Rattle.gap_clauses.proofs.MarkLemmas.{mark_one}
use Rattle.gap_clauses.proofs.SpanLemmas.{span_more}
use Rattle.gap_clauses.proofs.marks.mark_at.Goals as goal

pub returns-in-Some-clause-marks : goal.returns-in-Some-clause-marks
returns-in-Some-clause-marks c = mark_one c.args.candidates.now c.args.node c.args.marks.now _ c.in-Some.at c.requires.nodes c.in-Some.ensures.0 c.in-Some.ensures.1 c.requires.few refl

pub returns-in-Some-clause-span : goal.returns-in-Some-clause-span
returns-in-Some-clause-span c = span_more _ c.in-Some.at c.args.marks.now _ c.args.span.now _ c.requires.span c.widened.ensures c.in-Some.ensures.0 refl
