-- Why `name` does what its contract says.
use Rattle.std.proofs.Common.{inl, inr, arith, sym, ◌∙◌}
use Rattle.vss_report.proofs.PartLemmas.{IsNameFront-name, IsNameFront-stops, IsNameFront-more, IsNameFront-ends}
use Rattle.vss_report.proofs.parts.name.Goals as goal
use Rattle.vss_report.proofs.parts.name.Goals.{then-count-eq32-via-then-count-eq32, then-count-eq32-via-else-count-eq32+then-not-is_name_byte}

pub returns-then-count-eq0-clause-missed : goal.returns-then-count-eq0-clause-missed
returns-then-count-eq0-clause-missed c =
    IsNameFront-stops c.args.text.now c.args.end c.loop-count.count c.requires c.loop-count.invariant c.loop-count-test.true (λ _. c.if-count-eq0.true) (λ no_end. absurd (no_end c.if-byte-end.true))

pub returns-else-count-eq0-clause-fits : goal.returns-else-count-eq0-clause-fits
returns-else-count-eq0-clause-fits c = IsNameFront-name c.args.text.now c.loop-count.count c.loop-count.invariant (omega arith) (omega arith)

pub returns-then-count-eq32-clause-missed : goal.returns-then-count-eq32-clause-missed
returns-then-count-eq32-clause-missed c =
    IsNameFront-stops c.args.text.now c.args.end c.loop-count.count c.requires c.loop-count.invariant c.loop-count-test.true (λ is. absurd (c.if-byte-end.false is))
    (λ _. elim c.then-count-eq32.branch [
      | then-count-eq32-via-then-count-eq32 w ↦ inl w.if-count-eq32.true
      | then-count-eq32-via-else-count-eq32+then-not-is_name_byte w ↦ inr (sym w.is_name_byte.ensures ∙ w.if-not-is_name_byte.true)
    ])

pub loop-count-preserved : goal.loop-count-preserved
loop-count-preserved c = IsNameFront-more c.args.text.now c.loop-count.count c.loop-count.invariant c.if-count-eq32.false (sym c.is_name_byte.ensures ∙ c.if-not-is_name_byte.false)

pub returns-clause-missed : goal.returns-clause-missed
returns-clause-missed c = IsNameFront-ends c.args.text.now c.args.end c.loop-count.count c.loop-count.invariant (omega arith)
