-- Why `read_design` does what its contract says.
use Rattle.std.proofs.Common.{sym, ap, length, ◌∙◌, arith}
use Rattle.vss_report.proofs.DesignLemmas.{of_line, is_border_set, few_borders, one_run_each, short_runs, states_design, is_false, is_true}
use Rattle.vss_report.proofs.design_reader.read_design.Goals as goal

pub returns-then-not-parts-clause-reading : goal.returns-then-not-parts-clause-reading
returns-then-not-parts-clause-reading c = record {
  report = c.in-Ok.ensures.parts.report;
  fit = c.in-Ok.ensures.parts.taken.fit;
  nothing = sym c.in-Ok.ensures.parts.taken.begun ∙ is_false c.in-Ok.parts.begun c.if-not-parts.true;
}

pub returns-in-Err-clause-reading : goal.returns-in-Err-clause-reading
returns-in-Err-clause-reading c = of_line c.args.scene.now.labels c.args.bytes.now c.in-Err.fault c.in-Err.ensures.fault

pub new-requires : goal.new-requires
new-requires c = omega (arith, few_borders c.args.scene.now.labels c.args.bytes.now c.in-Ok.parts c.in-Ok.ensures.parts, c.requires)

pub unreachable-requires : goal.unreachable-requires
unreachable-requires c =
    c.layout_refusals_are_exclusive.ensures.borders c.args.scene.now.inst c.in-Ok.parts.borders.items c.in-Err-new.field-0 c.in-Err-new.ensures.refusal
    (is_border_set c.args.scene.now.inst c.args.scene.now.labels c.args.bytes.now c.in-Ok.parts c.args.scene.now.labelled c.in-Ok.ensures.parts)

pub returns-clause-reading : goal.returns-clause-reading
returns-clause-reading c = states_design c.args.scene.now.labels c.args.bytes.now c.in-Ok.parts c.in-Ok.ensures.parts (is_true c.in-Ok.parts.begun c.if-not-parts.false) _ _ c.in-Ok-new.ensures.borders c.from_vec-runs.ensures

pub returns-clause-runs : goal.returns-clause-runs
returns-clause-runs c =
    omega (arith, ap length c.from_vec-runs.ensures, one_run_each c.args.scene.now.labels c.args.bytes.now c.in-Ok.parts c.in-Ok.ensures.parts (is_true c.in-Ok.parts.begun c.if-not-parts.false), c.args.scene.now.labelled.trains)

pub returns-clause-short : goal.returns-clause-short
returns-clause-short c = rw c.from_vec-runs.ensures (short_runs c.args.scene.now.labels c.args.bytes.now c.in-Ok.parts c.in-Ok.ensures.parts)
