-- Why `DesignParts::take` does what its contract says.
use Rattle.std.proofs.Common.{◌≡◌, ◌++◌, ◌∷◌, [], refl, sym, subst}
use Rattle.vss_report.specs.Lines.{count, smaller_none, refutes, end_line}
use Rattle.vss_report.specs.Readings.{SaysLine}
use Rattle.vss_report.specs.Taken.{AreTaken, TakesLine}
use Rattle.vss_report.proofs.RefutationLemmas.{on_ok_then}
use Rattle.vss_report.proofs.TakenLemmas.{count_taken, plain_taken, other_taken, other_line, all_runs, begun}
use Rattle.vss_report.proofs.design_parts.DesignParts.take.Goals as goal

pub returns-in-Count-clause-ok : goal.returns-in-Count-clause-ok
returns-in-Count-clause-ok c = λ l says lines behind taken.
    let is : l ≡ count c.in-Count.field-0 = subst (λ f. SaysLine f l) c.in-Count.is says in
    subst (λ x. AreTaken c.args.scene.now.labels (lines ++ x ∷ []) (begun c.args.self.now)) (sym is) (count_taken c.args.scene.now.labels lines c.args.self.now (begun c.args.self.now) c.in-Count.field-0 taken refl refl refl refl)

pub returns-in-SmallerNone-clause-ok : goal.returns-in-SmallerNone-clause-ok
returns-in-SmallerNone-clause-ok c = λ l says.
    let is : l ≡ smaller_none = subst (λ f. SaysLine f l) c.in-SmallerNone.is says in
    on_ok_then c.end_runs.result _ _ c.end_runs.ensures.ok (λ all. subst (TakesLine c.args.scene.now.labels c.args.self.now c.args.self.now) (sym is)
    (λ lines behind taken. plain_taken c.args.scene.now.labels lines c.args.self.now smaller_none tt (all_runs c.args.scene.now.labels lines c.args.self.now taken all) taken))

pub returns-in-Refutes-clause-ok : goal.returns-in-Refutes-clause-ok
returns-in-Refutes-clause-ok c = λ l says.
    let is : l ≡ refutes c.in-Refutes.field-0 = subst (λ f. SaysLine f l) c.in-Refutes.is says in
    on_ok_then c.end_runs-in-Refutes.result _ _ c.end_runs-in-Refutes.ensures.ok (λ all. subst (TakesLine c.args.scene.now.labels c.args.self.now c.args.self.now) (sym is)
    (λ lines behind taken. plain_taken c.args.scene.now.labels lines c.args.self.now (refutes c.in-Refutes.field-0) tt (all_runs c.args.scene.now.labels lines c.args.self.now taken all) taken))

pub returns-in-End-clause-ok : goal.returns-in-End-clause-ok
returns-in-End-clause-ok c = λ l says.
    let is : l ≡ end_line = subst (λ f. SaysLine f l) c.in-End.is says in
    on_ok_then c.end_runs-in-End.result _ _ c.end_runs-in-End.ensures.ok (λ all. subst (TakesLine c.args.scene.now.labels c.args.self.now c.args.self.now) (sym is)
    (λ lines behind taken. plain_taken c.args.scene.now.labels lines c.args.self.now end_line tt (all_runs c.args.scene.now.labels lines c.args.self.now taken all) taken))

pub returns-in_default-clause-ok : goal.returns-in_default-clause-ok
returns-in_default-clause-ok c = λ l says lines behind taken. other_taken c.args.scene.now.labels lines c.args.self.now c.args.line.now l
    (other_line c.args.line.now c.in_default.not-Count c.in_default.not-Cut c.in_default.not-Joint c.in_default.not-Run c.in_default.not-Sweep c.in_default.not-SmallerNone c.in_default.not-Refutes c.in_default.not-End) says taken
