-- Why `read_refutation` does what its contract says.
use Rattle.std.proofs.Common.{◌≡◌, refl, sym, subst, ◌∙◌}
use Rattle.vss_report.specs.Places.{place_after}
use Rattle.vss_report.specs.Refutations.{IsFault}
use Rattle.vss_report.specs.declared.place.Place.TheVariants.{Finished}
use Rattle.vss_report.proofs.CountLemmas.{some_left, none_left}
use Rattle.vss_report.proofs.RefutationLemmas.{IsReadTo, none_gathered, more_gathered, err_tells, ok_tells, reaches_step, wrong_here, wrong_behind, states, states_none}
use Rattle.vss_report.proofs.ReportLengths.{short_log}
use Rattle.vss_report.proofs.refutation.read_refutation.Goals as goal

pub loop-alloc-init : goal.loop-alloc-init
loop-alloc-init c =
    let first = none_gathered c.args.bytes.now c.new-gathered.result c.new-gathered.ensures in
    record { read = first.0; gathered = first.1 }

pub returns-then-is_err-clause-reading : goal.returns-then-is_err-clause-reading
returns-then-is_err-clause-reading c =
    reaches_step c.args.bytes.now c.loop-alloc.number c.loop-alloc.place c.loop-alloc.rest.now c.in-Ok.behind.now c.in-Ok.line c.loop-alloc.invariant.read c.in-Ok.ensures.found
    (err_tells c.take.result _ (sym c.is_err.ensures.value ∙ c.if-is_err.true) c.take.ensures.err)

pub loop-alloc-preserved : goal.loop-alloc-preserved
loop-alloc-preserved c =
    let line = c.in-Ok.ensures.found in
    let place_is : c.after-place.result ≡ place_after c.loop-alloc.place line.line = c.after-place.ensures line.line line.says in
    let gathered = ok_tells c.take.result _ (sym c.is_err.ensures.value ∙ c.if-is_err.false) c.take.ensures.ok c.loop-alloc.invariant.read.lines line.line c.loop-alloc.invariant.gathered line.fits.spelled line.says c.loop-alloc.invariant.read.counted in
    let more = more_gathered c.args.bytes.now c.loop-alloc.number c.loop-alloc.place c.loop-alloc.rest.now c.in-Ok.behind.now line.line c.take.new.self c.loop-alloc.invariant.read line.fits line.is_front gathered in
    rw place_is (record { read = more.0; gathered = more.1 })

pub returns-in-Err-clause-reading : goal.returns-in-Err-clause-reading
returns-in-Err-clause-reading c =
    let wrong = wrong_here c.args.bytes.now c.loop-alloc.number c.loop-alloc.place c.loop-alloc.rest.now c.in-Err.fault c.loop-alloc.invariant.read c.in-Err.ensures.wrong in
    subst (IsFault c.args.bytes.now) (sym wrong.1) wrong.2

pub returns-then-not-is_empty-clause-reading : goal.returns-then-not-is_empty-clause-reading
returns-then-not-is_empty-clause-reading c =
    let finished : c.loop-alloc.place ≡ Finished = c.loop-alloc-test.ensures.0 refl in
    wrong_behind c.args.bytes.now c.loop-alloc.number c.loop-alloc.rest.now (subst (λ p. IsReadTo c.args.bytes.now c.loop-alloc.number p c.loop-alloc.rest.now) finished c.loop-alloc.invariant.read)
    (some_left c.loop-alloc.rest.now c.is_empty.result c.is_empty.ensures c.if-not-is_empty.true)

pub returns-in-Some-clause-reading : goal.returns-in-Some-clause-reading
returns-in-Some-clause-reading c =
    states c.args.bytes.now c.loop-alloc.number c.loop-alloc.place c.loop-alloc.rest.now c.loop-alloc.gathered _ c.in-Some.bound c.in-Some.line (c.loop-alloc-test.ensures.0 refl)
    (none_left c.loop-alloc.rest.now c.is_empty.result c.is_empty.ensures c.if-not-is_empty.false) c.loop-alloc.invariant.read c.loop-alloc.invariant.gathered c.in-Some.is refl c.from_vec-steps.ensures

pub returns-in-Some-clause-short : goal.returns-in-Some-clause-short
returns-in-Some-clause-short c =
    short_log c.args.bytes.now (record { bound = c.in-Some.bound; log = record { steps = c.from_vec-steps.result } }) c.in-Some.line
    (states c.args.bytes.now c.loop-alloc.number c.loop-alloc.place c.loop-alloc.rest.now c.loop-alloc.gathered _ c.in-Some.bound c.in-Some.line (c.loop-alloc-test.ensures.0 refl)
    (none_left c.loop-alloc.rest.now c.is_empty.result c.is_empty.ensures c.if-not-is_empty.false) c.loop-alloc.invariant.read c.loop-alloc.invariant.gathered c.in-Some.is refl c.from_vec-steps.ensures)

pub returns-in-None-clause-reading : goal.returns-in-None-clause-reading
returns-in-None-clause-reading c =
    states_none c.args.bytes.now c.loop-alloc.number c.loop-alloc.place c.loop-alloc.rest.now c.loop-alloc.gathered (c.loop-alloc-test.ensures.0 refl)
    (none_left c.loop-alloc.rest.now c.is_empty.result c.is_empty.ensures c.if-not-is_empty.false) c.loop-alloc.invariant.read c.loop-alloc.invariant.gathered c.in-None.is
