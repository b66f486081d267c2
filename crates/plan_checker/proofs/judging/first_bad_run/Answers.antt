-- Why `first_bad_run` does what its contract says.
use Rattle.std.proofs.Common.{length, refl, arith}
use Rattle.std.proofs.lemmas.Option.{slice_get_read}
use Rattle.plan_checker.proofs.JudgingLemmas.{runs_more, fails_here}
use Rattle.plan_checker.proofs.judging.first_bad_run.Goals as goal

pub returns-in-Some : goal.returns-in-Some
returns-in-Some c =
    fails_here c.args.inst.now c.args.runs.now c.loop-number.number c.index-runs-number.result c.in-Some.breach c.loop-number.invariant
    (omega (arith, c.train_count-number-end.ensures.value))
    (slice_get_read c.args.runs.now (length c.args.runs.now) c.loop-number.number c.index-runs-number.result refl (omega (arith, c.train_count-number-end.ensures.value)) c.index-runs-number.is)
    (λ t spec. rw c.in-Some.is at (c.in_ok-breach.ensures t spec))

pub loop-number-preserved : goal.loop-number-preserved
loop-number-preserved c =
    runs_more c.args.inst.now c.args.runs.now c.loop-number.number c.index-runs-number.result c.loop-number.invariant
    (slice_get_read c.args.runs.now (length c.args.runs.now) c.loop-number.number c.index-runs-number.result refl (omega (arith, c.train_count-number-end.ensures.value)) c.index-runs-number.is)
    (λ t spec. rw c.in_default.is at (c.in_ok-breach.ensures t spec))

pub returns : goal.returns
returns c k t r low spec there = c.loop-number.invariant k t r (omega (arith, c.train_count-number-end.ensures.value)) spec there
