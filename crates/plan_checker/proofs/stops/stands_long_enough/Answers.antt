-- Why `stands_long_enough` does what its contract says.
use Rattle.std.proofs.Common.{◌≡◌, ◌+◌, arith, rules, true, false, subst}
use Rattle.cell_net.specs.Runs.{IsMet, StandsIn}
use Rattle.plan_checker.proofs.StreakLemmas.{Streak, streak_more, streak_break, streak_met, streak_end}
use Rattle.plan_checker.proofs.StopLemmas.{stands_within}
use Rattle.plan_checker.proofs.stops.stands_long_enough.Goals as goal
use Rattle.plan_checker.proofs.stops.stands_long_enough.Goals.{then-counts_at+else-stood-stop, else-counts_at}

pub returns-then-stood-stop : goal.returns-then-stood-stop
unfolding IsMet
returns-then-stood-stop c =
    let counts = c.if-counts_at.ensures.0 (search rules) in (
      λ _. streak_met (StandsIn c.args.inst.now c.args.train.now c.args.run.now c.args.stop.station) c.args.stop.from c.args.stop.until c.args.stop.dwell
          (c.args.run.now.start + c.loop-place.place) c.loop-place.stood c.loop-place.invariant counts.after counts.before counts.stands c.if-stood-stop.true,
      λ _. search rules,
    )

pub loop-place-preserved : goal.loop-place-preserved
loop-place-preserved c =
    let P = StandsIn c.args.inst.now c.args.train.now c.args.run.now c.args.stop.station in
    let next : (c.args.run.now.start + c.loop-place.place) + 1 ≡ c.args.run.now.start + (c.loop-place.place + 1) = omega arith in
    elim c.if-counts_at.branch [
      | then-counts_at+else-stood-stop w ↦
          let counts = w.if-counts_at.ensures.0 (search rules) in
          let short = c.loop-place.invariant.short in
          let not_yet = w.if-stood-stop.false in
          let more = streak_more P c.args.stop.from c.args.stop.until c.args.stop.dwell (c.args.run.now.start + c.loop-place.place) c.loop-place.stood
          c.loop-place.invariant counts.after counts.stands (omega arith) in
          rw w.stood-is (subst (λ n. Streak P c.args.stop.from c.args.stop.until c.args.stop.dwell n (c.loop-place.stood + 1)) next more)
      | else-counts_at w ↦
          let broken = streak_break P c.args.stop.from c.args.stop.until c.args.stop.dwell (c.args.run.now.start + c.loop-place.place) c.loop-place.stood
          c.loop-place.invariant (λ (after, before, stands). absurd (let counts = w.if-counts_at.ensures.1 (record { after = after; before = before; stands = stands }) in
          let e : false ≡ true = counts in cc)) in
          rw w.stood-is (subst (λ n. Streak P c.args.stop.from c.args.stop.until c.args.stop.dwell n 0) next broken)
    ]

pub returns : goal.returns
unfolding IsMet
returns c = (
  λ f. absurd (let e : false ≡ true = f in cc),
  λ met. absurd (streak_end (StandsIn c.args.inst.now c.args.train.now c.args.run.now c.args.stop.station) c.args.stop.from c.args.stop.until c.args.stop.dwell
      (c.args.run.now.start + c.loop-place.place) c.loop-place.stood c.loop-place.invariant
      (λ k stands. let within = stands_within _ _ _ _ k stands in omega arith) met),
)
