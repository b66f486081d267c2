-- Why `test_tracks` does what its contract says.
use Rattle.std.proofs.Common.{refl, subst}
use Rattle.vss_lists.specs.Breaks.{BreaksFirstAt, HoldsOfEach}
use Rattle.rail_net.specs.declared.refusal.ListKind.TheVariants.{Borders, Tracks}
use Rattle.discretise.specs.Refusals.{HasSomeLimit, IsOnGrid, track_rules}
use Rattle.discretise.specs.declared.refusal.CutFault.TheVariants.{BorderOffGrid, LimitTooLow}
use Rattle.discretise.proofs.RuleLemmas.{told_place}
use Rattle.discretise.proofs.rules.test_tracks.Goals as goal

pub returns-in-Some-clause-refusal : goal.returns-in-Some-clause-refusal
returns-in-Some-clause-refusal c =
    let broken = subst (λ items. BreaksFirstAt (HasSomeLimit c.args.timetable.now) items c.in-Some.item) c.as_slice.ensures c.in-Some.ensures in
    told_place (track_rules c.args.parts.now c.args.timetable.now) 0 LimitTooLow Tracks c.in-Some.item c.named.result c.named.ensures (c.in-Some.item, refl, broken)

pub returns-in-Some-first_off-clause-refusal : goal.returns-in-Some-first_off-clause-refusal
returns-in-Some-first_off-clause-refusal c =
    let kept = subst (HoldsOfEach (HasSomeLimit c.args.timetable.now)) c.as_slice.ensures c.in-None.ensures in
    let broken = subst (λ items. BreaksFirstAt (IsOnGrid c.args.timetable.now) items c.in-Some-first_off.item) c.as_slice-2.ensures c.in-Some-first_off.ensures in
    told_place (track_rules c.args.parts.now c.args.timetable.now) 1 BorderOffGrid Borders c.in-Some-first_off.item c.named-in-Some-first_off.result c.named-in-Some-first_off.ensures (kept, (c.in-Some-first_off.item, refl, broken))
