-- Why `test_trains` does what its contract says.
use Rattle.std.proofs.Common.{refl, subst}
use Rattle.vss_lists.specs.Breaks.{BreaksFirstAt, HoldsOfEach}
use Rattle.rail_net.specs.declared.refusal.ListKind.TheVariants.{Trains}
use Rattle.discretise.specs.Refusals.{ArrivesInTime, EntersInTime, HasTimeForStops, HasWindow, IsNotTooFast, IsNotTooLong, IsNotTooSlow, train_rules}
use Rattle.discretise.specs.declared.refusal.CutFault.TheVariants.{ArrivalBeforeEntry, EntryPastHorizon, StepTooCoarse, StopWindow, TooSlow, TrainTooLong, WindowEmpty}
use Rattle.discretise.proofs.RuleLemmas.{told_place}
use Rattle.discretise.proofs.rules.test_trains.Goals as goal

pub returns-in-Some-clause-refusal : goal.returns-in-Some-clause-refusal
returns-in-Some-clause-refusal c =
    let broken = subst (λ items. BreaksFirstAt (IsNotTooSlow c.args.timetable.now) items c.in-Some.item) c.as_slice-trains.ensures c.in-Some.ensures in
    told_place (train_rules c.args.timetable.now) 0 TooSlow Trains c.in-Some.item c.named.result c.named.ensures (c.in-Some.item, refl, broken)

pub returns-in-Some-first_off-clause-refusal : goal.returns-in-Some-first_off-clause-refusal
returns-in-Some-first_off-clause-refusal c =
    let broken = subst (λ items. BreaksFirstAt (IsNotTooFast c.args.timetable.now) items c.in-Some-first_off.item) c.as_slice-trains.ensures c.in-Some-first_off.ensures in
    told_place (train_rules c.args.timetable.now) 1 StepTooCoarse Trains c.in-Some-first_off.item c.named-in-Some-first_off.result c.named-in-Some-first_off.ensures (subst (HoldsOfEach (IsNotTooSlow c.args.timetable.now)) c.as_slice-trains.ensures c.in-None.ensures, (c.in-Some-first_off.item, refl, broken))

pub returns-in-Some-first_off-2-clause-refusal : goal.returns-in-Some-first_off-2-clause-refusal
returns-in-Some-first_off-2-clause-refusal c =
    let broken = subst (λ items. BreaksFirstAt (IsNotTooLong c.args.timetable.now) items c.in-Some-first_off-2.item) c.as_slice-trains.ensures c.in-Some-first_off-2.ensures in
    told_place (train_rules c.args.timetable.now) 2 TrainTooLong Trains c.in-Some-first_off-2.item c.named-in-Some-first_off-2.result c.named-in-Some-first_off-2.ensures (subst (HoldsOfEach (IsNotTooSlow c.args.timetable.now)) c.as_slice-trains.ensures c.in-None.ensures, (subst (HoldsOfEach (IsNotTooFast c.args.timetable.now)) c.as_slice-trains.ensures c.in-None-first_off.ensures, (c.in-Some-first_off-2.item, refl, broken)))

pub returns-in-Some-first_off-3-clause-refusal : goal.returns-in-Some-first_off-3-clause-refusal
returns-in-Some-first_off-3-clause-refusal c =
    let broken = subst (λ items. BreaksFirstAt (EntersInTime c.args.timetable.now) items c.in-Some-first_off-3.item) c.as_slice-trains.ensures c.in-Some-first_off-3.ensures in
    told_place (train_rules c.args.timetable.now) 3 EntryPastHorizon Trains c.in-Some-first_off-3.item c.named-in-Some-first_off-3.result c.named-in-Some-first_off-3.ensures (subst (HoldsOfEach (IsNotTooSlow c.args.timetable.now)) c.as_slice-trains.ensures c.in-None.ensures, (subst (HoldsOfEach (IsNotTooFast c.args.timetable.now)) c.as_slice-trains.ensures c.in-None-first_off.ensures, (subst (HoldsOfEach (IsNotTooLong c.args.timetable.now)) c.as_slice-trains.ensures c.in-None-first_off-2.ensures, (c.in-Some-first_off-3.item, refl, broken))))

pub returns-in-Some-first_off-4-clause-refusal : goal.returns-in-Some-first_off-4-clause-refusal
returns-in-Some-first_off-4-clause-refusal c =
    let broken = subst (λ items. BreaksFirstAt (λ place x. ArrivesInTime c.args.timetable.now x) items c.in-Some-first_off-4.item) c.as_slice-trains.ensures c.in-Some-first_off-4.ensures in
    told_place (train_rules c.args.timetable.now) 4 ArrivalBeforeEntry Trains c.in-Some-first_off-4.item c.named-in-Some-first_off-4.result c.named-in-Some-first_off-4.ensures (subst (HoldsOfEach (IsNotTooSlow c.args.timetable.now)) c.as_slice-trains.ensures c.in-None.ensures, (subst (HoldsOfEach (IsNotTooFast c.args.timetable.now)) c.as_slice-trains.ensures c.in-None-first_off.ensures, (subst (HoldsOfEach (IsNotTooLong c.args.timetable.now)) c.as_slice-trains.ensures c.in-None-first_off-2.ensures, (subst (HoldsOfEach (EntersInTime c.args.timetable.now)) c.as_slice-trains.ensures c.in-None-first_off-3.ensures, (c.in-Some-first_off-4.item, refl, broken)))))

pub returns-in-Some-first_off-5-clause-refusal : goal.returns-in-Some-first_off-5-clause-refusal
returns-in-Some-first_off-5-clause-refusal c =
    let broken = subst (λ items. BreaksFirstAt (HasWindow c.args.timetable.now) items c.in-Some-first_off-5.item) c.as_slice-trains.ensures c.in-Some-first_off-5.ensures in
    told_place (train_rules c.args.timetable.now) 5 WindowEmpty Trains c.in-Some-first_off-5.item c.named-in-Some-first_off-5.result c.named-in-Some-first_off-5.ensures (subst (HoldsOfEach (IsNotTooSlow c.args.timetable.now)) c.as_slice-trains.ensures c.in-None.ensures, (subst (HoldsOfEach (IsNotTooFast c.args.timetable.now)) c.as_slice-trains.ensures c.in-None-first_off.ensures, (subst (HoldsOfEach (IsNotTooLong c.args.timetable.now)) c.as_slice-trains.ensures c.in-None-first_off-2.ensures, (subst (HoldsOfEach (EntersInTime c.args.timetable.now)) c.as_slice-trains.ensures c.in-None-first_off-3.ensures, (subst (HoldsOfEach (λ place x. ArrivesInTime c.args.timetable.now x)) c.as_slice-trains.ensures c.in-None-first_off-4.ensures, (c.in-Some-first_off-5.item, refl, broken))))))

pub returns-in-Some-first_off-6-clause-refusal : goal.returns-in-Some-first_off-6-clause-refusal
returns-in-Some-first_off-6-clause-refusal c =
    let broken = subst (λ items. BreaksFirstAt (HasTimeForStops c.args.timetable.now) items c.in-Some-first_off-6.item) c.as_slice-trains.ensures c.in-Some-first_off-6.ensures in
    told_place (train_rules c.args.timetable.now) 6 StopWindow Trains c.in-Some-first_off-6.item c.named-in-Some-first_off-6.result c.named-in-Some-first_off-6.ensures (subst (HoldsOfEach (IsNotTooSlow c.args.timetable.now)) c.as_slice-trains.ensures c.in-None.ensures, (subst (HoldsOfEach (IsNotTooFast c.args.timetable.now)) c.as_slice-trains.ensures c.in-None-first_off.ensures, (subst (HoldsOfEach (IsNotTooLong c.args.timetable.now)) c.as_slice-trains.ensures c.in-None-first_off-2.ensures, (subst (HoldsOfEach (EntersInTime c.args.timetable.now)) c.as_slice-trains.ensures c.in-None-first_off-3.ensures, (subst (HoldsOfEach (λ place x. ArrivesInTime c.args.timetable.now x)) c.as_slice-trains.ensures c.in-None-first_off-4.ensures, (subst (HoldsOfEach (HasWindow c.args.timetable.now)) c.as_slice-trains.ensures c.in-None-first_off-5.ensures, (c.in-Some-first_off-6.item, refl, broken)))))))
