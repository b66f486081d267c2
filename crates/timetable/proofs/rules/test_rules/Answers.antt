-- Why `test_rules` does what its contract says.
use Rattle.std.proofs.Common.{List, refl, sym, ap, subst, ◌∙◌}
use Rattle.std.proofs.lemmas.Bool.{false≢true}
use Rattle.vss_lists.specs.Breaks.{BreaksFirstAt, HoldsOfEach}
use Rattle.rail_net.specs.Rules.{HasNewName}
use Rattle.rail_net.specs.declared.refusal.ListKind.TheVariants.{Document, Trains}
use Rattle.timetable.specs.Places.{IsTrainFor, KnowsPlaces}
use Rattle.timetable.specs.Rules.{in_train, time_rules}
use Rattle.timetable.specs.declared.entries.TrainEntry.{TrainEntry}
use Rattle.timetable.specs.declared.refusal.TimeFault.TheVariants.{BadName, ReverseNotYet, DuplicateName, UnknownName, EndWanted, StepRange, TrainRange}
use Rattle.timetable.proofs.PlaceLemmas.{train_known}
use Rattle.timetable.proofs.RuleLemmas.{broken_at, told_place}
use Rattle.timetable.proofs.ZipLemmas.{zip_each}
use Rattle.timetable.proofs.rules.test_rules.Goals as goal

pub returns-in-Some-clause-refusal : goal.returns-in-Some-clause-refusal
returns-in-Some-clause-refusal c =
    told_place (time_rules c.args.net.now c.args.entries.now) 0 BadName Trains c.in-Some.train c.in_train.result c.in_train.ensures (c.in-Some.train, refl, c.in-Some.ensures)

pub returns-in-Some-first_with_legs-clause-refusal : goal.returns-in-Some-first_with_legs-clause-refusal
returns-in-Some-first_with_legs-clause-refusal c =
    told_place (time_rules c.args.net.now c.args.entries.now) 1 ReverseNotYet Trains c.in-Some-first_with_legs.train c.in_train-in-Some-first_with_legs.result c.in_train-in-Some-first_with_legs.ensures
    (c.in-None.ensures, (c.in-Some-first_with_legs.train, refl, c.in-Some-first_with_legs.ensures))

pub returns-in-Err-At-clause-refusal : goal.returns-in-Err-At-clause-refusal
returns-in-Err-At-clause-refusal c =
    let train = c.in-Err-At.train in
    let broken = subst (λ (ts : List TrainEntry). BreaksFirstAt (HasNewName (λ t. t.name) ts) ts train) c.as_slice-all.ensures (broken_at _ _ c.in-Err-At.field-0 train c.in-Err-At.field-0-is c.in-Err-At.ensures.old) in
    told_place (time_rules c.args.net.now c.args.entries.now) 2 DuplicateName Trains train c.in_train-in-Err-At.result (c.in_train-in-Err-At.ensures ∙ ap (in_train DuplicateName) c.in-Err-At.train-is)
    (c.in-None.ensures, (c.in-None-first_with_legs.ensures, (train, refl, broken)))

pub returns-in-Err-At-trains_of-clause-refusal : goal.returns-in-Err-At-trains_of-clause-refusal
returns-in-Err-At-trains_of-clause-refusal c =
    let p = c.args.net.now in
    let train = c.in-Err-At-trains_of.train in
    let new = subst (λ (ts : List TrainEntry). HoldsOfEach (HasNewName (λ t. t.name) ts) ts) c.as_slice-all.ensures c.in-Ok.ensures.new in
    let broken = subst (λ (ts : List TrainEntry). BreaksFirstAt (λ place t. KnowsPlaces p t) ts train) c.as_slice-all.ensures (broken_at _ _ c.in-Err-At-trains_of.field-0 train c.in-Err-At-trains_of.field-0-is c.in-Err-At-trains_of.ensures.unknown) in
    told_place (time_rules p c.args.entries.now) 3 UnknownName Trains train c.in_train-in-Err-At-trains_of.result (c.in_train-in-Err-At-trains_of.ensures ∙ ap (in_train UnknownName) c.in-Err-At-trains_of.train-is)
    (c.in-None.ensures, (c.in-None-first_with_legs.ensures, (new, (train, refl, broken))))

pub returns-in-Some-first_without_ends-clause-refusal : goal.returns-in-Some-first_without_ends-clause-refusal
returns-in-Some-first_without_ends-clause-refusal c =
    let p = c.args.net.now in
    let new = subst (λ (ts : List TrainEntry). HoldsOfEach (HasNewName (λ t. t.name) ts) ts) c.as_slice-all.ensures c.in-Ok.ensures.new in
    let known = subst (λ (ts : List TrainEntry). HoldsOfEach (λ place t. KnowsPlaces p t) ts) c.as_slice-all.ensures (zip_each (IsTrainFor p) (KnowsPlaces p) (train_known p) _ _ c.in-Ok-trains_of.ensures.trains) in
    told_place (time_rules p c.args.entries.now) 4 EndWanted Trains c.in-Some-first_without_ends.train c.in_train-in-Some-first_without_ends.result c.in_train-in-Some-first_without_ends.ensures
    (c.in-None.ensures, (c.in-None-first_with_legs.ensures, (new, (known, (c.in-Some-first_without_ends.train, refl, c.in-Some-first_without_ends.ensures)))))

pub returns-then-not-has_good_steps-clause-refusal : goal.returns-then-not-has_good_steps-clause-refusal
returns-then-not-has_good_steps-clause-refusal c =
    let p = c.args.net.now in
    let new = subst (λ (ts : List TrainEntry). HoldsOfEach (HasNewName (λ t. t.name) ts) ts) c.as_slice-all.ensures c.in-Ok.ensures.new in
    let known = subst (λ (ts : List TrainEntry). HoldsOfEach (λ place t. KnowsPlaces p t) ts) c.as_slice-all.ensures (zip_each (IsTrainFor p) (KnowsPlaces p) (train_known p) _ _ c.in-Ok-trains_of.ensures.trains) in
    told_place (time_rules p c.args.entries.now) 5 StepRange Document 0 c.in_list.result c.in_list.ensures (
      c.in-None.ensures,
      (
        c.in-None-first_with_legs.ensures,
        (new, (known, (c.in-None-first_without_ends.ensures, (refl, λ good. absurd (false≢true (sym c.if-not-has_good_steps.true ∙ c.has_good_steps.ensures.1 good)))))),
      ),
    )

pub returns-in-None-first_out_of_range-clause-kept : goal.returns-in-None-first_out_of_range-clause-kept
returns-in-None-first_out_of_range-clause-kept c =
    let p = c.args.net.now in
    let new = subst (λ (ts : List TrainEntry). HoldsOfEach (HasNewName (λ t. t.name) ts) ts) c.as_slice-all.ensures c.in-Ok.ensures.new in
    let known = subst (λ (ts : List TrainEntry). HoldsOfEach (λ place t. KnowsPlaces p t) ts) c.as_slice-all.ensures (zip_each (IsTrainFor p) (KnowsPlaces p) (train_known p) _ _ c.in-Ok-trains_of.ensures.trains) in (
      c.in-None.ensures,
      (
        c.in-None-first_with_legs.ensures,
        (new, (known, (c.in-None-first_without_ends.ensures, (c.has_good_steps.ensures.0 c.if-not-has_good_steps.false, (c.in-None-first_out_of_range.ensures, tt))))),
      ),
    )

pub returns-in-Some-first_out_of_range-clause-refusal : goal.returns-in-Some-first_out_of_range-clause-refusal
returns-in-Some-first_out_of_range-clause-refusal c =
    let p = c.args.net.now in
    let new = subst (λ (ts : List TrainEntry). HoldsOfEach (HasNewName (λ t. t.name) ts) ts) c.as_slice-all.ensures c.in-Ok.ensures.new in
    let known = subst (λ (ts : List TrainEntry). HoldsOfEach (λ place t. KnowsPlaces p t) ts) c.as_slice-all.ensures (zip_each (IsTrainFor p) (KnowsPlaces p) (train_known p) _ _ c.in-Ok-trains_of.ensures.trains) in
    let train = c.in-Some-first_out_of_range.train in
    told_place (time_rules p c.args.entries.now) 6 TrainRange Trains train c.in_train-in-Some-first_out_of_range.result c.in_train-in-Some-first_out_of_range.ensures (
      c.in-None.ensures,
      (
        c.in-None-first_with_legs.ensures,
        (new, (known, (c.in-None-first_without_ends.ensures, (c.has_good_steps.ensures.0 c.if-not-has_good_steps.false, (train, refl, c.in-Some-first_out_of_range.ensures))))),
      ),
    )
