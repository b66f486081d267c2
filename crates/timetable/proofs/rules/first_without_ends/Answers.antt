-- Why `first_without_ends` does what its contract says.
use Rattle.std.proofs.Common.{List, subst}
use Rattle.std.specs.Prelude.{MatchOption}
use Rattle.vss_lists.specs.Breaks.{HoldsOfEach, BreaksFirstAt}
use Rattle.timetable.specs.Places.{IsBetweenEnds}
use Rattle.timetable.specs.declared.entries.TrainEntry.{TrainEntry}
use Rattle.timetable.proofs.rules.first_without_ends.Goals as goal

pub returns : goal.returns
returns c =
    let p = c.args.net.now in
    subst (λ (ts : List TrainEntry). MatchOption c.first_break.result (HoldsOfEach (λ train t. IsBetweenEnds p t) ts) (BreaksFirstAt (λ train t. IsBetweenEnds p t) ts)) c.as_slice.ensures c.first_break.ensures
