-- The rules of timetables in their order.
use Rattle.std.specs.Prelude.{◌≡◌, ◌≢◌, ℕ, List, [], ◌∷◌, All, false}
use Rattle.vss_lists.specs.Orders.{IsFirstBroken, OrderRule, rule, rule_of_each}
use Rattle.vss_names.specs.Names.{IsName}
use Rattle.rail_net.specs.Rules.{HasNewName}
use Rattle.rail_net.specs.declared.parts.NetParts.{NetParts}
use Rattle.rail_net.specs.declared.refusal.ListKind.{ListKind}
use Rattle.rail_net.specs.declared.refusal.ListKind.TheVariants as list
use Rattle.timetable.specs.Ranges.{AreGoodSteps, IsGoodIfThere, IsGoodLength, IsGoodSpeed, IsGoodTime}
use Rattle.timetable.specs.Places.{IsBetweenEnds, KnowsPlaces}
use Rattle.timetable.specs.declared.entries.StopEntry.{StopEntry}
use Rattle.timetable.specs.declared.entries.TrainEntry.{TrainEntry}
use Rattle.timetable.specs.declared.entries.Entries.{Entries}
use Rattle.timetable.specs.declared.refusal.TimeFault.{TimeFault}
use Rattle.timetable.specs.declared.refusal.TimeFault.TheVariants.{BadName, ReverseNotYet, DuplicateName, UnknownName, EndWanted, StepRange, TrainRange}
use Rattle.timetable.specs.declared.rules.RuleRefusal.{RuleRefusal}
use Rattle.timetable.specs.declared.rules.RuleRefusal.TheVariants.{Named, Memory}

-- the times of a stop aren't past the latest
pub record HasGoodTimes (s : StopEntry) : Type 0 where
  pub dwell_s : IsGoodTime s.dwell_s
  pub from_s : IsGoodTime s.from_s
  pub until_s : IsGoodTime s.until_s

-- the numbers of a train and of its stops are in their ranges
pub record HasGoodNumbers (t : TrainEntry) : Type 0 where
  pub length_m : IsGoodLength t.length_m
  pub speed_kmh : IsGoodSpeed t.speed_kmh
  pub entry_s : IsGoodTime t.entry_s
  pub arrive_s : IsGoodIfThere t.arrive_s
  pub entry_until_s : IsGoodIfThere t.entry_until_s
  pub stops : All HasGoodTimes t.stops

-- the rule is broken by that item of the list
abbrev pub told_in : TimeFault → ListKind → ℕ → RuleRefusal
told_in kind list item = Named kind (record { list = list; item = item })

-- the rule is broken by that train
abbrev pub in_train : TimeFault → ℕ → RuleRefusal
in_train kind train = told_in kind list.Trains train

abbrev pub TimeRules : Type 1
TimeRules = List (OrderRule RuleRefusal)

-- the steps are in their ranges
abbrev pub HasGoodStepEntries : Entries → Type 0
HasGoodStepEntries e = AreGoodSteps e.space_step_m e.time_step_s e.horizon_s

-- all rules, in their order
abbrev pub time_rules : NetParts → Entries → TimeRules
time_rules p e =
    rule_of_each (in_train BadName) (λ train t. IsName t.name) e.trains ∷
    rule_of_each (in_train ReverseNotYet) (λ train t. t.has_legs ≡ false) e.trains ∷
    rule_of_each (in_train DuplicateName) (HasNewName (λ t. t.name) e.trains) e.trains ∷
    rule_of_each (in_train UnknownName) (λ train t. KnowsPlaces p t) e.trains ∷
    rule_of_each (in_train EndWanted) (λ train t. IsBetweenEnds p t) e.trains ∷
    rule (told_in StepRange list.Document 0) (HasGoodStepEntries e) ∷
    rule_of_each (in_train TrainRange) (λ train t. HasGoodNumbers t) e.trains ∷ []

-- the refusal tells the first of the rules that is broken; want of memory says nothing of them
abbrev pub Tells : TimeRules → RuleRefusal → Type 0
Tells rules refusal = refusal ≢ Memory → IsFirstBroken rules refusal
