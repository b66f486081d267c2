-- Which rule a refusal says is broken: the first in the order, at the lowest place.
use Rattle.std.specs.Prelude.{List, [], ◌∷◌, ◌++◌}
use Rattle.vss_lists.specs.Orders.{AreKept, IsFirstBroken, OrderRule, rule, rule_of_each, rule_of_numbers}
use Rattle.cell_net.specs.Rules.{HasGoodSteps, IsGoodCell, IsGoodJoin, IsGoodCandidate, IsGoodKept, IsGoodStation, IsGoodTrain}
use Rattle.cell_net.specs.Sections.{IsConnected}
use Rattle.cell_net.specs.Borders.{RisesAt, IsCandidate}
use Rattle.cell_net.specs.declared.ids.CandidateId.{CandidateId}
use Rattle.cell_net.specs.declared.layout.LayoutRefusal.{LayoutRefusal}
use Rattle.cell_net.specs.declared.layout.LayoutRefusal.TheVariants.{NotRising, OutOfRange}
use Rattle.cell_net.specs.declared.parts.InstanceParts.{InstanceParts}
use Rattle.cell_net.specs.declared.build.BuildRefusal.{BuildRefusal}
use Rattle.cell_net.specs.declared.build.BuildRefusal.TheVariants.{BadSteps, BadCell, BadJoin, BadSection, BadCandidate, BadKept, BadStation, BadTrain, Memory}

-- the rules of steps, cells and joins, in their order
abbrev pub rules_of_track : InstanceParts → List (OrderRule BuildRefusal)
rules_of_track p =
    rule BadSteps (HasGoodSteps p) ∷
    rule_of_each BadCell (IsGoodCell p) p.cells ∷
    rule_of_each BadJoin (IsGoodJoin p) p.joins ∷ []

-- the rules of an instance, in their order
abbrev pub rules_of : InstanceParts → List (OrderRule BuildRefusal)
rules_of p = rules_of_track p ++
    rule_of_numbers BadSection (IsConnected p) p.sections ∷
    rule_of_each BadCandidate (IsGoodCandidate p) p.candidates ∷
    rule_of_each BadKept (IsGoodKept p) p.kept ∷
    rule_of_each BadStation (IsGoodStation p) p.stations ∷
    rule_of_each BadTrain (IsGoodTrain p) p.trains ∷ []

-- the refusal tells the first rule that is broken, and at which place first; want of memory comes only
-- where steps, cells and joins are good
abbrev pub IsRefusal : InstanceParts → BuildRefusal → Type 0
IsRefusal p Memory = AreKept (rules_of_track p)
IsRefusal p refusal = IsFirstBroken (rules_of p) refusal

-- the rules of a border set, in their order: the borders rise, and are candidates
abbrev pub rules_of_borders : InstanceParts → List CandidateId → List (OrderRule LayoutRefusal)
rules_of_borders p borders =
    rule_of_each NotRising (RisesAt borders) borders ∷
    rule_of_each OutOfRange (IsCandidate p) borders ∷ []

-- the refusal tells the first of these rules that is broken, and at which place first
abbrev pub IsLayoutRefusal : InstanceParts → List CandidateId → LayoutRefusal → Type 0
IsLayoutRefusal p borders = IsFirstBroken (rules_of_borders p borders)
