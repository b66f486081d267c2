-- The rules of networks in their order, and which refusal tells the first that is broken.
use Rattle.std.specs.Prelude.{◌≢◌, ℕ, List, [], ◌∷◌, ◌++◌}
use Rattle.vss_lists.specs.Breaks.{HoldsOfEach}
use Rattle.vss_lists.specs.Orders.{OrderRule, IsFirstBroken, rule_of_each}
use Rattle.rail_net.specs.Parts.{AreNamed, HasFewItems}
use Rattle.rail_net.specs.Rules.{HasNewName, KnowsTracks, KnowsNodes, ListsTracks, HasDegree, HasTipHere, HasPairsHere, IsNoLoop, IsOfSomeSection, IsListedOnce, HasGoodLength, HasGoodLimit}
use Rattle.rail_net.specs.Sections.{IsWholeNode, IsConnectedSection}
use Rattle.rail_net.specs.Borders.{IsKnownBorder, IsGoodBorder}
use Rattle.rail_net.specs.declared.parts.NetParts.{NetParts}
use Rattle.rail_net.specs.declared.refusal.ListKind.{ListKind}
use Rattle.rail_net.specs.declared.refusal.ListKind.TheVariants.{Nodes, Tracks, Sections, Borders, Stations}
use Rattle.rail_net.specs.declared.refusal.NetFault.{NetFault}
use Rattle.rail_net.specs.declared.refusal.NetFault.TheVariants.{DuplicateName, UnknownName, NodeDegree, TipNotHere, PairsNotHere, LoopTrack, TrackInNoSection, TrackInTwoSections, SplitSection, SectionApart, BorderPlace, LengthRange, LimitRange}
use Rattle.rail_net.specs.declared.refusal.NetRefusal.{NetRefusal}
use Rattle.rail_net.specs.declared.refusal.NetRefusal.TheVariants.{Named, Memory}

-- the rule is broken by an item of the list
abbrev pub broken_by_item : NetFault → ListKind → ℕ → NetRefusal
broken_by_item kind list item = Named kind (record { list = list; item = item })

abbrev pub Rules : Type 1
Rules = List (OrderRule NetRefusal)

-- no two tracks, no two nodes have one name
abbrev pub HasNewTracks : NetParts → Type 0
HasNewTracks p = HoldsOfEach (HasNewName (λ t. t.name) p.tracks) p.tracks

abbrev pub HasNewNodes : NetParts → Type 0
HasNewNodes p = HoldsOfEach (HasNewName (λ n. n.name) p.nodes) p.nodes

-- names are not repeated within a list
abbrev pub name_rules : NetParts → Rules
name_rules p =
    rule_of_each (broken_by_item DuplicateName Nodes) (HasNewName (λ n. n.name) p.nodes) p.nodes ∷
    rule_of_each (broken_by_item DuplicateName Tracks) (HasNewName (λ t. t.name) p.tracks) p.tracks ∷
    rule_of_each (broken_by_item DuplicateName Sections) (HasNewName (λ s. s.name) p.sections) p.sections ∷
    rule_of_each (broken_by_item DuplicateName Stations) (HasNewName (λ s. s.name) p.stations) p.stations ∷ []

-- what items refer to is there
abbrev pub reference_rules : NetParts → Rules
reference_rules p =
    rule_of_each (broken_by_item UnknownName Nodes) (KnowsTracks p) p.nodes ∷
    rule_of_each (broken_by_item UnknownName Tracks) (KnowsNodes p) p.tracks ∷
    rule_of_each (broken_by_item UnknownName Sections) (ListsTracks p) p.sections ∷
    rule_of_each (broken_by_item UnknownName Borders) (IsKnownBorder p) p.borders ∷
    rule_of_each (broken_by_item UnknownName Stations) (ListsTracks p) p.stations ∷ []

-- tracks and nodes fit together
abbrev pub node_rules : NetParts → Rules
node_rules p =
    rule_of_each (broken_by_item NodeDegree Nodes) (HasDegree p) p.nodes ∷
    rule_of_each (broken_by_item TipNotHere Nodes) (HasTipHere p) p.nodes ∷
    rule_of_each (broken_by_item PairsNotHere Nodes) (HasPairsHere p) p.nodes ∷
    rule_of_each (broken_by_item LoopTrack Tracks) (IsNoLoop p) p.tracks ∷ []

-- tracks are parted into sections
abbrev pub section_rules : NetParts → Rules
section_rules p =
    rule_of_each (broken_by_item TrackInNoSection Tracks) (IsOfSomeSection p) p.tracks ∷
    rule_of_each (broken_by_item TrackInTwoSections Tracks) (IsListedOnce p) p.tracks ∷
    rule_of_each (broken_by_item SplitSection Nodes) (IsWholeNode p) p.nodes ∷
    rule_of_each (broken_by_item SectionApart Sections) (IsConnectedSection p) p.sections ∷ []

-- borders stand well, and numbers are in their ranges
abbrev pub number_rules : NetParts → Rules
number_rules p =
    rule_of_each (broken_by_item BorderPlace Borders) (IsGoodBorder p) p.borders ∷
    rule_of_each (broken_by_item LengthRange Tracks) (HasGoodLength p) p.tracks ∷
    rule_of_each (broken_by_item LimitRange Tracks) (HasGoodLimit p) p.tracks ∷ []

-- all rules, in their order
abbrev pub net_rules : NetParts → Rules
net_rules p = name_rules p ++ (reference_rules p ++ (node_rules p ++ (section_rules p ++ number_rules p)))

-- the refusal tells the first of the rules that is broken; want of memory says nothing of them
abbrev pub Refuses : Rules → NetRefusal → Type 0
Refuses rules refusal = refusal ≢ Memory → IsFirstBroken rules refusal

-- a network: names are names, and no rule is broken
pub record IsNet (p : NetParts) : Type 0 where
  pub few : HasFewItems p
  pub named : AreNamed p
  pub new_nodes : HoldsOfEach (HasNewName (λ n. n.name) p.nodes) p.nodes
  pub new_tracks : HoldsOfEach (HasNewName (λ t. t.name) p.tracks) p.tracks
  pub new_sections : HoldsOfEach (HasNewName (λ s. s.name) p.sections) p.sections
  pub new_stations : HoldsOfEach (HasNewName (λ s. s.name) p.stations) p.stations
  pub nodes_know : HoldsOfEach (KnowsTracks p) p.nodes
  pub tracks_know : HoldsOfEach (KnowsNodes p) p.tracks
  pub sections_know : HoldsOfEach (ListsTracks p) p.sections
  pub borders_know : HoldsOfEach (IsKnownBorder p) p.borders
  pub stations_know : HoldsOfEach (ListsTracks p) p.stations
  pub degrees : HoldsOfEach (HasDegree p) p.nodes
  pub tips : HoldsOfEach (HasTipHere p) p.nodes
  pub pairs : HoldsOfEach (HasPairsHere p) p.nodes
  pub no_loops : HoldsOfEach (IsNoLoop p) p.tracks
  pub listed : HoldsOfEach (IsOfSomeSection p) p.tracks
  pub once : HoldsOfEach (IsListedOnce p) p.tracks
  pub whole : HoldsOfEach (IsWholeNode p) p.nodes
  pub connected : HoldsOfEach (IsConnectedSection p) p.sections
  pub borders : HoldsOfEach (IsGoodBorder p) p.borders
  pub lengths : HoldsOfEach (HasGoodLength p) p.tracks
  pub limits : HoldsOfEach (HasGoodLimit p) p.tracks
