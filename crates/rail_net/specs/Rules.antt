-- The rules on names, nodes and tracks.
use Rattle.std.specs.Prelude.{◌≡◌, ◌≢◌, ◌<◌, ◌≤◌, ◌+◌, ℕ, List, Option, None, Some, slice_get, count_by, bytes_eq, Contains, ⊤}
use Rattle.rail_net.specs.Parts.{IsTrack, node_names, track_names, listings, EndsAt, Lists}
use Rattle.rail_net.specs.declared.parts.NodeKind.{NodeKind}
use Rattle.rail_net.specs.declared.parts.NodeKind.TheVariants.{EndNode, Joint, Point, Crossing}
use Rattle.rail_net.specs.declared.parts.NodePart.{NodePart}
use Rattle.rail_net.specs.declared.parts.TrackPart.{TrackPart}
use Rattle.rail_net.specs.declared.parts.GroupPart.{GroupPart}
use Rattle.rail_net.specs.declared.parts.NetParts.{NetParts}

-- no item before it has its name
abbrev pub HasNewName : {X : Type 0} → (X → List ℕ) → List X → ℕ → X → Type 0
HasNewName {X} name_of items place x =
    (k : ℕ) (earlier : X) → k < place → slice_get items k ≡ Some earlier → name_of earlier ≢ name_of x

-- it is the name of a node, of a track
abbrev pub IsNodeName : NetParts → List ℕ → Type 0
IsNodeName p name = Contains (node_names p) name

abbrev pub IsTrackName : NetParts → List ℕ → Type 0
IsTrackName p name = Contains (track_names p) name

-- a track between two nodes of these names
pub record HasNodes (nodes : List (List ℕ)) (t : TrackPart) : Type 0 where
  pub from : Contains nodes t.from
  pub to : Contains nodes t.to

-- both names of the pair are among these
pub record KnowsPair (names : List (List ℕ)) (pair : List ℕ × List ℕ) : Type 0 where
  pub one : Contains names pair.0
  pub other : Contains names pair.1

-- the tracks that a node of that kind names are among these
abbrev pub KnowsNamed : List (List ℕ) → NodeKind → Type 0
KnowsNamed tracks EndNode = ⊤
KnowsNamed tracks Joint = ⊤
KnowsNamed tracks (Point tip) = Contains tracks tip
KnowsNamed tracks (Crossing first second) = KnowsPair tracks first × KnowsPair tracks second

-- what an item refers to is there
abbrev pub KnowsTracks : NetParts → ℕ → NodePart → Type 0
KnowsTracks p place n = KnowsNamed (track_names p) n.kind

abbrev pub KnowsNodes : NetParts → ℕ → TrackPart → Type 0
KnowsNodes p place t = HasNodes (node_names p) t

-- all texts are among the names
unfoldable pub AreKnown : List (List ℕ) → List (List ℕ) → Type 0
AreKnown names texts = (k : ℕ) (text : List ℕ) → slice_get texts k ≡ Some text → Contains names text

abbrev pub ListsTracks : NetParts → ℕ → GroupPart → Type 0
ListsTracks p place g = AreKnown (track_names p) g.tracks

-- how many track ends a node of that kind has
abbrev pub degree : NodeKind → ℕ
degree EndNode = 1
degree Joint = 2
degree (Point tip) = 3
degree (Crossing first second) = 4

-- how many tracks begin at the node of that name, and how many end there
abbrev pub begin_count : NetParts → List ℕ → ℕ
begin_count p node = count_by (λ t. bytes_eq t.from node) p.tracks

abbrev pub end_count : NetParts → List ℕ → ℕ
end_count p node = count_by (λ t. bytes_eq t.to node) p.tracks

-- as many track ends stand at the node
abbrev pub HasDegree : NetParts → ℕ → NodePart → Type 0
HasDegree p place n = begin_count p n.name + end_count p n.name ≡ degree n.kind

-- the track of that name has an end at the node of that name
unfoldable pub IsHere : NetParts → List ℕ → List ℕ → Type 0
IsHere p node name = (track : ℕ) × IsTrack p name track × EndsAt p node track

-- the tip of a point has an end there
abbrev pub HasTip : NetParts → List ℕ → NodeKind → Type 0
HasTip p node EndNode = ⊤
HasTip p node Joint = ⊤
HasTip p node (Point tip) = IsHere p node tip
HasTip p node (Crossing first second) = ⊤

abbrev pub HasTipHere : NetParts → ℕ → NodePart → Type 0
HasTipHere p place n = HasTip p n.name n.kind

-- four different texts
pub record FourDiffer (a b c d : List ℕ) : Type 0 where
  pub a_b : a ≢ b
  pub a_c : a ≢ c
  pub a_d : a ≢ d
  pub b_c : b ≢ c
  pub b_d : b ≢ d
  pub c_d : c ≢ d

-- four different tracks with an end at the node
pub record AreFourHere (p : NetParts) (node : List ℕ) (first second : List ℕ × List ℕ) : Type 0 where
  pub differ : FourDiffer first.0 first.1 second.0 second.1
  pub a : IsHere p node first.0
  pub b : IsHere p node first.1
  pub c : IsHere p node second.0
  pub d : IsHere p node second.1

-- the pairs of a crossing are four different tracks with an end there
abbrev pub HasPairs : NetParts → List ℕ → NodeKind → Type 0
HasPairs p node EndNode = ⊤
HasPairs p node Joint = ⊤
HasPairs p node (Point tip) = ⊤
HasPairs p node (Crossing first second) = AreFourHere p node first second

abbrev pub HasPairsHere : NetParts → ℕ → NodePart → Type 0
HasPairsHere p place n = HasPairs p n.name n.kind

-- the track doesn't end where it begins
abbrev pub IsNoLoop : NetParts → ℕ → TrackPart → Type 0
IsNoLoop p place t = t.from ≢ t.to

-- some section lists the track
unfoldable pub IsOfSomeSection : NetParts → ℕ → TrackPart → Type 0
IsOfSomeSection p place t = (section : ℕ) × Lists p section t.name

-- the sections' lists name the track at most once
abbrev pub IsListedOnce : NetParts → ℕ → TrackPart → Type 0
IsListedOnce p place t = count_by (λ l. bytes_eq l.name t.name) (listings p) ≤ 1

-- the length is 1 to 1,000,000 m
pub record HasGoodLength (p : NetParts) (place : ℕ) (t : TrackPart) : Type 0 where
  pub some : 1 ≤ t.length_m
  pub at_most : t.length_m ≤ 1000000

-- a limit, where there is one, is 1 to 500 km/h
abbrev pub IsGoodLimit : Option ℕ → Type 0
IsGoodLimit None = ⊤
IsGoodLimit (Some limit) = (1 ≤ limit) × (limit ≤ 500)

abbrev pub HasGoodLimit : NetParts → ℕ → TrackPart → Type 0
HasGoodLimit p place t = IsGoodLimit t.limit_kmh
