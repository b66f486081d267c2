-- What a reading of a network document answers.
use Rattle.std.specs.Prelude.{◌<◌, ℕ, List, [], ◌∷◌, length, Result, Ok, Err}
use Rattle.vss_json.specs.Documents.{IsNoJson, MissesShape, States}
use Rattle.vss_lists.specs.Orders.{OrderRule, AreKept, IsFirstBroken, rule_of_each}
use Rattle.vss_names.specs.Names.{IsName}
use Rattle.rail_net.specs.Refusals.{IsNet, net_rules}
use Rattle.rail_net.specs.declared.parts.NetParts.{NetParts}
use Rattle.rail_net.specs.declared.refusal.ListKind.{ListKind}
use Rattle.rail_net.specs.declared.refusal.ListKind.TheVariants.{Nodes, Tracks, Sections, Stations}
use Rattle.rail_net.specs.declared.refusal.NetRefusal.TheVariants.{Named}
use Rattle.rail_net.specs.declared.refusal.Spot.{Spot}
use Rattle.net_reader.specs.Document.{at_item, document}
use Rattle.net_reader.specs.declared.refusal.ReadRefusal.{ReadRefusal}
use Rattle.net_reader.specs.declared.refusal.ReadRefusal.TheVariants.{NotJson, Shape, BadName, Net, Memory}

-- the item of that list
abbrev pub in_list : ListKind → ℕ → Spot
in_list list item = record { list = list; item = item }

-- names are names: of nodes, then of tracks, of sections, of stations
abbrev pub naming_rules : NetParts → List (OrderRule Spot)
naming_rules p =
    rule_of_each (in_list Nodes) (λ place n. IsName n.name) p.nodes ∷
    rule_of_each (in_list Tracks) (λ place t. IsName t.name) p.tracks ∷
    rule_of_each (in_list Sections) (λ place s. IsName s.name) p.sections ∷
    rule_of_each (in_list Stations) (λ place s. IsName s.name) p.stations ∷ []

-- Ok gives the network of the document's parts; a refusal tells the first of these that goes wrong: the
-- bytes are JSON, the value has the document's shape, names are names, the parts keep the rules of
-- networks. Want of memory may come at any bytes but none
abbrev pub IsReading : List ℕ → Result NetParts ReadRefusal → Type 0
IsReading bytes (Ok parts) = States document bytes parts × IsNet parts
IsReading bytes (Err NotJson) = IsNoJson bytes
IsReading bytes (Err (Shape member item)) = MissesShape document bytes (at_item member item)
IsReading bytes (Err (BadName spot)) =
    (parts : NetParts) × States document bytes parts × IsFirstBroken (naming_rules parts) spot
IsReading bytes (Err (Net kind spot)) =
    (parts : NetParts) × States document bytes parts × AreKept (naming_rules parts) × IsFirstBroken (net_rules parts) (Named kind spot)
IsReading bytes (Err Memory) = 0 < length bytes
