-- What a document's parts keep before the rules of networks are tested.
use Rattle.std.proofs.Common.{◌<◌, ℕ, List, [], ◌∷◌, length, map, get_or, sym, subst, arith}
use Rattle.std.specs.List.{All}
use Rattle.std.proofs.lemmas.List.{length-map, get_or-map}
use Rattle.std.proofs.lemmas.Option.{slice_get-get_or}
use Rattle.vss_lists.specs.Breaks.{HoldsOfEach}
use Rattle.vss_lists.specs.Orders.{AreKept}
use Rattle.vss_names.specs.Names.{IsName}
use Rattle.rail_net.specs.Parts.{AreNamed}
use Rattle.rail_net.specs.declared.parts.GroupPart.{GroupPart}
use Rattle.rail_net.specs.declared.parts.NetParts.{NetParts}
use Rattle.rail_net.specs.declared.parts.NodePart.{NodePart}
use Rattle.rail_net.specs.declared.parts.TrackPart.{TrackPart}
use Rattle.net_reader.specs.Document.{HasListed}
use Rattle.net_reader.specs.Readings.{naming_rules}

all_named : {X : Type 0} (f : X → List ℕ) (xs : List X) → HoldsOfEach (λ place x. IsName (f x)) xs → All IsName (map f xs)
all_named f [] each k d within = absurd (omega arith)
all_named {X} f (x ∷ xs) each k d within =
    let low : k < length (x ∷ xs) = subst (λ n. k < n) (length-map (x ∷ xs) f) within in
    subst IsName (sym (get_or-map f (x ∷ xs) k x d low)) (each.at_each k (get_or (x ∷ xs) k x) (slice_get-get_or (x ∷ xs) k x low))

-- names are names, and sections and stations list tracks
pub are_named : (p : NetParts) → AreKept (naming_rules p) → HasListed p → AreNamed p
are_named p kept listed = record {
  nodes = all_named (λ (n : NodePart). n.name) p.nodes kept.0;
  tracks = all_named (λ (t : TrackPart). t.name) p.tracks kept.1.0;
  sections = all_named (λ (g : GroupPart). g.name) p.sections kept.1.1.0;
  stations = all_named (λ (g : GroupPart). g.name) p.stations kept.1.1.1.0;
  section_tracks = λ k d within. (listed.sections k d within).some;
  station_tracks = λ k d within. (listed.stations k d within).some;
}
