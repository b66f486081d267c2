-- Parts have one refusal at most, and then they are no network.
use Rattle.std.proofs.Common.{List, [], ◌∷◌, ◌++◌}
use Rattle.vss_lists.specs.Orders.{AreKept, OrderRule}
use Rattle.vss_lists.proofs.OrderLaws.{AreSound, not_kept, one_broken, sound_each}
use Rattle.rail_net.specs.Laws.{BrokenIsNoNet, HasOneBrokenRule}
use Rattle.rail_net.specs.Refusals.{IsNet, Rules, name_rules, net_rules, node_rules, number_rules, reference_rules, section_rules}
use Rattle.rail_net.specs.declared.parts.NetParts.{NetParts}
use Rattle.rail_net.proofs.OrderLemmas.{both_kept}

both_sound : {A : Type 0} (front rest : List (OrderRule A)) → AreSound front → AreSound rest → AreSound (front ++ rest)
both_sound [] rest sound also = also
both_sound (this ∷ front) rest sound also = (sound.0, both_sound front rest sound.1 also)

sound_names : (p : NetParts) → AreSound (name_rules p)
sound_names p = (sound_each _ _ _, (sound_each _ _ _, (sound_each _ _ _, (sound_each _ _ _, tt))))

sound_references : (p : NetParts) → AreSound (reference_rules p)
sound_references p = (sound_each _ _ _, (sound_each _ _ _, (sound_each _ _ _, (sound_each _ _ _, (sound_each _ _ _, tt)))))

sound_nodes : (p : NetParts) → AreSound (node_rules p)
sound_nodes p = (sound_each _ _ _, (sound_each _ _ _, (sound_each _ _ _, (sound_each _ _ _, tt))))

sound_sections : (p : NetParts) → AreSound (section_rules p)
sound_sections p = (sound_each _ _ _, (sound_each _ _ _, (sound_each _ _ _, (sound_each _ _ _, tt))))

sound_numbers_of : (p : NetParts) → AreSound (number_rules p)
sound_numbers_of p = (sound_each _ _ _, (sound_each _ _ _, (sound_each _ _ _, tt)))

-- the rules from those on sections on, from those on nodes on, from those on references on
abbrev from_sections : NetParts → Rules
from_sections p = section_rules p ++ number_rules p

abbrev from_nodes : NetParts → Rules
from_nodes p = node_rules p ++ from_sections p

abbrev from_references : NetParts → Rules
from_references p = reference_rules p ++ from_nodes p

sound_net : (p : NetParts) → AreSound (net_rules p)
sound_net p =
    both_sound (name_rules p) (from_references p) (sound_names p)
    (both_sound (reference_rules p) (from_nodes p) (sound_references p)
    (both_sound (node_rules p) (from_sections p) (sound_nodes p) (both_sound (section_rules p) (number_rules p) (sound_sections p) (sound_numbers_of p))))

-- a network keeps the rules
pub net_kept : (p : NetParts) → IsNet p → AreKept (net_rules p)
net_kept p net =
    both_kept (name_rules p) (from_references p) (net.new_nodes, (net.new_tracks, (net.new_sections, (net.new_stations, tt))))
    (both_kept (reference_rules p) (from_nodes p) (net.nodes_know, (net.tracks_know, (net.sections_know, (net.borders_know, (net.stations_know, tt)))))
    (both_kept (node_rules p) (from_sections p) (net.degrees, (net.tips, (net.pairs, (net.no_loops, tt))))
    (both_kept (section_rules p) (number_rules p) (net.listed, (net.once, (net.whole, (net.connected, tt))))
    (net.borders, (net.lengths, (net.limits, tt))))))

pub one_broken_rule : (p : NetParts) → HasOneBrokenRule p
one_broken_rule p = one_broken (net_rules p) (sound_net p)

pub broken_is_no_net : (p : NetParts) → BrokenIsNoNet p
broken_is_no_net p refusal told net = not_kept (net_rules p) (sound_net p) refusal told (net_kept p net)
