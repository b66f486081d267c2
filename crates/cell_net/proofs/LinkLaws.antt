-- Linked is an equivalence.
use Rattle.std.proofs.Common.{List, sym}
use Rattle.cell_net.specs.Borders.{Linked, Meet}
use Rattle.cell_net.specs.declared.ids.CandidateId.{CandidateId}
use Rattle.cell_net.specs.declared.ids.CellId.{CellId}
use Rattle.cell_net.specs.declared.parts.InstanceParts.{InstanceParts}
use Rattle.node_groups.proofs.ReachLaws.{Reaches-refl, Reaches-sym, Reaches-trans}

module _ (p : InstanceParts) (borders : List CandidateId) where
  meet_back : (c d : CellId) → Meet p borders c d → Meet p borders d c
  meet_back c d m = record {
    one = m.other;
    other = m.one;
    node = m.node;
    is_one = m.is_other;
    is_other = m.is_one;
    one_section = sym m.one_section;
    at_one = m.at_other;
    at_other = m.at_one;
    free = m.free;
  }

  pub Linked-refl : (c : CellId) → Linked p borders c c
  Linked-refl = Reaches-refl (Meet p borders)

  pub Linked-sym : (c d : CellId) → Linked p borders c d → Linked p borders d c
  Linked-sym = Reaches-sym (Meet p borders) meet_back

  pub Linked-trans : (c d e : CellId) → Linked p borders c d → Linked p borders d e → Linked p borders c e
  Linked-trans = Reaches-trans (Meet p borders)
