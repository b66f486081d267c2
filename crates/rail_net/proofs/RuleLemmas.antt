-- Tests of rules by the numbers of nodes and tracks.
use Rattle.std.proofs.Common.{◌≡◌, ◌<◌, ◌-◌, ◌^◌, ◌⊎◌, ◌↔◌, ℕ, Bool, true, false, IsTrue, List, Some, slice_get, min, nat_eq, sym, ap, subst, ◌∙◌, arith}
use Rattle.std.specs.List.{Contains}
use Rattle.std.proofs.lemmas.Bool.{eqb-true, eq-eqb}
use Rattle.std.proofs.lemmas.Option.{same_Some}
use Rattle.rail_net.specs.Parts.{IsNode, IsTrack, node_names, track_names}
use Rattle.rail_net.specs.Borders.{IsBorderJoint, IsFree, IsJoint}
use Rattle.rail_net.specs.Refusals.{HasNewNodes, HasNewTracks}
use Rattle.rail_net.specs.Rules.{IsHere}
use Rattle.rail_net.specs.Sections.{IsOfOneSection}
use Rattle.rail_net.specs.declared.parts.NetParts.{NetParts}
use Rattle.rail_net.specs.declared.parts.NodeKind.TheVariants as kind
use Rattle.rail_net.specs.declared.parts.NodePart.{NodePart}
use Rattle.rail_net.specs.declared.parts.TrackPart.{TrackPart}
use Rattle.rail_net.proofs.ListLaws.{contains_at, place_of, map_at}
use Rattle.rail_net.proofs.NameLaws.{same_number}
use Rattle.rail_net.proofs.NodeLemmas.{one_node}

-- a small number is met by a sum that may not fit exactly if it is the sum
pub sum_is : (result sum want got : ℕ) → result ≡ min sum (2 ^ 64 - 1) → got ≡ want → got < 5 → IsTrue (nat_eq result got) ↔ (sum ≡ want)
sum_is result sum want got capped same few = (λ t. let e = eqb-true result got t in omega arith, λ e. eq-eqb result got (omega arith))

-- the track of that number is here exactly if it ends here
pub here_if : (p : NetParts) (node name : List ℕ) (k : ℕ) (t : TrackPart) → HasNewTracks p → IsTrack p name k → slice_get p.tracks k ≡ Some t → ((t.from ≡ node) ⊎ (t.to ≡ node)) ↔ IsHere p node name
unfolding IsHere
here_if p node name k t new is there = (
  λ at. (k, is, record { part = t; is_track = there; at_end = at }),
  λ here.
      let same : here.0 ≡ k = same_number (λ (x : TrackPart). x.name) p.tracks new here.0 k name here.1 is in
      let own : here.2.part ≡ t = same_Some here.2.part t (sym here.2.is_track ∙ (ap (slice_get p.tracks) same ∙ there)) in
      subst (λ (x : TrackPart). (x.from ≡ node) ⊎ (x.to ≡ node)) own here.2.at_end,
)

pub not_here : (p : NetParts) (node name : List ℕ) → ¬ Contains (track_names p) name → ¬ IsHere p node name
unfolding IsHere
not_here p node name none here = none (contains_at (track_names p) here.0 name here.1)

-- the node of that number is a joint exactly if its kind is
pub joint_if : (p : NetParts) (name : List ℕ) (n : ℕ) (part : NodePart) → HasNewNodes p → IsNode p name n → slice_get p.nodes n ≡ Some part → (part.kind ≡ kind.Joint) ↔ IsJoint p name
unfolding IsJoint
joint_if p name n part new is there =
    let own : part.name ≡ name = same_Some part.name name (sym (map_at (λ (x : NodePart). x.name) p.nodes n part there) ∙ is) in (
      λ joint. subst (Contains p.nodes) (ap (λ m. record { name = m; kind = part.kind }) own ∙ ap (λ k. record { name = name; kind = k }) joint) (contains_at p.nodes n part there),
      λ has.
          let at = place_of p.nodes (record { name = name; kind = kind.Joint }) has in
          let same : at.0 ≡ n = one_node p new at.0 n name (map_at (λ (x : NodePart). x.name) p.nodes at.0 (record { name = name; kind = kind.Joint }) at.1) is in
          let whole : part ≡ record { name = name; kind = kind.Joint } = same_Some part (record { name = name; kind = kind.Joint }) (sym there ∙ (ap (slice_get p.nodes) (sym same) ∙ at.1)) in
          ap (λ (x : NodePart). x.kind) whole,
    )

pub candidate_if : (p : NetParts) (name : List ℕ) (joint split barred : Bool) → (joint ≡ true) ↔ IsJoint p name → (split ≡ false) ↔ IsOfOneSection p name → (barred ≡ false) ↔ IsFree p name
    → ((joint ≡ true) × (split ≡ false) × (barred ≡ false)) ↔ IsBorderJoint p name
candidate_if p name joint split barred is_joint one free = (
  λ all. record { joint = is_joint.0 all.0; one_section = one.0 all.1; free = free.0 all.2 },
  λ c. (is_joint.1 c.joint, one.1 c.one_section, free.1 c.free),
)

joint_named : (p : NetParts) (name : List ℕ) → IsJoint p name → Contains (node_names p) name
unfolding IsJoint
joint_named p name has =
    let at = place_of p.nodes (record { name = name; kind = kind.Joint }) has in
    contains_at (node_names p) at.0 name (map_at (λ (x : NodePart). x.name) p.nodes at.0 (record { name = name; kind = kind.Joint }) at.1)

pub no_candidate : (p : NetParts) (name : List ℕ) → ¬ Contains (node_names p) name → ¬ IsBorderJoint p name
no_candidate p name none c = none (joint_named p name c.joint)
