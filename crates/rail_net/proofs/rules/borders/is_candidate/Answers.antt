-- Why `is_candidate` does what its contract says.
use Rattle.std.proofs.Common.{◌≡◌, ◌<◌, List, false, get_or, length, Some, slice_get, subst, sym, refl}
use Rattle.std.specs.List.{Contains}
use Rattle.std.proofs.lemmas.Bool.{false≢true}
use Rattle.std.proofs.lemmas.Option.{slice_get_read, slice_get-get_or}
use Rattle.rail_net.specs.Parts.{IsNode}
use Rattle.rail_net.specs.declared.parts.NodePart.{NodePart}
use Rattle.rail_net.proofs.NodeLemmas.{node_within}
use Rattle.rail_net.proofs.RuleLemmas.{joint_if, candidate_if, no_candidate}
use Rattle.rail_net.proofs.rules.borders.is_candidate.Goals as goal

pub returns-in-Some : goal.returns-in-Some
returns-in-Some c =
    let p = c.args.parts.now in
    let n = c.in-Some.number in
    let name = c.args.name.now in
    let seen : List NodePart = c.as_slice-nodes.result.now in
    let part : NodePart = c.index-nodes-at.result in
    let is : IsNode p name n = subst (λ names. slice_get names n ≡ Some name) c.requires.names.nodes c.in-Some.ensures in
    let within : n < length p.nodes = node_within p n name is in
    let there : slice_get p.nodes n ≡ Some part = subst (λ ns. slice_get ns n ≡ Some part) c.as_slice-nodes.ensures
    (slice_get_read seen (length seen) n part refl (subst (λ ns. n < length ns) (sym c.as_slice-nodes.ensures) within) c.index-nodes-at.is) in
    let joint = joint_if p name n part c.requires.new_nodes is there in
    let split = c.requires.splits.at_node n name (get_or c.args.splits.now n false) is (slice_get-get_or c.args.splits.now n false (subst (λ m. n < m) (sym c.requires.splits.len) within)) in
    let barred = c.requires.bars.at_node n name (get_or c.args.bars.now n false) is (slice_get-get_or c.args.bars.now n false (subst (λ m. n < m) (sym c.requires.bars.len) within)) in
    let both = candidate_if p name c.is_joint-joint.result (get_or c.args.splits.now n false) (get_or c.args.bars.now n false)
    (λ h. joint.0 (c.is_joint-joint.ensures.0 h), λ h. c.is_joint-joint.ensures.1 (joint.1 h)) split barred in
    (λ h. both.0 (c.stands.ensures.0 h), λ h. c.stands.ensures.1 (both.1 h))

pub returns-in-None : goal.returns-in-None
returns-in-None c =
    (λ h. absurd (false≢true h), λ h. absurd (no_candidate c.args.parts.now c.args.name.now (λ there. c.in-None.ensures (subst (λ names. Contains names c.args.name.now) (sym c.requires.names.nodes) there)) h))
