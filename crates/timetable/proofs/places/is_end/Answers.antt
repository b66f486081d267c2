-- Why `is_end` does what its contract says.
use Rattle.std.proofs.Common.{◌≡◌, ◌<◌, List, length, Some, slice_get, subst, sym, ap, refl, ◌∙◌}
use Rattle.std.proofs.lemmas.Bool.{false≢true}
use Rattle.std.proofs.lemmas.Option.{slice_get_read}
use Rattle.rail_net.proofs.NodeLemmas.{node_within}
use Rattle.rail_net.specs.declared.parts.NetParts.{NetParts}
use Rattle.rail_net.specs.declared.parts.NodePart.{NodePart}
use Rattle.timetable.proofs.PlaceLemmas.{end_if, not_end}
use Rattle.timetable.proofs.places.is_end.Goals as goal

pub returns-in-Some : goal.returns-in-Some
returns-in-Some c =
    let p = c.args.net.now in
    let name = c.args.name.now in
    let n = c.in-Some.number in
    let seen : List NodePart = c.as_slice-nodes.result.now in
    let part : NodePart = c.index-nodes-number.result in
    let same : seen ≡ p.nodes = c.as_slice-nodes.ensures ∙ ap (λ (x : NetParts). x.nodes) c.parts.ensures.parts in
    let within : n < length seen = subst (λ ns. n < length ns) (sym same) (node_within p n name c.in-Some.ensures) in
    let there : slice_get p.nodes n ≡ Some part = subst (λ ns. slice_get ns n ≡ Some part) same (slice_get_read seen (length seen) n part refl within c.index-nodes-number.is) in
    let both = end_if p name n part c.parts.ensures.rules c.in-Some.ensures there in
    (λ h. both.0 (c.is_end_node.ensures.0 h), λ h. c.is_end_node.ensures.1 (both.1 h))

pub returns-in-None : goal.returns-in-None
returns-in-None c = (λ h. absurd (false≢true h), λ h. absurd (not_end c.args.net.now c.args.name.now c.in-None.ensures h))
