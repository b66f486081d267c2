-- Why `is_here` does what its contract says.
use Rattle.std.proofs.Common.{◌≡◌, ◌<◌, List, length, Some, slice_get, subst, sym, refl}
use Rattle.std.specs.List.{Contains}
use Rattle.std.proofs.lemmas.Bool.{false≢true}
use Rattle.std.proofs.lemmas.Option.{slice_get_read}
use Rattle.rail_net.specs.Parts.{IsTrack}
use Rattle.rail_net.specs.declared.parts.TrackPart.{TrackPart}
use Rattle.rail_net.proofs.RuleLemmas.{here_if, not_here}
use Rattle.rail_net.proofs.NodeLemmas.{track_within}
use Rattle.rail_net.proofs.rules.nodes.is_here.Goals as goal

pub returns-in-Some : goal.returns-in-Some
returns-in-Some c =
    let p = c.args.parts.now in
    let seen : List TrackPart = c.as_slice-tracks.result.now in
    let t : TrackPart = c.index-tracks-at.result in
    let is : IsTrack p c.args.track.now c.in-Some.number = subst (λ names. slice_get names c.in-Some.number ≡ Some c.args.track.now) c.requires.names.tracks c.in-Some.ensures in
    let there : slice_get p.tracks c.in-Some.number ≡ Some t = subst (λ ts. slice_get ts c.in-Some.number ≡ Some t) c.as_slice-tracks.ensures (slice_get_read seen (length seen) c.in-Some.number t refl (subst (λ ts. c.in-Some.number < length ts) (sym c.as_slice-tracks.ensures) (track_within p c.in-Some.number c.args.track.now is)) c.index-tracks-at.is) in
    let both = here_if p c.args.node.now c.args.track.now c.in-Some.number t c.requires.new is there in
    (λ h. both.0 (c.has_end.ensures.0 h), λ h. c.has_end.ensures.1 (both.1 h))

pub returns-in-None : goal.returns-in-None
returns-in-None c =
    (λ h. absurd (false≢true h), λ h. absurd (not_here c.args.parts.now c.args.node.now c.args.track.now (λ there. c.in-None.ensures (subst (λ names. Contains names c.args.track.now) (sym c.requires.names.tracks) there)) h))
