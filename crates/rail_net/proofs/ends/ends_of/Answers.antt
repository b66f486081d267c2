-- Why `ends_of` does what its contract says.
use Rattle.std.proofs.Common.{◌≡◌, ◌∷◌, [], ◌++◌, inl, inr, ◌<◌, ◌≤◌, ◌+◌, ℕ, List, length, slice_get, Some, subst, sym, ap, refl, ◌∙◌}
use Rattle.std.proofs.lemmas.Option.{slice_get_read, same_Some}
use Rattle.std.proofs.lemmas.List.{length_push}
use Rattle.rail_net.specs.Parts.{node_names}
use Rattle.rail_net.specs.Rules.{KnowsNodes}
use Rattle.rail_net.specs.Tables.{AreNodes}
use Rattle.rail_net.specs.declared.ends.TrackEnds.{TrackEnds}
use Rattle.rail_net.specs.declared.parts.NetParts.{NetParts}
use Rattle.rail_net.specs.declared.parts.TrackPart.{TrackPart}
use Rattle.rail_net.proofs.ListLaws.{contains_at, push_at, holds_more, holds_all}
use Rattle.rail_net.proofs.ends.ends_of.Goals as goal

-- one more track, with its nodes
each_more : (p : NetParts) (ends : List TrackEnds) (place : ℕ) (track : TrackPart) (made : TrackEnds) → length ends ≡ place → slice_get p.tracks place ≡ Some track → AreNodes (node_names p) track made
    → ((k : ℕ) (t : TrackPart) (e : TrackEnds) → slice_get p.tracks k ≡ Some t → slice_get ends k ≡ Some e → AreNodes (node_names p) t e)
    → (k : ℕ) (t : TrackPart) (e : TrackEnds) → slice_get p.tracks k ≡ Some t → slice_get (ends ++ made ∷ []) k ≡ Some e → AreNodes (node_names p) t e
each_more p ends place track made count is own each k t e there at =
    elim (push_at ends made k e at) [
      | inl before ↦ each k t e there before
      | inr here ↦
          let number : k ≡ place = here.0 ∙ count in
          let one : track ≡ t = same_Some track t (sym is ∙ subst (λ j. slice_get p.tracks j ≡ Some t) number there) in
          subst (λ x. AreNodes (node_names p) t x) here.1 (subst (λ x. AreNodes (node_names p) x made) one own)
    ]

pub loop-place-preserved : goal.loop-place-preserved
loop-place-preserved c =
    let p = c.args.parts.now in
    let place = c.loop-place.place in
    let track : TrackPart = c.index-tracks-place.result in
    let ends = c.loop-place.ends.items in
    let made : TrackEnds = c.in-Some.its in
    let seen : List TrackPart = c.as_slice-tracks.result.now in
    let within : place < length seen = c.loop-place-test.true in
    let is : slice_get p.tracks place ≡ Some track =
    subst (λ ts. slice_get ts place ≡ Some track) c.as_slice-tracks.ensures (slice_get_read seen (length seen) place track refl within c.index-tracks-place.is) in
    let own : AreNodes (node_names p) track made = subst (λ ns. AreNodes ns track made) c.requires.names.nodes c.in-Some.ensures in
    let grown : c.push.new.self.items ≡ ends ++ made ∷ [] = c.in-Ok-push.ensures.items in
    record {
      count = ap length grown ∙ (length_push ends made ∙ ap (λ n. n + 1) c.loop-place.invariant.count);
      each = subst (λ es. (k : ℕ) (t : TrackPart) (e : TrackEnds) → slice_get p.tracks k ≡ Some t → slice_get es k ≡ Some e → AreNodes (node_names p) t e) (sym grown)
          (each_more p ends place track made c.loop-place.invariant.count is own c.loop-place.invariant.each);
      known = holds_more (KnowsNodes p) p.tracks place track c.loop-place.invariant.known is
          (record { from = contains_at (node_names p) made.from track.from own.from; to = contains_at (node_names p) made.to track.to own.to });
    }

pub returns-clause-known : goal.returns-clause-known
returns-clause-known c =
    let p = c.args.parts.now in
    let seen : List TrackPart = c.as_slice-tracks.result.now in
    let past : length seen ≤ c.loop-place.place = c.loop-place-test.false in
    holds_all (KnowsNodes p) p.tracks c.loop-place.place (subst (λ ts. length ts ≤ c.loop-place.place) c.as_slice-tracks.ensures past) c.loop-place.invariant.known
