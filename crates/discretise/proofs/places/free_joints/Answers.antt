-- Why `free_joints` does what its contract says.
use Rattle.std.proofs.Common.{◌≡◌, ◌↔◌, ◌<◌, ◌+◌, ◌++◌, ℕ, Bool, true, false, IsTrue, List, [], ◌∷◌, length, get_or, Some, slice_get, refl, sym, ap, subst, ◌∙◌}
use Rattle.std.specs.Prelude.{if◌then◌else◌, All}
use Rattle.std.specs.List.{range_with_len}
use Rattle.std.proofs.lemmas.Option.{get_or_from_slice_get, slice_get-get_or, slice_get_read}
use Rattle.rail_net.specs.declared.parts.NodePart.{NodePart}
use Rattle.rail_net.specs.declared.parts.NetParts.{NetParts}
use Rattle.discretise.specs.Picks.{Picks}
use Rattle.discretise.specs.Joins.{ends_at}
use Rattle.discretise.specs.Places.{AreFreeEnds, IsFreeJoint}
use Rattle.discretise.specs.declared.ends.TrackEnd.{TrackEnd}
use Rattle.discretise.proofs.PickLaws.{picks_number, skips_number}
use Rattle.discretise.proofs.NetLemmas.{free_if, tracks_of_ends}
use Rattle.discretise.proofs.places.free_joints.Goals as goal

pub is_free_joint-is_free-requires : goal.is_free_joint-is_free-requires
is_free_joint-is_free-requires c =
    let p = c.args.net.now in
    let n = c.loop-number.number in
    let seen : List NodePart = c.as_slice-nodes.result.now in
    let nodes : seen ≡ p.nodes = c.as_slice-nodes.ensures ∙ ap (λ (q : NetParts). q.nodes) c.parts.ensures.parts in
    let within : n < length p.nodes = subst (λ ns. n < length ns) nodes c.loop-number-test.true in
    let row : List TrackEnd = c.index-ends-number.result in
    let rows : List (List TrackEnd) = c.args.ends.now in
    let its : row ≡ ends_at c.args.tracks.now n = row_is rows n row c.index-ends-number.is (subst (λ m. n < m) (sym c.requires.ends.count) within) ∙ c.requires.ends.each n within in
    subst (λ (es : List TrackEnd). All (λ e. e.track < length c.args.tracks.now) es) (sym (c.as_slice.ensures ∙ its)) (tracks_of_ends (length p.nodes) c.args.tracks.now c.requires.range n)
  where
    row_is : (rows : List (List TrackEnd)) (n : ℕ) (row : List TrackEnd) → row ≡ get_or rows n row → n < length rows → row ≡ get_or rows n []
    row_is rows n row is within = sym (get_or_from_slice_get rows n row [] (slice_get_read rows (length rows) n row refl within is))

-- a number that is added where it is wanted
chosen : (p : NetParts) (n : ℕ) (joints new : List ℕ) (told : Bool) → Picks (IsFreeJoint p) (range_with_len 0 n) joints → IsTrue told ↔ IsFreeJoint p n
    → new ≡ (if told then joints ++ n ∷ [] else joints) → Picks (IsFreeJoint p) (range_with_len 0 (n + 1)) new
chosen p n joints new true picked tells is = subst (Picks (IsFreeJoint p) (range_with_len 0 (n + 1))) (sym is) (picks_number (IsFreeJoint p) n joints picked (tells.0 refl))
chosen p n joints new false picked tells is = subst (Picks (IsFreeJoint p) (range_with_len 0 (n + 1))) (sym is) (skips_number (IsFreeJoint p) n joints picked (λ free. let told = tells.1 free in absurd cc))

pub loop-number-preserved : goal.loop-number-preserved
loop-number-preserved c =
    let p = c.args.net.now in
    let n = c.loop-number.number in
    let seen : List NodePart = c.as_slice-nodes.result.now in
    let part : NodePart = get_or seen n c.index-nodes-number.result in
    let nodes : seen ≡ p.nodes = c.as_slice-nodes.ensures ∙ ap (λ (q : NetParts). q.nodes) c.parts.ensures.parts in
    let within : n < length p.nodes = subst (λ ns. n < length ns) nodes c.loop-number-test.true in
    let there : slice_get p.nodes n ≡ Some part = subst (λ ns. slice_get ns n ≡ Some part) nodes (slice_get-get_or seen n c.index-nodes-number.result c.loop-number-test.true) in
    let row : List TrackEnd = c.index-ends-number.result in
    let rows : List (List TrackEnd) = c.args.ends.now in
    let its : row ≡ ends_at c.args.tracks.now n = row_is rows n row c.index-ends-number.is (subst (λ m. n < m) (sym c.requires.ends.count) within) ∙ c.requires.ends.each n within in
    let tells = subst (λ (es : List TrackEnd). IsTrue c.is_free_joint-is_free.result ↔ AreFreeEnds c.args.tracks.now part.kind es) (c.as_slice.ensures ∙ its) c.is_free_joint-is_free.ensures in
    let both = free_if p c.args.timetable.now c.args.tracks.now c.parts.ensures.rules c.requires.tracks n part there in
    chosen p n c.loop-number.joints.items c.add_if.new.numbers.items c.is_free_joint-is_free.result c.loop-number.invariant
    (λ told. both.0 (tells.0 told), λ free. tells.1 (both.1 free)) c.in_ok-add_if.ensures
  where
    row_is : (rows : List (List TrackEnd)) (n : ℕ) (row : List TrackEnd) → row ≡ get_or rows n row → n < length rows → row ≡ get_or rows n []
    row_is rows n row is within = sym (get_or_from_slice_get rows n row [] (slice_get_read rows (length rows) n row refl within is))
