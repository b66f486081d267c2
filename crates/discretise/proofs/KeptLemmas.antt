-- The nodes where borders of a network stand.
use Rattle.std.proofs.Common.{◌≡◌, ◌+◌, ◌-◌, ◌*◌, ◌/◌, ◌<◌, ◌≤◌, inl, inr, ◌↔◌, ℕ, zero, suc, Bool, true, false, IsTrue, List, [], ◌∷◌, ◌++◌, length, map, set, Some, slice_get, refl, sym, ap, subst, ◌∙◌, arith}
use Rattle.std.specs.Prelude.{if◌then◌else◌}
use Rattle.std.specs.Int.{div_ceil}
use Rattle.std.specs.List.{range_with_len}
use Rattle.std.proofs.lemmas.Grind.{div_ceil_times}
use Rattle.std.proofs.Math.Nat.{mul-div_cancel, lt_of_mul-lt-mul_right}
use Rattle.std.proofs.lemmas.List.{length-set, map_push}
use Rattle.std.proofs.lemmas.List.Elements.{Contains-append_left, Contains-push, Contains-push_cases}
use Rattle.std.proofs.lemmas.Option.{same_Some}
use Rattle.cell_net.specs.declared.ids.CandidateId.{CandidateId}
use Rattle.cell_net.specs.declared.ids.NodeId.{NodeId}
use Rattle.rail_net.specs.Parts.{IsNode, IsTrack}
use Rattle.rail_net.specs.Borders.{IsBorderJoint, IsJoint, IsWithinTrack}
use Rattle.rail_net.specs.Refusals.{IsNet}
use Rattle.rail_net.specs.declared.parts.NodeKind.TheVariants.{Joint}
use Rattle.rail_net.specs.declared.parts.NodePart.{NodePart}
use Rattle.rail_net.specs.declared.parts.TrackPart.{TrackPart}
use Rattle.rail_net.specs.declared.parts.BorderPart.{BorderPart}
use Rattle.rail_net.specs.declared.parts.BorderPart.TheVariants as border
use Rattle.rail_net.specs.declared.parts.NetParts.{NetParts}
use Rattle.rail_net.proofs.ListLaws.{map_at, place_of}
use Rattle.rail_net.proofs.NameLaws.{same_number}
use Rattle.timetable.specs.declared.parts.Timetable.{Timetable}
use Rattle.discretise.specs.Picks.{Picks}
use Rattle.discretise.specs.Tracks.{AreGridTracks, cut_total}
use Rattle.discretise.specs.Places.{AreMarkedFor, IsKeptPlace, IsNodeOfOne, StandsAtNode, candidate}
use Rattle.discretise.specs.Refusals.{AreWholeSteps}
use Rattle.discretise.specs.declared.tracks.GridTrack.{GridTrack}
use Rattle.discretise.proofs.ChainLemmas.{chained, lies_within}
use Rattle.discretise.proofs.NetLemmas.{grid_of, has_number}
use Rattle.discretise.proofs.PickLaws.{picks_number, skips_number}
use Rattle.discretise.proofs.RowLemmas.{mark_cases}

-- whole steps of space within a track are fewer than its cells
pub steps_within : (metres len step steps : ℕ) → metres ≡ steps * step → 0 < metres → metres < len → 1 ≤ step → (metres / step ≡ steps) × (0 < steps) × (steps < div_ceil len step)
steps_within metres len step steps is some within positive = (
  ap (λ n. n / step) is ∙ mul-div_cancel steps positive,
  go steps is,
  lt_of_mul-lt-mul_right step (let most : len ≤ div_ceil len step * step = (div_ceil_times len step positive).0 in let below : steps * step < div_ceil len step * step = omega arith in below),
)
  where
    go : (n : ℕ) → metres ≡ n * step → 0 < n
    go zero none = absurd (omega arith)
    go (suc n) same = omega arith

-- a joint with a name is a node
pub joint_named : (p : NetParts) (name : List ℕ) → IsBorderJoint p name → (node : ℕ) × IsNode p name node
unfolding IsJoint
joint_named p name c =
    let at = place_of p.nodes (record { name = name; kind = Joint }) c.joint in
    (at.0, map_at (λ (n : NodePart). n.name) p.nodes at.0 (record { name = name; kind = Joint }) at.1)

pub track_there : (p : NetParts) (name : List ℕ) (at_m : ℕ) → IsWithinTrack p name at_m → (track : ℕ) × IsTrack p name track
track_there p name at_m w =
    let at = place_of p.tracks w.track w.is_there in
    (at.0, map_at (λ (x : TrackPart). x.name) p.tracks at.0 w.track at.1 ∙ ap Some w.named)

-- where the cut of a border lies
pub record IsCutWell (p : NetParts) (t : Timetable) (gs : List GridTrack) (track : List ℕ) (at_m number : ℕ) : Type 0 where
  pub g : GridTrack
  pub is_grid : slice_get gs number ≡ Some g
  pub named : IsTrack p track g.number
  pub some : 0 < at_m / t.space_step_m
  pub below : at_m / t.space_step_m < g.count
  pub cut : g.cut + (g.count - 1) ≤ length p.nodes + cut_total gs

pub cut_well : (p : NetParts) (t : Timetable) (gs : List GridTrack) → IsNet p → AreGridTracks p t gs → 1 ≤ t.space_step_m → (track : List ℕ) (at_m number : ℕ) → IsWithinTrack p track at_m → AreWholeSteps t at_m → IsTrack p track number → IsCutWell p t gs track at_m number
cut_well p t gs net all positive track at_m number w whole is =
    let place = place_of p.tracks w.track w.is_there in
    let named : IsTrack p track place.0 = map_at (λ (x : TrackPart). x.name) p.tracks place.0 w.track place.1 ∙ ap Some w.named in
    let same : place.0 ≡ number = same_number (λ (x : TrackPart). x.name) p.tracks net.new_tracks place.0 number track named is in
    let part : slice_get p.tracks number ≡ Some w.track = subst (λ k. slice_get p.tracks k ≡ Some w.track) same place.1 in
    let at = grid_of p t gs net all number w.track part in
    let steps = steps_within at_m w.track.length_m t.space_step_m whole.steps whole.whole w.past_start w.before_end positive in
    let lies = lies_within 0 (length p.nodes) gs (chained p t gs all) number at.0 at.1.is_grid in
    let number_is : at.0.number ≡ number = at.1.own.number in
    let count : at.0.count ≡ div_ceil w.track.length_m t.space_step_m = at.1.own.count in
    record {
      g = at.0;
      is_grid = at.1.is_grid;
      named = subst (λ k. IsTrack p track k) (sym number_is) is;
      some = subst (λ n. 0 < n) (sym steps.0) steps.1;
      below = subst (λ n. n < at.0.count) (sym steps.0) (subst (λ n. whole.steps < n) (sym count) steps.2);
      cut = lies.cuts_to;
    }

-- a node stands for one border, and a cut or a joint is the node of a border
module _ (p : NetParts) (t : Timetable) (gs : List GridTrack) (net : IsNet p) (all : AreGridTracks p t gs) where
  pub one_place : (part : BorderPart) (i j : ℕ) → StandsAtNode p t gs part i → StandsAtNode p t gs part j → i ≡ j
  one_place (border.Cut track at_m) i j one other =
      let k = place_of gs one.g one.there in
      let l = place_of gs other.g other.there in
      let number : one.g.number ≡ other.g.number = same_number (λ (x : TrackPart). x.name) p.tracks net.new_tracks one.g.number other.g.number track one.named other.named in
      let same : one.g ≡ other.g = same_Some one.g other.g (sym (has_number p t gs net all one.g one.there) ∙ (ap (slice_get gs) number ∙ has_number p t gs net all other.g other.there)) in
      let cut : one.g.cut ≡ other.g.cut = ap (λ (g : GridTrack). g.cut) same in
      omega (arith, one.at, other.at)
  one_place (border.Joint name) i j one other = same_number (λ (n : NodePart). n.name) p.nodes net.new_nodes i j name one other

  -- one more border is marked
  pub marked_more : (parts : List BorderPart) (part : BorderPart) (nodes number : ℕ) (marks : List Bool) → AreMarkedFor p t gs parts nodes marks → number < nodes → StandsAtNode p t gs part number
      → AreMarkedFor p t gs (parts ++ part ∷ []) nodes (set marks number true)
  marked_more parts part nodes number marks so_far within stands = record {
    count = length-set marks number true ∙ so_far.count;
    each = λ k mark is. elim (mark_cases marks number k mark (subst (λ n. number < n) (sym so_far.count) within) is) [
      | inl here ↦ (λ told. record { part = part; listed = Contains-push parts part; stands = subst (StandsAtNode p t gs part) (sym here.0) stands }, λ has. here.1)
      | inr other ↦
          let tells = so_far.each k mark other.1 in (
            λ told. let one = tells.0 told in record { part = one.part; listed = Contains-append_left parts (part ∷ []) one.part one.listed; stands = one.stands },
            λ has. elim (Contains-push_cases parts part has.part has.listed) [
              | inl before ↦ tells.1 (record { part = has.part; listed = before; stands = has.stands })
              | inr same ↦ absurd (other.0 (one_place part k number (subst (λ b. StandsAtNode p t gs b k) (sym same) has.stands) stands))
            ],
          )
    ];
  }

-- a candidate that is added where it is kept
pub kept_more : (p : NetParts) (t : Timetable) (gs : List GridTrack) (candidates : List NodeId) (n : ℕ) (numbers : List ℕ) (kept new : List CandidateId) (told : Bool) (place : NodeId)
    → Picks (IsKeptPlace p t gs candidates) (range_with_len 0 n) numbers → kept ≡ map candidate numbers → slice_get candidates n ≡ Some place → IsTrue told ↔ IsNodeOfOne p t gs p.borders place.0
    → new ≡ (if told then kept ++ candidate n ∷ [] else kept) → (more : List ℕ) × Picks (IsKeptPlace p t gs candidates) (range_with_len 0 (n + 1)) more × (new ≡ map candidate more)
kept_more p t gs candidates n numbers kept new true place picked are there tells is = (
  numbers ++ n ∷ [],
  picks_number (IsKeptPlace p t gs candidates) n numbers picked (record { place = place; is_there = there; kept = tells.0 refl }),
  is ∙ (ap (λ ks. ks ++ candidate n ∷ []) are ∙ sym (map_push candidate numbers n)),
)
kept_more p t gs candidates n numbers kept new false place picked are there tells is = (
  numbers,
  skips_number (IsKeptPlace p t gs candidates) n numbers picked (λ kept_there.
      let same : kept_there.place ≡ place = same_Some kept_there.place place (sym kept_there.is_there ∙ there) in
      let told = tells.1 (subst (λ (m : NodeId). IsNodeOfOne p t gs p.borders m.0) same kept_there.kept) in absurd cc),
  is ∙ are,
)
