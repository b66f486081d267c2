-- The tracks of a network, told by their numbers on the grid.
use Rattle.std.proofs.Common.{◌≡◌, ◌+◌, ◌-◌, ◌<◌, inl, inr, ◌↔◌, ℕ, zero, suc, true, List, [], ◌∷◌, length, get_or, Some, slice_get, refl, sym, ap, subst, ◌∙◌, arith}
use Rattle.std.specs.Prelude.{All}
use Rattle.std.specs.List.{Contains}
use Rattle.std.proofs.lemmas.List.Elements.{All-contains, Contains-get_or}
use Rattle.std.proofs.lemmas.Option.{same_Some, get_or_from_slice_get}
use Rattle.rail_net.specs.Parts.{EndsAt, IsNode, IsTrackOfSection}
use Rattle.rail_net.specs.Borders.{IsBorderJoint, IsFree, IsJoint}
use Rattle.rail_net.specs.Refusals.{IsNet}
use Rattle.rail_net.specs.Sections.{IsOfOneSection}
use Rattle.rail_net.specs.declared.parts.NodeKind.TheVariants.{Joint}
use Rattle.rail_net.specs.declared.parts.NodePart.{NodePart}
use Rattle.rail_net.specs.declared.parts.TrackPart.{TrackPart}
use Rattle.rail_net.specs.declared.parts.NetParts.{NetParts}
use Rattle.rail_net.proofs.ListLaws.{contains_at, map_at, place_of}
use Rattle.rail_net.proofs.ListingLemmas.{one_section}
use Rattle.rail_net.proofs.NameLaws.{same_number}
use Rattle.timetable.specs.declared.parts.Timetable.{Timetable}
use Rattle.discretise.specs.Tracks.{AreGridTracks, AreInRange, AreLaid, IsGridTrack, IsTrackInRange, no_track}
use Rattle.discretise.specs.Joins.{ends_at, high_end, low_end}
use Rattle.discretise.specs.Places.{AreFreeEnds, AreEndsOfOneSection, AreOfSection, IsFreeJoint, track_of}
use Rattle.discretise.specs.declared.tracks.GridTrack.{GridTrack}
use Rattle.discretise.specs.declared.ends.TrackEnd.{TrackEnd}
use Rattle.discretise.proofs.GridLemmas.{IsEndAt, end_has, high_at, its_number, low_at}
use Rattle.discretise.proofs.TrackLemmas.{laid_at}
use Rattle.discretise.proofs.JoinLemmas.{no_end}

-- a track on the grid, with its part of the network
pub record IsTrackAt (p : NetParts) (t : Timetable) (gs : List GridTrack) (k : ℕ) (part : TrackPart) (g : GridTrack) : Type 0 where
  pub at_cell : ℕ
  pub at_cut : ℕ
  pub is_part : slice_get p.tracks k ≡ Some part
  pub is_grid : slice_get gs k ≡ Some g
  pub own : IsGridTrack p t k at_cell at_cut part g

laid_for : (p : NetParts) (t : Timetable) (number first cut : ℕ) (parts : List TrackPart) (gs : List GridTrack) → AreLaid p t number first cut parts gs → (k : ℕ) (part : TrackPart) → slice_get parts k ≡ Some part → (g : GridTrack) × (slice_get gs k ≡ Some g)
laid_for p t number first cut [] [] laid k part is = absurd (grind arith)
laid_for p t number first cut [] (h ∷ gs) laid k part is = absurd laid
laid_for p t number first cut (x ∷ parts) [] laid k part is = absurd laid
laid_for p t number first cut (x ∷ parts) (h ∷ gs) laid zero part is = (h, refl)
laid_for p t number first cut (x ∷ parts) (h ∷ gs) laid (suc k) part is = laid_for p t (number + 1) (first + h.count) (cut + (h.count - 1)) parts gs laid.1 k part is

module _ (p : NetParts) (t : Timetable) (gs : List GridTrack) (net : IsNet p) (all : AreGridTracks p t gs) where
  -- by the number on the grid, and by that of the part
  pub part_of : (k : ℕ) (g : GridTrack) → slice_get gs k ≡ Some g → (part : TrackPart) × IsTrackAt p t gs k part g
  unfolding AreGridTracks
  part_of k g is =
      let at = laid_at p t 0 0 (length p.nodes) p.tracks gs all k g is in
      (at.0, record { at_cell = at.1; at_cut = at.2; is_part = at.3; is_grid = is; own = subst (λ n. IsGridTrack p t n at.1 at.2 at.0 g) (let same : 0 + k ≡ k = omega arith in same) at.4 })

  pub grid_of : (k : ℕ) (part : TrackPart) → slice_get p.tracks k ≡ Some part → (g : GridTrack) × IsTrackAt p t gs k part g
  unfolding AreGridTracks
  grid_of k part is =
      let at = laid_for p t 0 0 (length p.nodes) p.tracks gs all k part is in
      let its = part_of k at.0 at.1 in
      (at.0, subst (λ x. IsTrackAt p t gs k x at.0) (same_Some its.0 part (sym its.1.is_part ∙ is)) its.1)

  pub has_number : (g : GridTrack) → Contains gs g → slice_get gs g.number ≡ Some g
  has_number g there =
      let at = place_of gs g there in
      let its = part_of at.0 g at.1 in
      subst (λ k. slice_get gs k ≡ Some g) (sym its.1.own.number) at.1

  -- a name is that of one node
  pub one_node : (i j : ℕ) (name : List ℕ) → IsNode p name i → IsNode p name j → i ≡ j
  one_node = same_number (λ (n : NodePart). n.name) p.nodes net.new_nodes

  pub one_name : (n : ℕ) (name other : List ℕ) → IsNode p name n → IsNode p other n → name ≡ other
  one_name n name other is also = same_Some name other (sym is ∙ also)

  -- a track that ends at the node of that name, on the grid: one of its ends is there
  pub record IsTrackTo (n k : ℕ) (e : TrackEnd) : Type 0 where
    pub part : TrackPart
    pub g : GridTrack
    pub track : IsTrackAt p t gs k part g
    pub there : Contains (ends_at gs n) e
    pub its : e.track ≡ k
    pub at : IsEndAt n g e

  pub end_of : (n : ℕ) (name : List ℕ) → IsNode p name n → (k : ℕ) → EndsAt p name k → (e : TrackEnd) × IsTrackTo n k e
  end_of n name is k ends =
      let at = grid_of k ends.part ends.is_track in
      let g = at.0 in
      let has : Contains gs g = contains_at gs k g at.1.is_grid in
      elim ends.at_end [
        | inl from ↦
            let here : g.from ≡ n = one_node g.from n name (subst (λ m. IsNode p m g.from) from at.1.own.from) is in
            (low_end g, record { part = ends.part; g = g; track = at.1; there = low_at gs n g has here; its = at.1.own.number; at = record { which = inl (here, refl) } })
        | inr to ↦
            let here : g.to ≡ n = one_node g.to n name (subst (λ m. IsNode p m g.to) to at.1.own.to) is in
            (high_end g, record { part = ends.part; g = g; track = at.1; there = high_at gs n g has here; its = at.1.own.number; at = record { which = inr (here, refl) } })
      ]

  -- an end at the node, with its track
  pub of_end : (n : ℕ) (name : List ℕ) → IsNode p name n → (e : TrackEnd) → Contains (ends_at gs n) e → IsTrackTo n e.track e × EndsAt p name e.track
  of_end n name is e there =
      let at = end_has gs n e there in
      let g = at.0 in
      let place = place_of gs g at.1 in
      let k = place.0 in
      let its = part_of k g place.1 in
      let number : k ≡ e.track = sym its.1.own.number ∙ its_number n g e at.2 in
      let track : IsTrackAt p t gs e.track its.0 g = subst (λ j. IsTrackAt p t gs j its.0 g) number its.1 in (
        record { part = its.0; g = g; track = track; there = there; its = refl; at = at.2 },
        record {
          part = its.0;
          is_track = track.is_part;
          at_end = elim at.2.which [
            | inl low ↦ inl (one_name n its.0.from name (subst (λ m. IsNode p its.0.from m) low.0 track.own.from) is)
            | inr high ↦ inr (one_name n its.0.to name (subst (λ m. IsNode p its.0.to m) high.0 track.own.to) is)
          ];
        },
      )

  -- the track of an end
  pub track_is : (n k : ℕ) (e : TrackEnd) (to : IsTrackTo n k e) → track_of gs e ≡ to.g
  track_is n k e to = get_or_from_slice_get gs e.track to.g no_track (subst (λ j. slice_get gs j ≡ Some to.g) (sym to.its) to.track.is_grid)

  pub section_is : (k section : ℕ) (part : TrackPart) (g : GridTrack) → IsTrackAt p t gs k part g → IsTrackOfSection p section k → section ≡ g.section
  section_is k section part g at of = one_section p section g.section k net.once of at.own.section

  -- a node whose tracks are of one section, and all of them virtual, by their ends
  module _ (n : ℕ) (part : NodePart) (is_part : slice_get p.nodes n ≡ Some part) where
    its_name : IsNode p part.name n
    its_name = map_at (λ (x : NodePart). x.name) p.nodes n part is_part

    of_section : (section : ℕ) → AreOfSection gs section (ends_at gs n) → (k its : ℕ) → EndsAt p part.name k → IsTrackOfSection p its k → its ≡ section
    of_section section each k its at of =
        let one = end_of n part.name its_name k at in
        section_is k its one.1.part one.1.g one.1.track of
        ∙ (ap (λ (g : GridTrack). g.section) (sym (track_is n k one.0 one.1)) ∙ All-contains (λ e. (track_of gs e).section ≡ section) (ends_at gs n) one.0 each one.1.there)

    free_is : AreFreeEnds gs part.kind (ends_at gs n) → IsFreeJoint p n
    unfolding IsJoint IsOfOneSection IsFree AreEndsOfOneSection
    free_is free = record {
      name = part.name;
      is_node = its_name;
      candidate = record {
        joint = contains_at p.nodes n (record { name = part.name; kind = Joint }) (is_part ∙ ap (λ k. Some (record { name = part.name; kind = k })) free.joint);
        one_section = λ track other section its at also in_section in_its.
            of_section free.one_section.0 free.one_section.1 track section at in_section ∙ sym (of_section free.one_section.0 free.one_section.1 other its also in_its);
        free = λ k track at there.
            let one = end_of n part.name its_name k at in
            let virtual : (track_of gs one.0).is_virtual ≡ true = All-contains (λ e. (track_of gs e).is_virtual ≡ true) (ends_at gs n) one.0 free.are_open one.1.there in
            let same : one.1.part ≡ track = same_Some one.1.part track (sym one.1.track.is_part ∙ there) in
            ap (λ (x : TrackPart). x.virtual_ok) (sym same) ∙ (sym one.1.track.own.is_virtual ∙ (ap (λ (g : GridTrack). g.is_virtual) (sym (track_is n k one.0 one.1)) ∙ virtual));
      };
    }

    is_free : IsFreeJoint p n → AreFreeEnds gs part.kind (ends_at gs n)
    unfolding IsJoint IsOfOneSection IsFree AreEndsOfOneSection
    is_free free =
        let name : free.name ≡ part.name = one_name n free.name part.name free.is_node its_name in
        let whole : IsBorderJoint p part.name = subst (IsBorderJoint p) name free.candidate in
        let at = place_of p.nodes (record { name = part.name; kind = Joint }) whole.joint in
        let same : at.0 ≡ n = one_node at.0 n part.name (map_at (λ (x : NodePart). x.name) p.nodes at.0 (record { name = part.name; kind = Joint }) at.1) its_name in
        let first : TrackEnd = get_or (ends_at gs n) 0 no_end in
        record {
          joint = ap (λ (x : NodePart). x.kind) (same_Some part (record { name = part.name; kind = Joint }) (sym is_part ∙ (ap (slice_get p.nodes) (sym same) ∙ at.1)));
          are_open = λ k d within.
              let e : TrackEnd = get_or (ends_at gs n) k d in
              let to = of_end n part.name its_name e (Contains-get_or (ends_at gs n) k d within) in
              ap (λ (g : GridTrack). g.is_virtual) (track_is n e.track e to.0) ∙ (to.0.track.own.is_virtual ∙ whole.free e.track to.0.part to.1 to.0.track.is_part);
          one_section = (
            (track_of gs first).section,
            λ k d within.
                let e : TrackEnd = get_or (ends_at gs n) k d in
                let to = of_end n part.name its_name e (Contains-get_or (ends_at gs n) k d within) in
                let some : 0 < length (ends_at gs n) = omega arith in
                let one = of_end n part.name its_name first (Contains-get_or (ends_at gs n) 0 no_end some) in
                ap (λ (g : GridTrack). g.section) (track_is n e.track e to.0)
                ∙ (whole.one_section e.track first.track to.0.g.section one.0.g.section to.1 one.1 to.0.track.own.section one.0.track.own.section
                ∙ ap (λ (g : GridTrack). g.section) (sym (track_is n first.track first one.0))),
          );
        }

    pub free_if : AreFreeEnds gs part.kind (ends_at gs n) ↔ IsFreeJoint p n
    free_if = (free_is, is_free)

-- the tracks of ends at a node are there
pub tracks_of_ends : (nodes : ℕ) (gs : List GridTrack) → AreInRange nodes gs → (n : ℕ) → All (λ e. e.track < length gs) (ends_at gs n)
tracks_of_ends nodes gs range n k d within =
    let e : TrackEnd = get_or (ends_at gs n) k d in
    let at = end_has gs n e (Contains-get_or (ends_at gs n) k d within) in
    let its = All-contains (IsTrackInRange nodes (length gs)) gs at.0 range at.1 in
    let number : at.0.number ≡ e.track = its_number n at.0 e at.2 in
    omega (arith, its.number)
