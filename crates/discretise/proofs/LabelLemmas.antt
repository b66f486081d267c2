-- The labels of a scene are those of its instance: names, none of which is another's.
use Rattle.std.proofs.Common.{◌≡◌, ◌+◌, ◌-◌, ◌*◌, ◌/◌, ◌<◌, ◌⊎◌, inl, inr, ℕ, zero, Bool, true, false, List, [], ◌∷◌, ◌++◌, length, map, get_or, Some, slice_get, refl, sym, ap, subst, ◌∙◌, arith}
use Rattle.std.specs.Prelude.{All, if◌then◌else◌}
use Rattle.std.specs.List.{AllZip, Contains, flat_map, range_with_len}
use Rattle.std.proofs.lemmas.List.{length-map}
use Rattle.std.proofs.lemmas.List.Elements.{All-contains, All-map}
use Rattle.std.proofs.lemmas.Option.{same_Some, slice_get_within, slice_get-get_or, get_or_from_slice_get}
use Rattle.std.proofs.Math.Nat.{mul-div_cancel}
use Rattle.vss_names.specs.Names.{IsName}
use Rattle.vss_lists.specs.Breaks.{HoldsOfEach}
use Rattle.cell_net.specs.Labelled.{AllDiffer, AreLabels, AreLabelsOf, IsGoodPlace}
use Rattle.cell_net.specs.declared.ids.NodeId.{NodeId}
use Rattle.cell_net.specs.declared.labels.CellLabel.{CellLabel}
use Rattle.cell_net.specs.declared.labels.PlaceLabel.{PlaceLabel}
use Rattle.cell_net.specs.declared.labels.PlaceLabel.TheVariants as place
use Rattle.cell_net.specs.declared.labels.Labels.{Labels}
use Rattle.cell_net.specs.declared.parts.InstanceParts.{InstanceParts}
use Rattle.rail_net.specs.Parts.{IsNode, node_names, track_names}
use Rattle.rail_net.specs.Refusals.{IsNet}
use Rattle.rail_net.specs.Rules.{HasNewName}
use Rattle.rail_net.specs.declared.parts.TrackPart.{TrackPart}
use Rattle.rail_net.specs.declared.parts.NetParts.{NetParts}
use Rattle.rail_net.proofs.ListLaws.{contains_at}
use Rattle.rail_net.proofs.NameLaws.{same_number}
use Rattle.timetable.specs.Timetables.{IsTimetable}
use Rattle.timetable.specs.declared.parts.TrainPart.{TrainPart}
use Rattle.timetable.specs.declared.parts.Timetable.{Timetable}
use Rattle.discretise.specs.Tracks.{AreGridTracks}
use Rattle.discretise.specs.Cells.{cell_labels, label_in, node}
use Rattle.discretise.specs.Places.{AreFreeJoints, IsFreeJoint, nodes_of_candidates, cut_label, cut_labels, cuts_in, joint_label, labels_of_cuts, open_cuts, place_labels}
use Rattle.discretise.specs.Scenes.{AreNames, AreParts}
use Rattle.discretise.specs.declared.tracks.GridTrack.{GridTrack}
use Rattle.discretise.proofs.CandidateLemmas.{candidates_rise}
use Rattle.discretise.proofs.ChainLemmas.{chained, placed, rows_length}
use Rattle.discretise.proofs.NetLemmas.{has_number, one_node, part_of}
use Rattle.discretise.proofs.PickLaws.{picked_holds}
use Rattle.discretise.proofs.RestLemmas.{zip_at, zip_length}
use Rattle.discretise.proofs.RisingLaws.{rises_one}
use Rattle.discretise.proofs.RowLemmas.{has_later}
use Rattle.discretise.proofs.SoundLemmas.{cell_count}

-- items that are told apart by their places are all different
differ_by : {X : Type 0} (xs : List X) → ((i j : ℕ) (x : X) → slice_get xs i ≡ Some x → slice_get xs j ≡ Some x → i ≡ j) → AllDiffer xs
differ_by xs one i j d low within same =
    let first : slice_get xs i ≡ Some (get_or xs i d) = slice_get-get_or xs i d (omega arith) in
    let second : slice_get xs j ≡ Some (get_or xs i d) = slice_get-get_or xs j d within ∙ ap Some (sym same) in
    let equal : i ≡ j = one i j (get_or xs i d) first second in
    omega arith

names_differ : {X : Type 0} (f : X → List ℕ) (xs : List X) → HoldsOfEach (HasNewName f xs) xs → AllDiffer (map f xs)
names_differ f xs new = differ_by (map f xs) (λ i j name. same_number f xs new i j name)

-- ---- places, each zipped with its label

-- the label is that of the node
pub record IsLabelOf (p : NetParts) (t : Timetable) (gs : List GridTrack) (n : NodeId) (l : PlaceLabel) : Type 0 where
  pub which : ((name : List ℕ) × IsNode p name n.0 × (l ≡ place.Joint name)) ⊎ ((g : GridTrack) × (k : ℕ) × Contains gs g × (n.0 ≡ g.cut + k) × (l ≡ cut_label t g k))

zip_both : {X Y : Type 0} (R : X → Y → Type 0) (xs us : List X) (ys vs : List Y) → AllZip R xs ys → AllZip R us vs → AllZip R (xs ++ us) (ys ++ vs)
zip_both R [] us [] vs zipped more = more
zip_both R [] us (y ∷ ys) vs zipped more = absurd zipped
zip_both R (x ∷ xs) us [] vs zipped more = absurd zipped
zip_both R (x ∷ xs) us (y ∷ ys) vs zipped more = (zipped.0, zip_both R xs us ys vs zipped.1 more)

zip_maps : {X Y Z : Type 0} (R : X → Y → Type 0) (f : Z → X) (g : Z → Y) (zs : List Z) → ((z : Z) → Contains zs z → R (f z) (g z)) → AllZip R (map f zs) (map g zs)
zip_maps R f g [] each = tt
zip_maps R f g (z ∷ zs) each = (each z (zero, omega arith, refl), zip_maps R f g zs (λ y there. each y (has_later z zs y there)))

cuts_labelled : (p : NetParts) (t : Timetable) (all_gs gs : List GridTrack) → ((g : GridTrack) → Contains gs g → Contains all_gs g) → AllZip (IsLabelOf p t all_gs) (flat_map open_cuts gs) (flat_map (cut_labels t) gs)
cuts_labelled p t all_gs [] within = tt
cuts_labelled p t all_gs (g ∷ gs) within =
    zip_both (IsLabelOf p t all_gs) (open_cuts g) (flat_map open_cuts gs) (cut_labels t g) (flat_map (cut_labels t) gs) (go g.is_virtual) (cuts_labelled p t all_gs gs (λ h there. within h (has_later g gs h there)))
  where
    go : (b : Bool) → AllZip (IsLabelOf p t all_gs) (if b then cuts_in g else []) (if b then labels_of_cuts t g else [])
    go true = zip_maps (IsLabelOf p t all_gs) (λ (k : ℕ). node (g.cut + k)) (cut_label t g) (range_with_len 0 (g.count - 1)) (λ k there. record { which = inr (g, k, within g (zero, omega arith, refl), refl, refl) })
    go false = tt

pub places_labelled : (p : NetParts) (t : Timetable) (gs : List GridTrack) (joints : List ℕ) → AreFreeJoints p joints → AllZip (IsLabelOf p t gs) (nodes_of_candidates joints gs) (place_labels p t joints gs)
places_labelled p t gs joints free =
    zip_both (IsLabelOf p t gs) (map node joints) (flat_map open_cuts gs) (map (joint_label p) joints) (flat_map (cut_labels t) gs)
    (zip_maps (IsLabelOf p t gs) node (joint_label p) joints (λ n there.
    let picked = picked_holds (IsFreeJoint p) (range_with_len 0 (length p.nodes)) joints free n there in
    record { which = inl (picked.1.name, picked.1.is_node, ap place.Joint (get_or_from_slice_get (node_names p) n picked.1.name [] picked.1.is_node)) }))
    (cuts_labelled p t gs gs (λ g there. there))

module _ (p : NetParts) (t : Timetable) (gs : List GridTrack) (joints : List ℕ) (net : IsNet p) (timed : IsTimetable p t) (all : AreGridTracks p t gs) (free : AreFreeJoints p joints) where
  -- a label is that of one node
  one_labelled : (n m : NodeId) (l : PlaceLabel) → IsLabelOf p t gs n l → IsLabelOf p t gs m l → n.0 ≡ m.0
  one_labelled n m l one other = elim one.which [
    | inl joint ↦ elim other.which [
      | inl also ↦ let name : joint.0 ≡ also.0 = cc in one_node p t gs net all n.0 m.0 joint.0 joint.1 (subst (λ x. IsNode p x m.0) (sym name) also.1)
      | inr cut ↦ absurd cc
    ]
    | inr cut ↦ elim other.which [
      | inl joint ↦ absurd cc
      | inr also ↦
          let number : cut.0.number ≡ also.0.number = cc in
          let metres : (cut.1 + 1) * t.space_step_m ≡ (also.1 + 1) * t.space_step_m = cc in
          let same : cut.0 ≡ also.0 = same_Some cut.0 also.0 (sym (has_number p t gs net all cut.0 cut.2) ∙ (ap (slice_get gs) number ∙ has_number p t gs net all also.0 also.2)) in
          let cuts : cut.0.cut ≡ also.0.cut = ap (λ (g : GridTrack). g.cut) same in
          let places : cut.1 + 1 ≡ also.1 + 1 = sym (mul-div_cancel (cut.1 + 1) timed.steps.some_space) ∙ (ap (λ x. x / t.space_step_m) metres ∙ mul-div_cancel (also.1 + 1) timed.steps.some_space) in
          omega (arith, cut.3, also.3)
    ]
  ]

  places_differ : AllDiffer (place_labels p t joints gs)
  places_differ = differ_by (place_labels p t joints gs) (λ i j l is also.
      let one = zip_at (IsLabelOf p t gs) (nodes_of_candidates joints gs) (place_labels p t joints gs) (places_labelled p t gs joints free) i l is in
      let other = zip_at (IsLabelOf p t gs) (nodes_of_candidates joints gs) (place_labels p t joints gs) (places_labelled p t gs joints free) j l also in
      rises_one (λ (n : NodeId). n.0) 0 _ (nodes_of_candidates joints gs) (candidates_rise p t gs joints all free) i j one.0 other.0 one.1 other.1 (one_labelled one.0 other.0 l one.2 other.2))

  cells_differ_by : AllDiffer (cell_labels gs)
  cells_differ_by = differ_by (cell_labels gs) (λ i j l is also.
      let one = placed label_in (length p.nodes) gs (chained p t gs all) i l is in
      let other = placed label_in (length p.nodes) gs (chained p t gs all) j l also in
      let label : label_in one.g one.place ≡ label_in other.g other.place = one.is ∙ sym other.is in
      let number : one.g.number ≡ other.g.number = ap (λ (x : CellLabel). x.track) label in
      let index : one.place ≡ other.place = ap (λ (x : CellLabel). x.index) label in
      let same : one.g ≡ other.g = same_Some one.g other.g (sym (has_number p t gs net all one.g (contains_at gs one.k one.g one.there)) ∙ (ap (slice_get gs) number ∙ has_number p t gs net all other.g (contains_at gs other.k other.g other.there))) in
      let first : one.g.first ≡ other.g.first = ap (λ (g : GridTrack). g.first) same in
      omega (arith, one.is_number, other.is_number))

  track_number : (k : ℕ) (g : GridTrack) → slice_get gs k ≡ Some g → g.number < length (track_names p)
  track_number k g is =
      let at = part_of p t gs net all k g is in
      let within : k < length p.tracks = slice_get_within p.tracks k at.0 at.1.is_part in
      let long : length (track_names p) ≡ length p.tracks = length-map p.tracks (λ (x : TrackPart). x.name) in
      omega (arith, at.1.own.number)

  good_place : (l : PlaceLabel) (n : NodeId) → IsLabelOf p t gs n l → IsGoodPlace (length (track_names p)) l
  good_place l n its = elim its.which [
    | inl joint ↦ record {
      cut = λ track at is. absurd cc;
      joint = λ name is. let same : joint.0 ≡ name = cc in subst IsName same (All-contains IsName (node_names p) joint.0 net.named.nodes (contains_at (node_names p) n.0 joint.0 joint.1));
    }
    | inr cut ↦ record {
      cut = λ track at is. let same : cut.0.number ≡ track = cc in subst (λ n. n < length (track_names p)) same (track_number cut.0.number cut.0 (has_number p t gs net all cut.0 cut.2));
      joint = λ name is. absurd cc;
    }
  ]

  pub are_labels : (l : Labels) → AreNames p t gs joints l → AreLabels l
  are_labels l names = record {
    tracks_named = subst (All IsName) (sym names.tracks) net.named.tracks;
    trains_named = subst (All IsName) (sym names.trains) (All-map IsName (λ (x : TrainPart). x.name) t.trains (λ k d within. (timed.trains k d within).name));
    cell_tracks = subst (λ cs. All (λ (c : CellLabel). c.track < length l.tracks) cs) (sym names.cells) (λ k d within.
        let label : CellLabel = get_or (cell_labels gs) k d in
        let at = placed label_in (length p.nodes) gs (chained p t gs all) k label (slice_get-get_or (cell_labels gs) k d within) in
        let number : at.g.number ≡ label.track = ap (λ (x : CellLabel). x.track) at.is in
        let below = track_number at.k at.g at.there in
        let long : length l.tracks ≡ length (track_names p) = ap length names.tracks in
        omega arith);
    places = subst (λ n. All (IsGoodPlace n) l.places) (sym (ap length names.tracks)) (subst (All (IsGoodPlace (length (track_names p)))) (sym names.places) (λ k d within.
        let label : PlaceLabel = get_or (place_labels p t joints gs) k d in
        let at = zip_at (IsLabelOf p t gs) (nodes_of_candidates joints gs) (place_labels p t joints gs) (places_labelled p t gs joints free) k label (slice_get-get_or (place_labels p t joints gs) k d within) in
        good_place label at.0 at.2));
    tracks_differ = subst AllDiffer (sym names.tracks) (names_differ (λ (x : TrackPart). x.name) p.tracks net.new_tracks);
    cells_differ = subst AllDiffer (sym names.cells) cells_differ_by;
    places_differ = subst AllDiffer (sym names.places) places_differ;
    trains_differ = subst AllDiffer (sym names.trains) (names_differ (λ (x : TrainPart). x.name) t.trains timed.new_names);
  }

  -- the labels are those of the instance
  pub labelled : (i : InstanceParts) (l : Labels) → AreParts p t gs joints i → AreNames p t gs joints l → AreLabelsOf i l
  labelled i l parts names = record {
    cells = ap length names.cells ∙ (rows_length label_in gs ∙ sym (cell_count p t gs i all parts.cells));
    places = ap length names.places ∙ (sym (zip_length (IsLabelOf p t gs) (nodes_of_candidates joints gs) (place_labels p t joints gs) (places_labelled p t gs joints free)) ∙ ap length (sym parts.candidates));
    trains = ap length names.trains ∙ (length-map t.trains (λ (x : TrainPart). x.name) ∙ zip_length _ t.trains i.trains parts.trains);
    are_labels = are_labels l names;
  }
