-- The candidates rise, and each is a node that joins two cells of one section.
use Rattle.std.proofs.Common.{◌≡◌, ◌≢◌, ◌+◌, ◌-◌, ◌<◌, ◌≤◌, ◌⊎◌, inl, inr, ℕ, zero, suc, Bool, true, false, List, [], ◌∷◌, ◌++◌, length, map, Some, slice_get, refl, sym, ap, subst, ◌∙◌, arith}
use Rattle.std.specs.Prelude.{◌==◌, if◌then◌else◌}
use Rattle.std.specs.List.{Contains, flat_map, range_with_len}
use Rattle.std.proofs.lemmas.Bool.Decides.{eqb_tells}
use Rattle.std.proofs.lemmas.List.Sums.{sum_by-cons}
use Rattle.std.proofs.lemmas.List.Elements.{Contains-append_cases}
use Rattle.std.proofs.lemmas.Option.{same_Some, slice_get_within}
use Rattle.vss_lists.specs.Breaks.{HoldsOfEach}
use Rattle.cell_net.specs.Borders.{IsAboveLast, IsAtEnd, IsCellAt, IsInSection}
use Rattle.cell_net.specs.Rules.{IsGoodCandidate, IsNodeOf, JoinsTwoCells, node_at}
use Rattle.cell_net.specs.declared.ids.CellId.{CellId}
use Rattle.cell_net.specs.declared.ids.NodeId.{NodeId}
use Rattle.cell_net.specs.declared.cells.CellSpec.{CellSpec}
use Rattle.cell_net.specs.declared.cells.End.{End}
use Rattle.cell_net.specs.declared.cells.End.TheVariants.{Low, High}
use Rattle.cell_net.specs.declared.parts.InstanceParts.{InstanceParts}
use Rattle.rail_net.specs.Borders.{IsJoint}
use Rattle.rail_net.specs.Sections.{IsOfOneSection}
use Rattle.rail_net.specs.Refusals.{IsNet}
use Rattle.rail_net.specs.declared.parts.NodeKind.TheVariants.{Joint}
use Rattle.rail_net.specs.declared.parts.NodePart.{NodePart}
use Rattle.rail_net.specs.declared.parts.TrackPart.{TrackPart}
use Rattle.rail_net.specs.declared.parts.NetParts.{NetParts}
use Rattle.rail_net.proofs.ListLaws.{contains_at, map_at, mapped_at, place_of}
use Rattle.timetable.specs.declared.parts.Timetable.{Timetable}
use Rattle.discretise.specs.Tracks.{AreGridTracks, AreLaid, cut_total}
use Rattle.discretise.specs.Cells.{cell, cell_in, cells_on, node, node_before}
use Rattle.discretise.specs.Joins.{ends_at, track_ends_at, high_end, low_end}
use Rattle.discretise.specs.Places.{AreFreeJoints, IsFreeJoint, nodes_of_candidates, cuts_in, open_cuts}
use Rattle.discretise.specs.declared.tracks.GridTrack.{GridTrack}
use Rattle.discretise.specs.declared.ends.TrackEnd.{TrackEnd}
use Rattle.discretise.proofs.ChainLemmas.{Chained, chained, node_cases, one_by_cut, row_is}
use Rattle.discretise.proofs.DegreeLemmas.{ends_count}
use Rattle.discretise.proofs.GridLemmas.{flat_has, high_at, low_at}
use Rattle.discretise.proofs.JoinLaws.{IsCellOfEnd, cell_of_end, cells_differ}
use Rattle.discretise.proofs.NetLemmas.{has_number, of_end, one_node}
use Rattle.discretise.proofs.PickLaws.{picked_holds}
use Rattle.discretise.proofs.RisingLaws.{RisesTo, rises_above, rises_both, rises_next, rises_picked, rises_row, rises_within}
use Rattle.discretise.proofs.RowLemmas.{has_cases}
use Rattle.discretise.proofs.SoundLemmas.{IsSound, cell_here, here_cell}

-- ---- candidates rise

cuts_rise : (g : GridTrack) (cut : ℕ) → g.cut ≡ cut → RisesTo (λ (n : NodeId). n.0) cut (cut + (g.count - 1)) (open_cuts g)
cuts_rise g cut is = go g.is_virtual
  where
    go : (b : Bool) → RisesTo (λ (n : NodeId). n.0) cut (cut + (g.count - 1)) (if b then cuts_in g else [])
    go true =
        let row : RisesTo (λ (n : NodeId). n.0) (g.cut + 0) (g.cut + 0 + (g.count - 1)) (cuts_in g) = rises_row (λ (n : NodeId). n.0) (λ place. node (g.cut + place)) g.cut (λ k. refl) 0 (g.count - 1) in
        subst (λ m. RisesTo (λ (n : NodeId). n.0) m (cut + (g.count - 1)) (cuts_in g)) (let same : g.cut + 0 ≡ cut = omega arith in same)
        (subst (λ m. RisesTo (λ (n : NodeId). n.0) (g.cut + 0) m (cuts_in g)) (let same : g.cut + 0 + (g.count - 1) ≡ cut + (g.count - 1) = omega arith in same) row)
    go false = omega arith

all_cuts_rise : (first cut : ℕ) (gs : List GridTrack) → Chained first cut gs → RisesTo (λ (n : NodeId). n.0) cut (cut + cut_total gs) (flat_map open_cuts gs)
all_cuts_rise first cut [] chain = omega arith
all_cuts_rise first cut (g ∷ gs) chain =
    let cuts : cut_total (g ∷ gs) ≡ g.count - 1 + cut_total gs = sum_by-cons (λ (y : GridTrack). y.count - 1) g gs in
    let rest = all_cuts_rise (first + g.count) (cut + (g.count - 1)) gs chain.2 in
    subst (λ m. RisesTo (λ (n : NodeId). n.0) cut m (flat_map open_cuts (g ∷ gs))) (let same : cut + (g.count - 1) + cut_total gs ≡ cut + cut_total (g ∷ gs) = omega arith in same)
    (rises_both (λ (n : NodeId). n.0) cut (cut + (g.count - 1)) (cut + (g.count - 1) + cut_total gs) (open_cuts g) (flat_map open_cuts gs) (cuts_rise g cut chain.1) rest)

pub candidates_rise : (p : NetParts) (t : Timetable) (gs : List GridTrack) (joints : List ℕ) → AreGridTracks p t gs → AreFreeJoints p joints → RisesTo (λ (n : NodeId). n.0) 0 (length p.nodes + cut_total gs) (nodes_of_candidates joints gs)
candidates_rise p t gs joints all free =
    rises_both (λ (n : NodeId). n.0) 0 (length p.nodes) (length p.nodes + cut_total gs) (map node joints) (flat_map open_cuts gs)
    (subst (λ m. RisesTo (λ (n : NodeId). n.0) 0 m (map node joints)) (let same : 0 + length p.nodes ≡ length p.nodes = omega arith in same)
    (rises_picked (λ (n : NodeId). n.0) node (λ k. refl) (IsFreeJoint p) 0 (length p.nodes) joints free)) (all_cuts_rise 0 (length p.nodes) gs (chained p t gs all))

-- ---- the ends at a node are of different tracks

ends_rise_in : (n : ℕ) (g : GridTrack) → g.from ≢ g.to → RisesTo (λ (e : TrackEnd). e.track) g.number (g.number + 1) (track_ends_at n g)
ends_rise_in n g differ = elim (eqb_tells g.from n) [
  | inl from ↦ elim (eqb_tells g.to n) [
    | inl to ↦ absurd (differ (from.1 ∙ sym to.1))
    | inr not_to ↦ subst (λ (b : Bool). RisesTo (λ (e : TrackEnd). e.track) g.number (g.number + 1) ((if b then low_end g ∷ [] else []) ++ (if g.to == n then high_end g ∷ [] else []))) (sym from.0)
        (subst (λ (b : Bool). RisesTo (λ (e : TrackEnd). e.track) g.number (g.number + 1) (low_end g ∷ (if b then high_end g ∷ [] else []))) (sym not_to.0) (omega arith, omega arith))
  ]
  | inr not_from ↦ subst (λ (b : Bool). RisesTo (λ (e : TrackEnd). e.track) g.number (g.number + 1) ((if b then low_end g ∷ [] else []) ++ (if g.to == n then high_end g ∷ [] else []))) (sym not_from.0) (go (g.to == n))
]
  where
    go : (b : Bool) → RisesTo (λ (e : TrackEnd). e.track) g.number (g.number + 1) (if b then high_end g ∷ [] else [])
    go true = (omega arith, omega arith)
    go false = omega arith

laid_ends_rise : (p : NetParts) (t : Timetable) (n number first cut : ℕ) (parts : List TrackPart) (gs : List GridTrack) → AreLaid p t number first cut parts gs → ((k : ℕ) (g : GridTrack) → slice_get gs k ≡ Some g → g.from ≢ g.to)
    → RisesTo (λ (e : TrackEnd). e.track) number (number + length gs) (ends_at gs n)
laid_ends_rise p t n number first cut [] [] laid differ = omega arith
laid_ends_rise p t n number first cut [] (g ∷ gs) laid differ = absurd laid
laid_ends_rise p t n number first cut (x ∷ parts) [] laid differ = absurd laid
laid_ends_rise p t n number first cut (x ∷ parts) (g ∷ gs) laid differ =
    let rest = laid_ends_rise p t n (number + 1) (first + g.count) (cut + (g.count - 1)) parts gs laid.1 (λ k. differ (suc k)) in
    let own : RisesTo (λ (e : TrackEnd). e.track) number (number + 1) (track_ends_at n g) = subst (λ m. RisesTo (λ (e : TrackEnd). e.track) m (m + 1) (track_ends_at n g)) laid.0.number (ends_rise_in n g (differ zero g refl)) in
    subst (λ m. RisesTo (λ (e : TrackEnd). e.track) number m (ends_at (g ∷ gs) n)) (let same : number + 1 + length gs ≡ number + length (g ∷ gs) = omega arith in same)
    (rises_both (λ (e : TrackEnd). e.track) number (number + 1) (number + 1 + length gs) (track_ends_at n g) (ends_at gs n) own rest)

pub ends_rise : (p : NetParts) (t : Timetable) (gs : List GridTrack) → AreGridTracks p t gs → ((k : ℕ) (g : GridTrack) → slice_get gs k ≡ Some g → g.from ≢ g.to) → (n : ℕ) → RisesTo (λ (e : TrackEnd). e.track) 0 (0 + length gs) (ends_at gs n)
unfolding AreGridTracks
ends_rise p t gs all differ n = laid_ends_rise p t n 0 0 (length p.nodes) p.tracks gs all differ

-- a list of two
record IsTwo {X : Type 0} (xs : List X) : Type 0 where
  one : X
  other : X
  at_one : slice_get xs 0 ≡ Some one
  at_other : slice_get xs 1 ≡ Some other
  only : (x : X) → Contains xs x → (x ≡ one) ⊎ (x ≡ other)

two_of : {X : Type 0} (xs : List X) → length xs ≡ 2 → IsTwo xs
two_of [] len = absurd (omega arith)
two_of (x ∷ []) len = absurd (omega arith)
two_of (x ∷ y ∷ []) len = record {
  one = x;
  other = y;
  at_one = refl;
  at_other = refl;
  only = λ z there. elim (has_cases x (y ∷ []) z there) [
    | inl first ↦ inl (sym first)
    | inr later ↦ elim (has_cases y [] z later) [ inl second ↦ inr (sym second) | inr none ↦ absurd (omega (arith, none.1)) ]
  ];
}
two_of (x ∷ y ∷ z ∷ xs) len = absurd (omega arith)

-- ---- the cells at the node of a candidate

at_end_of : (c : CellSpec) (e : End) (n : NodeId) → node_at c e ≡ n → IsAtEnd c n
at_end_of c Low n is = inl is
at_end_of c High n is = inr is

module _ (p : NetParts) (t : Timetable) (gs : List GridTrack) (i : InstanceParts) (net : IsNet p) (all : AreGridTracks p t gs) (cells : i.cells ≡ cells_on gs) (sound : (k : ℕ) (g : GridTrack) → slice_get gs k ≡ Some g → IsSound p gs g) where
  some : (k : ℕ) (g : GridTrack) → slice_get gs k ≡ Some g → 0 < g.count
  some k g is = (sound k g is).some

  -- a cell at a node of the network is that of an end of a track there
  record IsAtEndOf (n : ℕ) (c : CellId) : Type 0 where
    e : TrackEnd
    there : Contains (ends_at gs n) e
    is_cell : c ≡ e.end.cell

  end_at : (n : ℕ) → n < length p.nodes → (c : CellId) → IsCellAt i c (node n) → IsAtEndOf n c
  end_at n within c at =
      let placed = cell_here p t gs i all cells c.0 at.cell at.is in
      let g = placed.g in
      let s = sound placed.k g placed.there in
      let has : Contains gs g = contains_at gs placed.k g placed.there in
      let ends : IsAtEnd (cell_in g placed.place) (node n) = subst (λ x. IsAtEnd x (node n)) (sym placed.is) at.at_end in
      elim ends [
        | inl low ↦
            let is : node_before g placed.place ≡ n = ap (λ (m : NodeId). m.0) low in
            elim (node_cases g placed.place s.some (omega (arith, placed.within))) [
              | inl first ↦ record { e = low_end g; there = low_at gs n g has (sym first.1 ∙ is); is_cell = ap cell (let same : c.0 ≡ g.first = omega (arith, placed.is_number, first.0) in same) }
              | inr others ↦ elim others [ inl last ↦ absurd (omega (arith, last.0, placed.within)) | inr inner ↦ absurd (omega (arith, inner.2, s.cut_from)) ]
            ]
        | inr high ↦
            let is : node_before g (placed.place + 1) ≡ n = ap (λ (m : NodeId). m.0) high in
            elim (node_cases g (placed.place + 1) s.some (omega (arith, placed.within))) [
              | inl first ↦ absurd (omega (arith, first.0))
              | inr others ↦ elim others [
                | inl last ↦ record { e = high_end g; there = high_at gs n g has (sym last.1 ∙ is); is_cell = ap cell (let same : c.0 ≡ g.first + (g.count - 1) = omega (arith, placed.is_number, last.0) in same) }
                | inr inner ↦ absurd (omega (arith, inner.2, s.cut_from))
              ]
            ]
      ]

  end_is_at : (n : ℕ) (e : TrackEnd) → IsNodeOf i e.end (node n) → IsCellAt i e.end.cell (node n)
  unfolding IsNodeOf
  end_is_at n e its = record { cell = its.0; is = its.1; at_end = at_end_of its.0 e.end.end (node n) its.2 }

  in_section : (n : ℕ) (e : TrackEnd) (its : IsCellOfEnd p t gs i net all cells some n e) → IsInSection i its.g.section e.end.cell
  in_section n e its = record {
    cell = cell_in its.g its.place;
    is = subst (λ c. slice_get i.cells c ≡ Some (cell_in its.g its.place)) (sym its.number) (here_cell p t gs i all cells its.g.number its.g its.place its.there its.within);
    of_section = refl;
  }

  joint_joins : (n : ℕ) → IsFreeJoint p n → JoinsTwoCells i (node n)
  unfolding IsJoint IsOfOneSection
  joint_joins n free =
      let at = place_of p.nodes (record { name = free.name; kind = Joint }) free.candidate.joint in
      let same : at.0 ≡ n = one_node p t gs net all at.0 n free.name (map_at (λ (x : NodePart). x.name) p.nodes at.0 (record { name = free.name; kind = Joint }) at.1) free.is_node in
      let there : slice_get p.nodes n ≡ Some (record { name = free.name; kind = Joint }) = subst (λ k. slice_get p.nodes k ≡ Some (record { name = free.name; kind = Joint })) same at.1 in
      let two = two_of (ends_at gs n) (ends_count p t gs net all n (record { name = free.name; kind = Joint }) there) in
      let rising = ends_rise p t gs all (λ k g is. (sound k g is).differ) n in
      let below : two.one.track < two.other.track = rises_next (λ (e : TrackEnd). e.track) 0 (0 + length gs) (ends_at gs n) rising 0 two.one two.other two.at_one two.at_other in
      let has_one : Contains (ends_at gs n) two.one = contains_at (ends_at gs n) 0 two.one two.at_one in
      let has_other : Contains (ends_at gs n) two.other = contains_at (ends_at gs n) 1 two.other two.at_other in
      let one = cell_of_end p t gs i net all cells some n two.one has_one in
      let other = cell_of_end p t gs i net all cells some n two.other has_other in
      let one_to = of_end p t gs net all n free.name free.is_node two.one has_one in
      let other_to = of_end p t gs net all n free.name free.is_node two.other has_other in
      let one_g : one_to.0.g ≡ one.g = same_Some one_to.0.g one.g (sym one_to.0.track.is_grid ∙ subst (λ k. slice_get gs k ≡ Some one.g) one.its one.there) in
      let other_g : other_to.0.g ≡ other.g = same_Some other_to.0.g other.g (sym other_to.0.track.is_grid ∙ subst (λ k. slice_get gs k ≡ Some other.g) other.its other.there) in
      let section : one_to.0.g.section ≡ other_to.0.g.section = free.candidate.one_section two.one.track two.other.track one_to.0.g.section other_to.0.g.section one_to.1 other_to.1 one_to.0.track.own.section other_to.0.track.own.section in
      let sections : other.g.section ≡ one.g.section = ap (λ (g : GridTrack). g.section) (sym other_g) ∙ (sym section ∙ ap (λ (g : GridTrack). g.section) one_g) in
      record {
        one = two.one.end.cell;
        other = two.other.end.cell;
        section = one.g.section;
        are_two = cells_differ p t gs i net all cells some n n two.one two.other has_one has_other (λ equal. omega (arith, below, equal));
        one_at = end_is_at n two.one one.node_of;
        other_at = end_is_at n two.other other.node_of;
        one_in = in_section n two.one one;
        other_in = subst (λ m. IsInSection i m two.other.end.cell) sections (in_section n two.other other);
        no_third = λ c at_c.
            let e = end_at n (slice_get_within p.nodes n (record { name = free.name; kind = Joint }) there) c at_c in
            elim (two.only e.e e.there) [
              | inl first ↦ inl (e.is_cell ∙ ap (λ (x : TrackEnd). x.end.cell) first)
              | inr second ↦ inr (e.is_cell ∙ ap (λ (x : TrackEnd). x.end.cell) second)
            ];
      }

  -- the node of a cut
  inner_node : (g : GridTrack) (place : ℕ) → place + 1 < g.count → node_before g (place + 1) ≡ g.cut + place
  inner_node g place below = elim (node_cases g (place + 1) (omega arith) (omega arith)) [
    | inl first ↦ absurd (omega (arith, first.0))
    | inr others ↦ elim others [ inl last ↦ absurd (omega (arith, last.0)) | inr inner ↦ omega (arith, inner.2) ]
  ]

  cut_joins_two : (k : ℕ) (g : GridTrack) (place : ℕ) → slice_get gs k ≡ Some g → place + 1 < g.count → JoinsTwoCells i (node (g.cut + place))
  cut_joins_two k g place is below =
      let s = sound k g is in
      let here = inner_node g place below in
      record {
        one = cell (g.first + place);
        other = cell (g.first + (place + 1));
        section = g.section;
        are_two = λ same. let number : g.first + place ≡ g.first + (place + 1) = ap (λ (c : CellId). c.0) same in omega arith;
        one_at = record { cell = cell_in g place; is = here_cell p t gs i all cells k g place is (omega arith); at_end = inr (ap node here) };
        other_at = record { cell = cell_in g (place + 1); is = here_cell p t gs i all cells k g (place + 1) is below; at_end = inl (ap node here) };
        one_in = record { cell = cell_in g place; is = here_cell p t gs i all cells k g place is (omega arith); of_section = refl };
        other_in = record { cell = cell_in g (place + 1); is = here_cell p t gs i all cells k g (place + 1) is below; of_section = refl };
        no_third = λ c at.
            let placed = cell_here p t gs i all cells c.0 at.cell at.is in
            let h = placed.g in
            let hs = sound placed.k h placed.there in
            let ends : IsAtEnd (cell_in h placed.place) (node (g.cut + place)) = subst (λ x. IsAtEnd x (node (g.cut + place))) (sym placed.is) at.at_end in
            elim ends [
              | inl low ↦
                  let at_node : node_before h placed.place ≡ g.cut + place = ap (λ (m : NodeId). m.0) low in
                  elim (node_cases h placed.place hs.some (omega (arith, placed.within))) [
                    | inl first ↦ absurd (omega (arith, first.1, hs.from, s.cut_from))
                    | inr others ↦ elim others [
                      | inl last ↦ absurd (omega (arith, last.0, placed.within))
                      | inr inner ↦
                          let number : placed.k ≡ k = one_by_cut 0 (length p.nodes) gs (chained p t gs all) placed.k k h g (placed.place - 1) place placed.there is (omega (arith, inner.0, inner.1)) below (omega (arith, inner.2)) in
                          let same : h ≡ g = same_Some h g (sym placed.there ∙ (ap (slice_get gs) number ∙ is)) in
                          let cut : h.cut ≡ g.cut = ap (λ (x : GridTrack). x.cut) same in
                          let first : h.first ≡ g.first = ap (λ (x : GridTrack). x.first) same in
                          inr (ap cell (let c_is : c.0 ≡ g.first + (place + 1) = omega (arith, placed.is_number, inner.0, inner.2) in c_is))
                    ]
                  ]
              | inr high ↦
                  let at_node : node_before h (placed.place + 1) ≡ g.cut + place = ap (λ (m : NodeId). m.0) high in
                  elim (node_cases h (placed.place + 1) hs.some (omega (arith, placed.within))) [
                    | inl first ↦ absurd (omega (arith, first.0))
                    | inr others ↦ elim others [
                      | inl last ↦ absurd (omega (arith, last.1, hs.to, s.cut_from))
                      | inr inner ↦
                          let number : placed.k ≡ k = one_by_cut 0 (length p.nodes) gs (chained p t gs all) placed.k k h g placed.place place placed.there is (omega (arith, inner.1)) below (omega (arith, inner.2)) in
                          let same : h ≡ g = same_Some h g (sym placed.there ∙ (ap (slice_get gs) number ∙ is)) in
                          let cut : h.cut ≡ g.cut = ap (λ (x : GridTrack). x.cut) same in
                          let first : h.first ≡ g.first = ap (λ (x : GridTrack). x.first) same in
                          inl (ap cell (let c_is : c.0 ≡ g.first + place = omega (arith, placed.is_number, inner.2) in c_is))
                    ]
                  ]
            ];
      }

  cut_of_open : (g : GridTrack) (n : NodeId) → Contains (open_cuts g) n → Contains (cuts_in g) n
  cut_of_open g n = go g.is_virtual
    where
      go : (b : Bool) → Contains (if b then cuts_in g else []) n → Contains (cuts_in g) n
      go true there = there
      go false there = absurd (omega (arith, there.1))

  pub joins_two : (joints : List ℕ) → AreFreeJoints p joints → (n : NodeId) → Contains (nodes_of_candidates joints gs) n → JoinsTwoCells i n
  joins_two joints free n there = elim (Contains-append_cases (map node joints) (flat_map open_cuts gs) n there) [
    | inl joint ↦
        let at = place_of (map node joints) n joint in
        let its = mapped_at node joints at.0 n at.1 in
        let picked = picked_holds (IsFreeJoint p) (range_with_len 0 (length p.nodes)) joints free its.0 (contains_at joints at.0 its.0 its.1) in
        subst (JoinsTwoCells i) its.2 (joint_joins its.0 picked.1)
    | inr cut ↦
        let at = flat_has open_cuts gs n cut in
        let place = place_of (cuts_in at.0) n (cut_of_open at.0 n at.2) in
        let row = row_is (λ (k : ℕ). node (at.0.cut + k)) (at.0.count - 1) place.0 n place.1 in
        subst (JoinsTwoCells i) row.1 (cut_joins_two at.0.number at.0 place.0 (has_number p t gs net all at.0 at.1) (omega (arith, row.0)))
  ]

  pub good_candidates : (joints : List ℕ) → AreFreeJoints p joints → i.nodes ≡ length p.nodes + cut_total gs → i.candidates ≡ nodes_of_candidates joints gs → length (nodes_of_candidates joints gs) ≤ 512 → HoldsOfEach (IsGoodCandidate i) i.candidates
  good_candidates joints free nodes are few = record {
    at_each = λ k n is.
        let there : slice_get (nodes_of_candidates joints gs) k ≡ Some n = subst (λ ns. slice_get ns k ≡ Some n) are is in
        let rising = candidates_rise p t gs joints all free in
        let within = rises_within (λ (m : NodeId). m.0) 0 (length p.nodes + cut_total gs) (nodes_of_candidates joints gs) rising k n there in
        let short : k < length (nodes_of_candidates joints gs) = slice_get_within (nodes_of_candidates joints gs) k n there in
        record {
          few = omega arith;
          rises = subst (λ ns. IsAboveLast (λ (m : NodeId). m.0) ns k n) (sym are) (rises_above (λ (m : NodeId). m.0) 0 (length p.nodes + cut_total gs) (nodes_of_candidates joints gs) rising k n there);
          in_range = omega (arith, within.1, nodes);
          joins = joins_two joints free n (contains_at (nodes_of_candidates joints gs) k n there);
        };
  }
