-- Tracks that are laid on the grid one by one.
use Rattle.std.proofs.Common.{◌≡◌, ◌+◌, ◌-◌, ◌*◌, ◌<◌, ◌≤◌, ◌^◌, ℕ, zero, suc, List, [], ◌∷◌, ◌++◌, length, take, get_or, sum_by, Some, slice_get, refl, sym, ap, subst, ◌∙◌, arith}
use Rattle.std.specs.Int.{div_ceil}
use Rattle.std.proofs.lemmas.Grind.{div_ceil_times}
use Rattle.std.proofs.lemmas.List.{length-map, length_push, take_more}
use Rattle.std.proofs.lemmas.List.Elements.{All-push}
use Rattle.std.proofs.lemmas.List.Sums.{sum_by-cons, sum_by_more, sum_by_more_le, sum_by_push}
use Rattle.std.proofs.lemmas.Option.{slice_get_within, slice_get-get_or, get_or_from_slice_get, same_Some}
use Rattle.rail_net.specs.Parts.{IsNode}
use Rattle.rail_net.specs.declared.parts.TrackPart.{TrackPart}
use Rattle.rail_net.specs.declared.parts.NetParts.{NetParts}
use Rattle.timetable.specs.declared.parts.Timetable.{Timetable}
use Rattle.rail_net.specs.declared.parts.NodePart.{NodePart}
use Rattle.rail_net.specs.Parts.{node_names}
use Rattle.discretise.specs.Rounding.{length_in_cells}
use Rattle.discretise.specs.Tracks.{AreGridTracks, AreInRange, AreLaid, AreSmall, IsGridTrack, IsSmall, cell_total, cut_total}
use Rattle.discretise.specs.declared.tracks.GridTrack.{GridTrack}

-- one more track goes behind the others
pub laid_push : (p : NetParts) (t : Timetable) (number first cut : ℕ) (parts : List TrackPart) (gs : List GridTrack) (part : TrackPart) (g : GridTrack) (place at_cell at_cut : ℕ)
    → AreLaid p t number first cut parts gs → IsGridTrack p t place at_cell at_cut part g → place ≡ number + length gs → at_cell ≡ first + cell_total gs → at_cut ≡ cut + cut_total gs
    → AreLaid p t number first cut (parts ++ part ∷ []) (gs ++ g ∷ [])
laid_push p t number first cut [] [] part g place at_cell at_cut laid own same_place same_cell same_cut = (
  subst (λ n. IsGridTrack p t n first cut part g) (let same : place ≡ number = omega arith in same)
      (subst (λ n. IsGridTrack p t place n cut part g) (let same : at_cell ≡ first = omega arith in same)
      (subst (λ n. IsGridTrack p t place at_cell n part g) (let same : at_cut ≡ cut = omega arith in same) own)),
  tt,
)
laid_push p t number first cut [] (h ∷ gs) part g place at_cell at_cut laid own same_place same_cell same_cut = absurd laid
laid_push p t number first cut (x ∷ parts) [] part g place at_cell at_cut laid own same_place same_cell same_cut = absurd laid
laid_push p t number first cut (x ∷ parts) (h ∷ gs) part g place at_cell at_cut laid own same_place same_cell same_cut =
    let cells : cell_total (h ∷ gs) ≡ h.count + cell_total gs = sum_by-cons (λ (y : GridTrack). y.count) h gs in
    let cuts : cut_total (h ∷ gs) ≡ h.count - 1 + cut_total gs = sum_by-cons (λ (y : GridTrack). y.count - 1) h gs in
    (laid.0, laid_push p t (number + 1) (first + h.count) (cut + (h.count - 1)) parts gs part g place at_cell at_cut laid.1 own (omega arith) (omega arith) (omega arith))

-- some metres are at least one cell
pub some_cells : (metres step : ℕ) → 1 ≤ metres → 1 ≤ step → 0 < div_ceil metres step
some_cells metres step some positive = go (div_ceil metres step) (div_ceil_times metres step positive).0
  where
    go : (q : ℕ) → metres ≤ q * step → 0 < q
    go zero most = absurd (omega arith)
    go (suc q) most = omega arith

-- the cells of the tracks together
abbrev pub cells_together : Timetable → List TrackPart → ℕ
cells_together t parts = sum_by (λ x. length_in_cells t x.length_m) parts

-- the tracks up to a place are laid, and the next begins with this cell and this cut
pub record AreLaidBelow (p : NetParts) (t : Timetable) (place : ℕ) (gs : List GridTrack) (first cut : ℕ) : Type 0 where
  pub count : length gs ≡ place
  pub laid : AreLaid p t 0 0 (length p.nodes) (take place p.tracks) gs
  pub small : AreSmall gs
  pub first_cell : first ≡ cell_total gs
  pub together : first ≡ cells_together t (take place p.tracks)
  pub first_cut : cut ≡ length p.nodes + cut_total gs
  pub few_cuts : cut_total gs ≤ first

pub laid_more : (p : NetParts) (t : Timetable) (place : ℕ) (gs : List GridTrack) (first cut : ℕ) (part : TrackPart) (g : GridTrack) (new : List GridTrack) → AreLaidBelow p t place gs first cut
    → slice_get p.tracks place ≡ Some part → IsGridTrack p t place first cut part g → new ≡ gs ++ g ∷ [] → 1 ≤ part.length_m → 1 ≤ t.space_step_m → cells_together t p.tracks ≤ 1000
    → length p.nodes + 1000 < 2 ^ 32 → AreLaidBelow p t (place + 1) new (first + g.count) (cut + (g.count - 1))
laid_more p t place gs first cut part g new so_far there own is some_m some_step few nodes =
    let within : place < length p.tracks = slice_get_within p.tracks place part there in
    let read : get_or p.tracks place part ≡ part = get_or_from_slice_get p.tracks place part part there in
    let its : length_in_cells t (get_or p.tracks place part).length_m ≡ g.count = ap (λ (x : TrackPart). length_in_cells t x.length_m) read ∙ sym own.count in
    let all = sum_by_more_le (λ (x : TrackPart). length_in_cells t x.length_m) p.tracks place part within in
    let sum = sum_by_more (λ (x : TrackPart). length_in_cells t x.length_m) p.tracks place part within in
    let cells : cell_total (gs ++ g ∷ []) ≡ cell_total gs + g.count = sum_by_push (λ (y : GridTrack). y.count) gs g in
    let cuts : cut_total (gs ++ g ∷ []) ≡ cut_total gs + (g.count - 1) = sum_by_push (λ (y : GridTrack). y.count - 1) gs g in
    let some : 0 < g.count = subst (λ n. 0 < n) (sym own.count) (some_cells part.length_m t.space_step_m some_m some_step) in
    let same_first : g.first ≡ first = own.first in
    let same_cut : g.cut ≡ cut = own.cut in
    let bound : first + g.count ≤ 1000 = omega (arith, so_far.together) in
    let small : IsSmall g = record { some = some; cells = omega arith; cuts = omega (arith, so_far.first_cut, so_far.few_cuts) } in
    let grown : AreLaidBelow p t (place + 1) (gs ++ g ∷ []) (first + g.count) (cut + (g.count - 1)) = record {
      count = length_push gs g ∙ ap (λ n. n + 1) so_far.count;
      laid = subst (λ xs. AreLaid p t 0 0 (length p.nodes) xs (gs ++ g ∷ [])) (sym (take_more p.tracks place part within ∙ ap (λ x. take place p.tracks ++ x ∷ []) read))
          (laid_push p t 0 0 (length p.nodes) (take place p.tracks) gs part g place first cut so_far.laid own (omega (arith, so_far.count)) (omega (arith, so_far.first_cell)) so_far.first_cut);
      small = All-push IsSmall gs g so_far.small small;
      first_cell = omega (arith, so_far.first_cell);
      together = omega (arith, so_far.together);
      first_cut = omega (arith, so_far.first_cut);
      few_cuts = omega (arith, so_far.few_cuts);
    } in
    subst (λ xs. AreLaidBelow p t (place + 1) xs (first + g.count) (cut + (g.count - 1))) (sym is) grown

-- a track that is laid is one of the tracks, as many behind the first as it is
pub laid_at : (p : NetParts) (t : Timetable) (number first cut : ℕ) (parts : List TrackPart) (gs : List GridTrack) → AreLaid p t number first cut parts gs → (k : ℕ) (g : GridTrack) → slice_get gs k ≡ Some g
    → (part : TrackPart) × (at_cell : ℕ) × (at_cut : ℕ) × (slice_get parts k ≡ Some part) × IsGridTrack p t (number + k) at_cell at_cut part g
laid_at p t number first cut [] [] laid k g is = absurd (grind arith)
laid_at p t number first cut [] (h ∷ gs) laid k g is = absurd laid
laid_at p t number first cut (x ∷ parts) [] laid k g is = absurd laid
laid_at p t number first cut (x ∷ parts) (h ∷ gs) laid zero g is =
    (x, first, cut, refl, subst (λ n. IsGridTrack p t n first cut x g) (let same : number ≡ number + 0 = omega arith in same) (subst (λ y. IsGridTrack p t number first cut x y) (same_Some h g is) laid.0))
laid_at p t number first cut (x ∷ parts) (h ∷ gs) laid (suc k) g is =
    let rest = laid_at p t (number + 1) (first + h.count) (cut + (h.count - 1)) parts gs laid.1 k g is in
    (rest.0, rest.1, rest.2, rest.3, subst (λ n. IsGridTrack p t n rest.1 rest.2 rest.0 g) (let same : number + 1 + k ≡ number + suc k = omega arith in same) rest.4)

pub node_there : (p : NetParts) (node : ℕ) (name : List ℕ) → IsNode p name node → node < length p.nodes
node_there p node name is = subst (λ n. node < n) (length-map p.nodes (λ (n : NodePart). n.name)) (slice_get_within (node_names p) node name is)

pub in_range : (p : NetParts) (t : Timetable) (gs : List GridTrack) → AreGridTracks p t gs → AreInRange (length p.nodes) gs
unfolding AreGridTracks
in_range p t gs all k d within =
    let g : GridTrack = get_or gs k d in
    let at = laid_at p t 0 0 (length p.nodes) p.tracks gs all k g (slice_get-get_or gs k d within) in
    let number : g.number ≡ 0 + k = at.4.number in
    record { number = omega arith; from = node_there p g.from at.0.from at.4.from; to = node_there p g.to at.0.to at.4.to }
