-- Tracks and the nodes at their ends, by names and by numbers.
use Rattle.std.proofs.Common.{◌≡◌, ◌<◌, ◌+◌, ◌==◌, ◌⊎◌, inl, inr, ℕ, zero, suc, List, [], ◌∷◌, length, get_or, cond, Some, slice_get, refl, sym, ap, subst, ◌∙◌, arith}
use Rattle.std.specs.Prelude.{bytes_eq, count_by}
use Rattle.std.specs.List.{Contains, All}
use Rattle.std.proofs.lemmas.Bool.Decides.{Decides-eqb}
use Rattle.std.proofs.lemmas.List.{length-map}
use Rattle.std.proofs.lemmas.List.Sums.{sum_by-cons}
use Rattle.std.proofs.lemmas.Option.{same_Some, slice_get_within, slice_get-get_or}
use Rattle.std.proofs.lemmas.Slice.Eq.{bytes_eq-Decides}
use Rattle.rail_net.specs.Parts.{EndsAt, IsNode, IsTrack, node_names, track_names}
use Rattle.rail_net.specs.Refusals.{HasNewNodes}
use Rattle.rail_net.specs.Entries.{HasEntry}
use Rattle.rail_net.specs.Tables.{AreTrackEnds, AreNodes, spread, under, under_both}
use Rattle.rail_net.specs.declared.entries.Entry.{Entry}
use Rattle.rail_net.specs.declared.ends.TrackEnds.{TrackEnds}
use Rattle.rail_net.specs.declared.parts.NetParts.{NetParts}
use Rattle.rail_net.specs.declared.parts.NodePart.{NodePart}
use Rattle.rail_net.specs.declared.parts.TrackPart.{TrackPart}
use Rattle.rail_net.proofs.ListLaws.{there_is}
use Rattle.rail_net.proofs.NameLaws.{same_number}
use Rattle.rail_net.proofs.ListingLemmas.{same_test, contains_cons, contains_first, contains_rest}
use Rattle.rail_net.proofs.ZipLemmas.{joined_has, has_joined}

-- a node of a name has one number
pub one_node : (p : NetParts) → HasNewNodes p → (i j : ℕ) (name : List ℕ) → IsNode p name i → IsNode p name j → i ≡ j
one_node p new i j name one other = same_number (λ (n : NodePart). n.name) p.nodes new i j name one other

-- the number of a node is below that of all
pub node_within : (p : NetParts) (node : ℕ) (name : List ℕ) → IsNode p name node → node < length p.nodes
node_within p node name is = subst (λ n. node < n) (length-map p.nodes (λ (n : NodePart). n.name)) (slice_get_within (node_names p) node name is)

pub track_within : (p : NetParts) (track : ℕ) (name : List ℕ) → IsTrack p name track → track < length p.tracks
track_within p track name is = subst (λ n. track < n) (length-map p.tracks (λ (t : TrackPart). t.name)) (slice_get_within (track_names p) track name is)

-- the ends of a track, with the track itself
ends_here : (p : NetParts) (ends : List TrackEnds) → AreTrackEnds p ends → (k : ℕ) (e : TrackEnds) → slice_get ends k ≡ Some e → (t : TrackPart) × (slice_get p.tracks k ≡ Some t) × AreNodes (node_names p) t e
ends_here p ends all k e is =
    let within : k < length p.tracks = subst (λ n. k < n) all.count (slice_get_within ends k e is) in
    let t = there_is p.tracks k within in
    (t.0, t.1, all.each k t.0 e t.1 is)

pub ends_there : (p : NetParts) (ends : List TrackEnds) → AreTrackEnds p ends → (k : ℕ) (t : TrackPart) → slice_get p.tracks k ≡ Some t → (e : TrackEnds) × (slice_get ends k ≡ Some e) × AreNodes (node_names p) t e
ends_there p ends all k t is =
    let within : k < length ends = subst (λ n. k < n) (sym all.count) (slice_get_within p.tracks k t is) in
    let e = there_is ends k within in
    (e.0, e.1, all.each k t e.0 is e.1)

-- all ends are at nodes
pub from_within : (p : NetParts) (ends : List TrackEnds) → AreTrackEnds p ends → (n : ℕ) → n ≡ length p.nodes → All (λ e. e.from < n) ends
from_within p ends all n same k d within =
    let e = get_or ends k d in
    let here = ends_here p ends all k e (slice_get-get_or ends k d within) in
    subst (λ m. e.from < m) (sym same) (node_within p e.from here.0.from here.2.from)

pub to_within : (p : NetParts) (ends : List TrackEnds) → AreTrackEnds p ends → (n : ℕ) → n ≡ length p.nodes → All (λ e. e.to < n) ends
to_within p ends all n same k d within =
    let e = get_or ends k d in
    let here = ends_here p ends all k e (slice_get-get_or ends k d within) in
    subst (λ m. e.to < m) (sym same) (node_within p e.to here.0.to here.2.to)

-- a track with an end at that number ends at the node of its name
pub at_number : (p : NetParts) (ends : List TrackEnds) → AreTrackEnds p ends → (node : ℕ) (name : List ℕ) → IsNode p name node → (k : ℕ) (e : TrackEnds) → slice_get ends k ≡ Some e
    → (e.from ≡ node) ⊎ (e.to ≡ node) → EndsAt p name k
at_number p ends all node name is k e there at =
    let here = ends_here p ends all k e there in
    record {
      part = here.0;
      is_track = here.1;
      at_end = elim at [
        | inl from ↦ inl (same_Some here.0.from name (sym here.2.from ∙ (ap (slice_get (node_names p)) from ∙ is)))
        | inr to ↦ inr (same_Some here.0.to name (sym here.2.to ∙ (ap (slice_get (node_names p)) to ∙ is)))
      ];
    }

-- and one that ends there has an end at the number
pub number_at : (p : NetParts) (ends : List TrackEnds) → AreTrackEnds p ends → HasNewNodes p → (node : ℕ) (name : List ℕ) → IsNode p name node → (k : ℕ) → EndsAt p name k
    → (e : TrackEnds) × (slice_get ends k ≡ Some e) × ((e.from ≡ node) ⊎ (e.to ≡ node))
number_at p ends all new node name is k at =
    let e = ends_there p ends all k at.part at.is_track in (
      e.0,
      e.1,
      elim at.at_end [
        | inl from ↦ inl (one_node p new e.0.from node name (e.2.from ∙ ap Some from) is)
        | inr to ↦ inr (one_node p new e.0.to node name (e.2.to ∙ ap Some to) is)
      ],
    )

-- ---- what is spread from tracks to their nodes

pub spread_has : (ends : List TrackEnds) (values : List ℕ) (node value : ℕ) → HasEntry (spread ends values) node value
    → (k : ℕ) × (e : TrackEnds) × (slice_get ends k ≡ Some e) × (slice_get values k ≡ Some value) × ((e.from ≡ node) ⊎ (e.to ≡ node))
spread_has ends values node value there =
    let found = joined_has under_both ends values (under node value) there in
    let e = found.1 in
    let v = found.2 in
    elim (contains_cons (under e.from v) (under e.to v ∷ []) (under node value) found.5) [
      | inl first ↦ (found.0, e, found.3, found.4 ∙ ap Some (ap (λ (x : Entry). x.value) first), inl (ap (λ (x : Entry). x.key) first))
      | inr rest ↦ elim (contains_cons (under e.to v) [] (under node value) rest) [
        | inl second ↦ (found.0, e, found.3, found.4 ∙ ap Some (ap (λ (x : Entry). x.value) second), inr (ap (λ (x : Entry). x.key) second))
        | inr none ↦ absurd (omega (arith, none.1))
      ]
    ]

pub has_spread : (ends : List TrackEnds) (values : List ℕ) (node value k : ℕ) (e : TrackEnds) → slice_get ends k ≡ Some e → slice_get values k ≡ Some value → (e.from ≡ node) ⊎ (e.to ≡ node)
    → HasEntry (spread ends values) node value
has_spread ends values node value k e there valued at =
    has_joined under_both ends values k e value (under node value) there valued (elim at [
      | inl from ↦ subst (λ n. Contains (under_both e value) (under n value)) from (contains_first (under e.from value) (under e.to value ∷ []))
      | inr to ↦ subst (λ n. Contains (under_both e value) (under n value)) to
          (contains_rest (under e.from value) (under e.to value ∷ []) (under e.to value) (contains_first (under e.to value) []))
    ])

spread_keys : (p : NetParts) (ends : List TrackEnds) (values : List ℕ) → AreTrackEnds p ends → (node value : ℕ) → HasEntry (spread ends values) node value → node < length p.nodes
spread_keys p ends values all node value there =
    let found = spread_has ends values node value there in
    let here = ends_here p ends all found.0 found.1 found.2 in
    elim found.4 [
      | inl from ↦ subst (λ n. n < length p.nodes) from (node_within p found.1.from here.0.from here.2.from)
      | inr to ↦ subst (λ n. n < length p.nodes) to (node_within p found.1.to here.0.to here.2.to)
    ]

-- keys of entries, each of which is below a number
pub keys_below : (entries : List Entry) (n : ℕ) → ((key value : ℕ) → HasEntry entries key value → key < n) → All (λ e. e.key < n) entries
keys_below entries n each k d within =
    let e = get_or entries k d in
    each e.key e.value (k, within, same entries k d e within refl)
  where
    same : (entries : List Entry) (k : ℕ) (d e : Entry) → k < length entries → e ≡ get_or entries k d → get_or entries k e ≡ e
    same entries k d e within is = same_Some (get_or entries k e) e (sym (slice_get-get_or entries k e within) ∙ (slice_get-get_or entries k d within ∙ ap Some (sym is)))

pub spread_within : (p : NetParts) (ends : List TrackEnds) (values : List ℕ) → AreTrackEnds p ends → (n : ℕ) → n ≡ length p.nodes → All (λ e. e.key < n) (spread ends values)
spread_within p ends values all n same = keys_below (spread ends values) n (λ key value there. subst (λ m. key < m) (sym same) (spread_keys p ends values all key value there))

-- ---- degrees

module _ (nodes : List (List ℕ)) (one : (i j : ℕ) (n : List ℕ) → slice_get nodes i ≡ Some n → slice_get nodes j ≡ Some n → i ≡ j) (node : ℕ) (name : List ℕ) (is : slice_get nodes node ≡ Some name) where
  -- a number is the node's exactly if the name is
  same_name : (number : ℕ) (its : List ℕ) → slice_get nodes number ≡ Some its → (number == node) ≡ bytes_eq its name
  same_name number its at = same_test (number == node) (bytes_eq its name)
      (λ t. (bytes_eq-Decides its name).1 (same_Some its name (sym at ∙ (ap (slice_get nodes) ((Decides-eqb number node).0 t) ∙ is))))
      (λ t. (Decides-eqb number node).1 (one number node its at (is ∙ ap Some (sym ((bytes_eq-Decides its name).0 t)))))

  pub begins_same : (tracks : List TrackPart) (ends : List TrackEnds) → length ends ≡ length tracks
      → ((k : ℕ) (t : TrackPart) (e : TrackEnds) → slice_get tracks k ≡ Some t → slice_get ends k ≡ Some e → AreNodes nodes t e)
      → count_by (λ e. e.from == node) ends ≡ count_by (λ t. bytes_eq t.from name) tracks
  begins_same [] [] same each = refl
  begins_same [] (e ∷ ends) same each = absurd (omega arith)
  begins_same (t ∷ tracks) [] same each = absurd (omega arith)
  begins_same (t ∷ tracks) (e ∷ ends) same each =
      let test = same_name e.from t.from ((each zero t e refl refl).from) in
      let rest = begins_same tracks ends (omega arith) (λ k. each (suc k)) in
      sum_by-cons (λ (x : TrackEnds). cond (x.from == node) 1 0) e ends ∙ (ap (λ b. cond b 1 0 + count_by (λ (x : TrackEnds). x.from == node) ends) test
      ∙ (ap (λ n. cond (bytes_eq t.from name) 1 0 + n) rest ∙ sym (sum_by-cons (λ (x : TrackPart). cond (bytes_eq x.from name) 1 0) t tracks)))

  pub ends_same : (tracks : List TrackPart) (ends : List TrackEnds) → length ends ≡ length tracks
      → ((k : ℕ) (t : TrackPart) (e : TrackEnds) → slice_get tracks k ≡ Some t → slice_get ends k ≡ Some e → AreNodes nodes t e)
      → count_by (λ e. e.to == node) ends ≡ count_by (λ t. bytes_eq t.to name) tracks
  ends_same [] [] same each = refl
  ends_same [] (e ∷ ends) same each = absurd (omega arith)
  ends_same (t ∷ tracks) [] same each = absurd (omega arith)
  ends_same (t ∷ tracks) (e ∷ ends) same each =
      let test = same_name e.to t.to ((each zero t e refl refl).to) in
      let rest = ends_same tracks ends (omega arith) (λ k. each (suc k)) in
      sum_by-cons (λ (x : TrackEnds). cond (x.to == node) 1 0) e ends ∙ (ap (λ b. cond b 1 0 + count_by (λ (x : TrackEnds). x.to == node) ends) test
      ∙ (ap (λ n. cond (bytes_eq t.to name) 1 0 + n) rest ∙ sym (sum_by-cons (λ (x : TrackPart). cond (bytes_eq x.to name) 1 0) t tracks)))
