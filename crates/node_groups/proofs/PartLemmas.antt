-- From the ends of a list of segments to its parts
use Rattle.std.proofs.Common.{◌≡◌, ℕ, ◌↔◌, List, [], Option, Some, None, Contains, length, refl, ◌∙◌, inl}
use Rattle.std.proofs.lemmas.Option.{slice_get_within}
use Rattle.node_groups.specs.declared.segments.Segment.{Segment}
use Rattle.node_groups.specs.declared.ends.End.{End}
use Rattle.node_groups.specs.Touch.{Touch}
use Rattle.node_groups.specs.Ends.{AreEndsOf, end_at}
use Rattle.std.specs.List.Sorted.{IsPermutation}
use Rattle.std.proofs.lemmas.List.Sorted.{Contains-permutation, IsPermutation-sym}
use Rattle.node_groups.specs.Groups.{GroupsByReach}
use Rattle.node_groups.specs.Parts.{Finds, HasOneGroup, IsConnectedPart, IsOfPart}
use Rattle.node_groups.proofs.TouchLemmas.{ends_have}

-- a search by a rule that holds of the same parts
pub finds_alike : (P Q : ℕ → Type 0) → ((part : ℕ) → P part ↔ Q part) → (answer : Option ℕ) → Finds P answer → Finds Q answer
finds_alike P Q alike None all = λ part. (alike part).0 (all part)
finds_alike P Q alike (Some part) found = record {
  fails = λ holds. found.fails ((alike part).1 holds);
  before = λ earlier below. (alike earlier).0 (found.before earlier below);
}

module _ (segments : List Segment) (ends : List End) (are : AreEndsOf segments ends) where
  end_of_place : (part k : ℕ) → IsOfPart segments part k → (e : End) × Contains ends e × (e.part ≡ part) × (e.place ≡ k)
  end_of_place part k of =
      let e : End = end_at of.segment.low of.segment.part k in
      (e, ends_have segments ends are k of.segment of.segment.low of.is (inl refl), of.of_part, refl)

  place_of_end : (part : ℕ) (e : End) → Contains ends e → e.part ≡ part → IsOfPart segments part e.place
  place_of_end part e there of =
      let is = (are.each e).0 there in
      record { segment = is.segment; is = is.is; of_part = is.part ∙ of }

  module _ (groups : List ℕ) (len : length groups ≡ length segments) (by : GroupsByReach (Touch segments []) groups) where
    pub connected_alike : (part : ℕ) → HasOneGroup ends groups part ↔ IsConnectedPart segments part
    unfolding HasOneGroup
    connected_alike part = (
      λ one i j i_of j_of.
          let (e, e_in, e_part, e_place) = end_of_place part i i_of in
          let (f, f_in, f_part, f_place) = end_of_place part j j_of in
          (by i j (rw len (slice_get_within segments i i_of.segment i_of.is)) (rw len (slice_get_within segments j j_of.segment j_of.is))).0
          (rw (e_place, f_place) at (one e f e_in f_in e_part f_part)),
      λ connected e f e_in f_in e_part f_part.
          let i_of = place_of_end part e e_in e_part in
          let j_of = place_of_end part f f_in f_part in
          (by e.place f.place (rw len (slice_get_within segments e.place i_of.segment i_of.is)) (rw len (slice_get_within segments f.place j_of.segment j_of.is))).1
          (connected e.place f.place i_of j_of),
    )

-- the same ends in another order
pub ends_moved : (segments : List Segment) (ends moved : List End) → IsPermutation ends moved → AreEndsOf segments ends → AreEndsOf segments moved
ends_moved segments ends moved same are = record {
  each = λ e. (
    λ there. (are.each e).0 (Contains-permutation moved ends e (IsPermutation-sym ends moved same) there),
    λ is. Contains-permutation ends moved e same ((are.each e).1 is),
  );
}
