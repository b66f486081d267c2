-- What the tracks on the grid are of the network, and which of their ends stand at a node.
use Rattle.std.proofs.Common.{◌≡◌, ◌⊎◌, inl, inr, ℕ, Bool, List, [], ◌∷◌, ◌++◌, sym, ap, subst, arith}
use Rattle.std.specs.Prelude.{◌==◌, if◌then◌else◌}
use Rattle.std.specs.List.{Contains, flat_map}
use Rattle.std.proofs.lemmas.Bool.Decides.{eqb_tells}
use Rattle.std.proofs.lemmas.List.Elements.{Contains-append_cases, Contains-append_left, Contains-append_right}
use Rattle.discretise.specs.Joins.{ends_at, track_ends_at, high_end, low_end}
use Rattle.discretise.specs.declared.tracks.GridTrack.{GridTrack}
use Rattle.discretise.specs.declared.ends.TrackEnd.{TrackEnd}
use Rattle.discretise.proofs.RowLemmas.{has_cases, has_first, has_later}

-- the end of a track at the node: the low one where it begins there, the high one where it ends there
pub record IsEndAt (node : ℕ) (g : GridTrack) (e : TrackEnd) : Type 0 where
  pub which : ((g.from ≡ node) × (low_end g ≡ e)) ⊎ ((g.to ≡ node) × (high_end g ≡ e))

end_in : (node : ℕ) (g : GridTrack) (e : TrackEnd) → Contains (track_ends_at node g) e → IsEndAt node g e
end_in node g e there = elim (eqb_tells g.from node) [
  | inl from ↦ elim (eqb_tells g.to node) [
    | inl to ↦ both (subst (λ (b : Bool). Contains (low_end g ∷ (if b then high_end g ∷ [] else [])) e) to.0 (subst (λ (b : Bool). Contains ((if b then low_end g ∷ [] else []) ++ (if g.to == node then high_end g ∷ [] else [])) e) from.0 there)) from.1 to.1
    | inr not_to ↦ low (subst (λ (b : Bool). Contains (low_end g ∷ (if b then high_end g ∷ [] else [])) e) not_to.0 (subst (λ (b : Bool). Contains ((if b then low_end g ∷ [] else []) ++ (if g.to == node then high_end g ∷ [] else [])) e) from.0 there)) from.1
  ]
  | inr not_from ↦ elim (eqb_tells g.to node) [
    | inl to ↦ high (subst (λ (b : Bool). Contains (if b then high_end g ∷ [] else []) e) to.0 (subst (λ (b : Bool). Contains ((if b then low_end g ∷ [] else []) ++ (if g.to == node then high_end g ∷ [] else [])) e) not_from.0 there)) to.1
    | inr not_to ↦ neither (subst (λ (b : Bool). Contains (if b then high_end g ∷ [] else []) e) not_to.0 (subst (λ (b : Bool). Contains ((if b then low_end g ∷ [] else []) ++ (if g.to == node then high_end g ∷ [] else [])) e) not_from.0 there))
  ]
]
  where
    low : Contains (low_end g ∷ []) e → g.from ≡ node → IsEndAt node g e
    low has from = elim (has_cases (low_end g) [] e has) [ inl is ↦ record { which = inl (from, is) } | inr none ↦ absurd (omega (arith, none.1)) ]

    high : Contains (high_end g ∷ []) e → g.to ≡ node → IsEndAt node g e
    high has to = elim (has_cases (high_end g) [] e has) [ inl is ↦ record { which = inr (to, is) } | inr none ↦ absurd (omega (arith, none.1)) ]

    both : Contains (low_end g ∷ high_end g ∷ []) e → g.from ≡ node → g.to ≡ node → IsEndAt node g e
    both has from to = elim (has_cases (low_end g) (high_end g ∷ []) e has) [ inl is ↦ record { which = inl (from, is) } | inr rest ↦ high rest to ]

    neither : Contains [] e → IsEndAt node g e
    neither none = absurd (omega (arith, none.1))

in_end_low : (node : ℕ) (g : GridTrack) → g.from ≡ node → Contains (track_ends_at node g) (low_end g)
in_end_low node g from = elim (eqb_tells g.from node) [
  | inl is ↦ subst (λ (b : Bool). Contains ((if b then low_end g ∷ [] else []) ++ (if g.to == node then high_end g ∷ [] else [])) (low_end g)) (sym is.0) (has_first (low_end g) (if g.to == node then high_end g ∷ [] else []))
  | inr not ↦ absurd (not.1 from)
]

in_end_high : (node : ℕ) (g : GridTrack) → g.to ≡ node → Contains (track_ends_at node g) (high_end g)
in_end_high node g to = elim (eqb_tells g.to node) [
  | inl is ↦ Contains-append_right (if g.from == node then low_end g ∷ [] else []) (if g.to == node then high_end g ∷ [] else []) (high_end g)
      (subst (λ (b : Bool). Contains (if b then high_end g ∷ [] else []) (high_end g)) (sym is.0) (has_first (high_end g) []))
  | inr not ↦ absurd (not.1 to)
]

-- what is in the lists of some items, in a row, is in that of one of them
pub flat_has : {X Y : Type 0} (f : X → List Y) (xs : List X) (y : Y) → Contains (flat_map f xs) y → (x : X) × Contains xs x × Contains (f x) y
flat_has f [] y there = absurd (omega (arith, there.1))
flat_has f (x ∷ xs) y there = elim (Contains-append_cases (f x) (flat_map f xs) y there) [
  | inl here ↦ (x, has_first x xs, here)
  | inr later ↦ let rest = flat_has f xs y later in (rest.0, has_later x xs rest.0 rest.1, rest.2)
]

pub has_flat : {X Y : Type 0} (f : X → List Y) (xs : List X) (x : X) (y : Y) → Contains xs x → Contains (f x) y → Contains (flat_map f xs) y
has_flat f [] x y there has = absurd (omega (arith, there.1))
has_flat f (z ∷ xs) x y there has = elim (has_cases z xs x there) [
  | inl here ↦ Contains-append_left (f z) (flat_map f xs) y (subst (λ w. Contains (f w) y) (sym here) has)
  | inr later ↦ Contains-append_right (f z) (flat_map f xs) y (has_flat f xs x y later has)
]

-- an end at a node is that of a track
pub end_has : (gs : List GridTrack) (node : ℕ) (e : TrackEnd) → Contains (ends_at gs node) e → (g : GridTrack) × Contains gs g × IsEndAt node g e
end_has gs node e there = let at = flat_has (track_ends_at node) gs e there in (at.0, at.1, end_in node at.0 e at.2)

pub low_at : (gs : List GridTrack) (node : ℕ) (g : GridTrack) → Contains gs g → g.from ≡ node → Contains (ends_at gs node) (low_end g)
low_at gs node g there from = has_flat (track_ends_at node) gs g (low_end g) there (in_end_low node g from)

pub high_at : (gs : List GridTrack) (node : ℕ) (g : GridTrack) → Contains gs g → g.to ≡ node → Contains (ends_at gs node) (high_end g)
high_at gs node g there to = has_flat (track_ends_at node) gs g (high_end g) there (in_end_high node g to)

pub its_number : (node : ℕ) (g : GridTrack) (e : TrackEnd) → IsEndAt node g e → g.number ≡ e.track
its_number node g e at = elim at.which [ inl low ↦ ap (λ (x : TrackEnd). x.track) low.1 | inr high ↦ ap (λ (x : TrackEnd). x.track) high.1 ]
