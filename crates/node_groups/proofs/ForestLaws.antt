-- What hanging an item elsewhere does to the trees of a forest
use Rattle.std.proofs.Common.{◌≡◌, ◌≢◌, ℕ, ◌+◌, ◌<◌, ◌⊎◌, List, length, get_or, set, refl, sym, ap, ◌∙◌, inl, inr, arith, length-set, get_or-set_same, get_or-set_other}
use Rattle.std.proofs.lemmas.Bool.{cases_eq}
use Rattle.node_groups.specs.Reach.{Reaches}
use Rattle.node_groups.specs.Forest.{IsForest, HasParent, IsRoot, IsParentOrChild, Joined, JoinsAlike, KeepsRoots, WithPair, AddsPair}
use Rattle.node_groups.proofs.ReachLaws.{Reaches-refl, Reaches-step, Reaches-trans, Reaches-sym, Reaches-within}

pub Joined-refl : (p : List ℕ) (i : ℕ) → Joined p i i
unfolding Joined
Joined-refl p i = Reaches-refl (IsParentOrChild p) i

pub Joined-trans : (p : List ℕ) (i j k : ℕ) → Joined p i j → Joined p j k → Joined p i k
unfolding Joined
Joined-trans p i j k = Reaches-trans (IsParentOrChild p) i j k

linked_back : (p : List ℕ) (i j : ℕ) → IsParentOrChild p i j → IsParentOrChild p j i
unfolding IsParentOrChild
linked_back p i j (inl h) = inr h
linked_back p i j (inr h) = inl h

pub Joined-sym : (p : List ℕ) (i j : ℕ) → Joined p i j → Joined p j i
unfolding Joined
Joined-sym p i j = Reaches-sym (IsParentOrChild p) (linked_back p) i j

-- an item is joined with its parent
pub Joined-parent : (p : List ℕ) (i j : ℕ) → HasParent p i j → Joined p i j
unfolding Joined IsParentOrChild
Joined-parent p i j h = Reaches-step (IsParentOrChild p) i j (inl h)

-- all that is joined in p stands in a relation of paths, if each item and its parent do
pub Joined-within : (p : List ℕ) (S : ℕ → ℕ → Type 0) → ((x y : ℕ) → S x y → S y x) → ((x y : ℕ) → HasParent p x y → Reaches S x y) → (i j : ℕ) → Joined p i j → Reaches S i j
unfolding Joined IsParentOrChild
Joined-within p S back along i j h = Reaches-within (IsParentOrChild p) S each i j h
  where
    each : (x y : ℕ) → IsParentOrChild p x y → Reaches S x y
    each x y (inl h) = along x y h
    each x y (inr h) = Reaches-sym S back y x (along y x h)

-- all that is joined in p is joined in q, if each item and its parent are
pub Joined-along : (p q : List ℕ) → ((x y : ℕ) → HasParent p x y → Joined q x y) → (i j : ℕ) → Joined p i j → Joined q i j
unfolding Joined
Joined-along p q along i j h = Joined-within p (IsParentOrChild q) (linked_back q) along i j h

pub JoinsAlike-refl : (p : List ℕ) → JoinsAlike p p
unfolding JoinsAlike
JoinsAlike-refl p i j = (λ h. h, λ h. h)

pub JoinsAlike-trans : (p q r : List ℕ) → JoinsAlike p q → JoinsAlike q r → JoinsAlike p r
unfolding JoinsAlike
JoinsAlike-trans p q r f g i j = (λ h. (f i j).0 ((g i j).0 h), λ h. (g i j).1 ((f i j).1 h))

-- the parents after the write at i: the new one there, and elsewhere the old ones
parent_after : (p : List ℕ) (i v x y : ℕ) → HasParent (set p i v) x y → ((x ≡ i) × (y ≡ v)) ⊎ HasParent p x y
parent_after p i v x y h = elim (cases_eq x i) [
  | inl same ↦ inl (same, grind (arith, length-set {A = ℕ}, get_or-set_same {A = ℕ}))
  | inr other ↦ inr (record { within = omega (arith, length-set {A = ℕ}); is = grind (arith, get_or-set_other {A = ℕ}) })
]

parent_elsewhere : (p : List ℕ) (i v x y : ℕ) → x ≢ i → HasParent p x y → HasParent (set p i v) x y
parent_elsewhere p i v x y other h = record { within = omega (arith, length-set {A = ℕ}); is = grind (arith, get_or-set_other {A = ℕ}) }

pub parent_there : (p : List ℕ) (i v : ℕ) → i < length p → HasParent (set p i v) i v
parent_there p i v within = record { within = omega (arith, length-set {A = ℕ}); is = grind (arith, get_or-set_same {A = ℕ}) }

-- an item that hangs below its grandparent instead stands in the same tree
module _ (p : List ℕ) (i : ℕ) (forest : IsForest p) (within : i < length p) where
  old_path : (up top : ℕ) → get_or p i 0 ≡ up → get_or p up 0 ≡ top → (x y : ℕ) → HasParent (set p i top) x y → Joined p x y
  old_path up top up_is top_is x y h = elim (parent_after p i top x y h) [
    | inr before ↦ Joined-parent p x y before
    | inl (here, there) ↦ rw (here, there) (Joined-trans p i up top
        (Joined-parent p i up (record { within = within; is = up_is }))
        (Joined-parent p up top (record { within = omega (arith, forest i within); is = top_is })))
  ]

  new_path_here : (up top : ℕ) → get_or p i 0 ≡ up → get_or p up 0 ≡ top → Joined (set p i top) i up
  new_path_here up top up_is top_is =
      let here : Joined (set p i top) i top = Joined-parent (set p i top) i top (parent_there p i top within) in
      elim (cases_eq up i) [
        | inl same ↦ rw same (Joined-refl (set p i top) i)
        | inr other ↦ Joined-trans (set p i top) i top up here (Joined-sym (set p i top) up top
            (Joined-parent (set p i top) up top (parent_elsewhere p i top up top other (record { within = omega (arith, forest i within); is = top_is }))))
      ]

  new_path : (up top : ℕ) → get_or p i 0 ≡ up → get_or p up 0 ≡ top → (x y : ℕ) → HasParent p x y → Joined (set p i top) x y
  new_path up top up_is top_is x y h = elim (cases_eq x i) [
    | inr other ↦ Joined-parent (set p i top) x y (parent_elsewhere p i top x y other h)
    | inl same ↦
        let y_is : y ≡ up = sym h.is ∙ ap (λ z. get_or p z 0) same ∙ up_is in
        rw (same, y_is) (new_path_here up top up_is top_is)
  ]

  pub JoinsAlike_lift : JoinsAlike p (set p i (get_or p (get_or p i 0) 0))
  unfolding JoinsAlike
  JoinsAlike_lift x y =
      let top : ℕ = get_or p (get_or p i 0) 0 in
      (Joined-along (set p i top) p (old_path (get_or p i 0) top refl refl) x y, Joined-along p (set p i top) (new_path (get_or p i 0) top refl refl) x y)

-- `JoinsAlike` at one pair
pub joined_after : (p q : List ℕ) (i j : ℕ) → JoinsAlike p q → Joined p i j → Joined q i j
unfolding JoinsAlike
joined_after p q i j alike h = (alike i j).1 h

pub joined_before : (p q : List ℕ) (i j : ℕ) → JoinsAlike p q → Joined q i j → Joined p i j
unfolding JoinsAlike
joined_before p q i j alike h = (alike i j).0 h

-- a step up the tree, after which the forest is q
pub joined_up : (p q : List ℕ) (item at above : ℕ) → JoinsAlike p q → q ≡ set p at above → at < length p → Joined p item at → Joined q item above
joined_up p q item at above alike is within so_far =
    Joined-trans q item at above (joined_after p q item at alike so_far) (Joined-parent q at above (rw is (parent_there p at above within)))

-- one item more hangs below a root
pub flat_more : (p q : List ℕ) (n v : ℕ) → IsForest p → q ≡ set p n v → v ≡ get_or p (get_or p n 0) 0 → KeepsRoots p q → n < length p → ((k : ℕ) → k < n → IsRoot p (get_or p k 0)) → (k : ℕ) → k < n + 1 → IsRoot q (get_or q k 0)
flat_more p q n v forest is top keeps within flat k below = elim (cases_eq k n) [
  | inr other ↦
      let e : get_or q k 0 ≡ get_or p k 0 = rw is (get_or-set_other p n k v 0 other) in
      rw e (keeps (get_or p k 0) (flat k (omega arith)))
  | inl same ↦
      let e : get_or q k 0 ≡ v = rw (is, same) (get_or-set_same p n v 0 within) in
      rw e (keeps v (root_above (get_or p n 0) refl))
]
  where
    root_above : (up : ℕ) → get_or p n 0 ≡ up → IsRoot p v
    root_above up up_is = elim (cases_eq up n) [
      | inl same ↦
          let v_is : v ≡ n = top ∙ ap (λ z. get_or p z 0) (up_is ∙ same) ∙ up_is ∙ same in
          rw v_is (record { within = within; is = up_is ∙ same })
      | inr other ↦ rw (top, up_is) (flat up (omega (arith, forest n within)))
    ]

with_pair_back : (p : List ℕ) (a b x y : ℕ) → WithPair (Joined p) a b x y → WithPair (Joined p) a b y x
unfolding WithPair
with_pair_back p a b x y (inl h) = inl (Joined-sym p x y h)
with_pair_back p a b x y (inr (inl (e, f))) = inr (inr (f, e))
with_pair_back p a b x y (inr (inr (e, f))) = inr (inl (f, e))

-- a root that hangs below the root of the other item's tree adds the pair
module _ (p : List ℕ) (a b low high : ℕ) (root : IsRoot p high) (first : Joined p a low) (second : Joined p b high) where
  new_from_old : (i j : ℕ) → Joined p i j → Joined (set p high low) i j
  new_from_old = Joined-along p (set p high low) (λ x y h. elim (cases_eq x high) [
    | inr other ↦ Joined-parent (set p high low) x y (parent_elsewhere p high low x y other h)
    | inl same ↦
        let e : y ≡ x = sym h.is ∙ ap (λ z. get_or p z 0) same ∙ root.is ∙ sym same in
        rw e (Joined-refl (set p high low) x)
  ])

  new_pair : Joined (set p high low) a b
  new_pair =
      let link : Joined (set p high low) high low = Joined-parent (set p high low) high low (parent_there p high low root.within) in
      Joined-trans (set p high low) a low b (new_from_old a low first)
      (Joined-sym (set p high low) b low (Joined-trans (set p high low) b high low (new_from_old b high second) link))

  pair_is_new : (x y : ℕ) → WithPair (Joined p) a b x y → Joined (set p high low) x y
  unfolding WithPair
  pair_is_new x y (inl h) = new_from_old x y h
  pair_is_new x y (inr (inl (e, f))) = rw (e, f) new_pair
  pair_is_new x y (inr (inr (e, f))) = rw (e, f) (Joined-sym (set p high low) a b new_pair)

  new_step : (x y : ℕ) → HasParent (set p high low) x y → Reaches (WithPair (Joined p) a b) x y
  unfolding WithPair
  new_step x y h =
      let R : ℕ → ℕ → Type 0 = WithPair (Joined p) a b in
      let old : (x y : ℕ) → Joined p x y → Reaches R x y = λ x y h. Reaches-step R x y (inl h) in
      elim (parent_after p high low x y h) [
        | inr before ↦ old x y (Joined-parent p x y before)
        | inl (here, there) ↦ rw (here, there)
            (Reaches-trans R high b low (old high b (Joined-sym p b high second))
            (Reaches-trans R b a low (Reaches-step R b a (inr (inr (refl, refl)))) (old a low first)))
      ]

  pub AddsPair_linked : AddsPair p (set p high low) a b
  unfolding AddsPair Joined
  AddsPair_linked i j = (
    Joined-within (set p high low) (WithPair (Joined p) a b) (with_pair_back p a b) new_step i j,
    Reaches-within (WithPair (Joined p) a b) (IsParentOrChild (set p high low)) pair_is_new i j,
  )

-- a pair has no order
pub AddsPair_flipped : (p q : List ℕ) (a b : ℕ) → AddsPair p q b a → AddsPair p q a b
unfolding AddsPair WithPair
AddsPair_flipped p q a b adds i j = (
  λ h. Reaches-within (WithPair (Joined p) b a) (WithPair (Joined p) a b) (λ x y s. Reaches-step (WithPair (Joined p) a b) x y (flip b a x y s)) i j ((adds i j).0 h),
  λ h. (adds i j).1 (Reaches-within (WithPair (Joined p) a b) (WithPair (Joined p) b a) (λ x y s. Reaches-step (WithPair (Joined p) b a) x y (flip a b x y s)) i j h),
)
  where
    flip : (c d x y : ℕ) → WithPair (Joined p) c d x y → WithPair (Joined p) d c x y
    flip c d x y (inl h) = inl h
    flip c d x y (inr (inl h)) = inr (inr h)
    flip c d x y (inr (inr h)) = inr (inl h)

-- what joins alike before the pair is added makes no difference
pub AddsPair_after : (o p q : List ℕ) (a b : ℕ) → JoinsAlike o p → AddsPair p q a b → AddsPair o q a b
unfolding AddsPair WithPair
AddsPair_after o p q a b alike adds i j = (
  λ h. Reaches-within (WithPair (Joined p) a b) (WithPair (Joined o) a b) (λ x y s. Reaches-step (WithPair (Joined o) a b) x y (earlier x y s)) i j ((adds i j).0 h),
  λ h. (adds i j).1 (Reaches-within (WithPair (Joined o) a b) (WithPair (Joined p) a b) (λ x y s. Reaches-step (WithPair (Joined p) a b) x y (later x y s)) i j h),
)
  where
    earlier : (x y : ℕ) → WithPair (Joined p) a b x y → WithPair (Joined o) a b x y
    earlier x y (inl h) = inl (joined_before o p x y alike h)
    earlier x y (inr h) = inr h

    later : (x y : ℕ) → WithPair (Joined o) a b x y → WithPair (Joined p) a b x y
    later x y (inl h) = inl (joined_after o p x y alike h)
    later x y (inr h) = inr h
