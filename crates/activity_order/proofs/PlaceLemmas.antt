-- The places of a heap and who waits at them: two places exchanged, one fewer that wait, one more.
use Rattle.std.proofs.Common.{◌≡◌, ◌≢◌, ℕ, ◌+◌, ◌<◌, ◌≤◌, Bool, true, false, inl, inr, List, ◌++◌, length, take, drop, get_or, set, ap, sym, ◌∙◌, arith}
use Rattle.std.specs.Prelude.{not, nat_le, replicate}
use Rattle.std.proofs.lemmas.Bool.{cases_eq, cases_lt, le-leb, lt-leb}
use Rattle.std.proofs.lemmas.List.{get_or-set_same, get_or-set_other, length-set, length-map, get_or-map, get_or_past, ext_get_or, get_or-replicate, length-replicate, set-get_or, take_at}
use Rattle.sat_core.proofs.OpenLaws.{true_is_not_false}
use Rattle.activity_order.specs.Heaps.{IsPlaced, waits_of}
use Rattle.activity_order.proofs.RankLemmas.{exchanged_first, exchanged_second, exchanged_other}

-- a slice that was lent by a vector, and comes back
pub lent : {X : Type 0} (n : ℕ) (new old : List X) → length new ≡ n → take n (new ++ drop (length new) old) ≡ new
lent n new old is = take_at new (drop (length new) old) n is

-- ---- who waits
pub waits_at : (places : List ℕ) (size v : ℕ) → v < length places → get_or (waits_of places size) v false ≡ not (nat_le size (get_or places v 0))
waits_at places size v within = get_or-map (λ place. not (nat_le size place)) places v 0 false within

pub waits_long : (places : List ℕ) (size : ℕ) → length (waits_of places size) ≡ length places
waits_long places size = length-map places (λ place. not (nat_le size place))

pub waits_within : (places : List ℕ) (size v : ℕ) → get_or (waits_of places size) v false ≡ true → v < length places
waits_within places size v waits = elim (cases_lt v (length places)) [
  | inl within ↦ within
  | inr past ↦ absurd (true_is_not_false (sym waits ∙ get_or_past (waits_of places size) v false (omega (arith, past, waits_long places size))))
]

pub place_of_waiting : (places : List ℕ) (size v : ℕ) → get_or (waits_of places size) v false ≡ true → get_or places v 0 < size
place_of_waiting places size v waits = elim (cases_lt (get_or places v 0) size) [
  | inl low ↦ low
  | inr high ↦ absurd (true_is_not_false (sym waits ∙ (waits_at places size v (waits_within places size v waits) ∙ ap not (le-leb size (get_or places v 0) high))))
]

pub waiting_of_place : (places : List ℕ) (size v : ℕ) → v < length places → get_or places v 0 < size → get_or (waits_of places size) v false ≡ true
waiting_of_place places size v within low = waits_at places size v within ∙ ap not (lt-leb size (get_or places v 0) low)

pub not_waiting : (places : List ℕ) (size v : ℕ) → v < length places → size ≤ get_or places v 0 → get_or (waits_of places size) v false ≡ false
not_waiting places size v within high = waits_at places size v within ∙ ap not (le-leb size (get_or places v 0) high)

-- both wait, or neither
same_waiting : (places later : List ℕ) (size less v : ℕ) → v < length places → v < length later → (get_or places v 0 < size → get_or later v 0 < less) → (get_or later v 0 < less → get_or places v 0 < size) → get_or (waits_of later less) v false ≡ get_or (waits_of places size) v false
same_waiting places later size less v within within' there back = elim (cases_lt (get_or places v 0) size) [
  | inl low ↦ waiting_of_place later less v within' (there low) ∙ sym (waiting_of_place places size v within low)
  | inr high ↦ elim (cases_lt (get_or later v 0) less) [
    | inl low ↦ absurd (omega (arith, high, back low))
    | inr high' ↦ not_waiting later less v within' high' ∙ sym (not_waiting places size v within high)
  ]
]

-- ---- two places are exchanged
second_place : (places : List ℕ) (first second one other : ℕ) → second < length places → get_or (set (set places first other) second one) second 0 ≡ one
second_place places first second one other high = get_or-set_same (set places first other) second one 0 (omega (arith, length-set places first other, high))

first_place : (places : List ℕ) (first second one other : ℕ) → first < length places → first ≢ second → get_or (set (set places first other) second one) first 0 ≡ other
first_place places first second one other low apart = get_or-set_other (set places first other) second first one 0 apart ∙ get_or-set_same places first other 0 low

other_place : (places : List ℕ) (first second one other v : ℕ) → v ≢ first → v ≢ second → get_or (set (set places first other) second one) v 0 ≡ get_or places v 0
other_place places first second one other v not_first not_second = get_or-set_other (set places first other) second v one 0 not_second ∙ get_or-set_other places first v other 0 not_first

abbrev Swapped : List ℕ → ℕ → ℕ → List ℕ
Swapped heap one other = set (set heap one (get_or heap other 0)) other (get_or heap one 0)

abbrev Replaced : List ℕ → List ℕ → ℕ → ℕ → List ℕ
Replaced heap places one other = set (set places (get_or heap one 0) other) (get_or heap other 0) one

swapped_long : (heap : List ℕ) (one other : ℕ) → length (Swapped heap one other) ≡ length heap
swapped_long heap one other = length-set (set heap one (get_or heap other 0)) other (get_or heap one 0) ∙ length-set heap one (get_or heap other 0)

replaced_long : (heap places : List ℕ) (one other : ℕ) → length (Replaced heap places one other) ≡ length places
replaced_long heap places one other = length-set (set places (get_or heap one 0) other) (get_or heap other 0) one ∙ length-set places (get_or heap one 0) other

pub IsPlaced-exchanged : (heap places : List ℕ) (one other : ℕ) → one < length heap → other < length heap → IsPlaced heap places → IsPlaced (Swapped heap one other) (Replaced heap places one other)
IsPlaced-exchanged heap places one other one_in other_in was = record {
  long = swapped_long heap one other ∙ (was.long ∙ sym (replaced_long heap places one other));
  placed = λ k within. elim (cases_eq k other) [
    | inl here ↦
        let is : get_or later k 0 ≡ first = ap (λ n. get_or later n 0) here ∙ exchanged_second heap one other other_in in (
          omega (arith, is, low, replaced_long heap places one other),
          ap (λ v. get_or spots v 0) is ∙ (elim (cases_eq one other) [
            | inl same ↦ ap (λ v. get_or spots v 0) (ap (λ n. get_or heap n 0) same) ∙ (second_place places first second one other high ∙ (same ∙ sym here))
            | inr apart ↦ first_place places first second one other low (λ e. apart (sym at_one ∙ (ap (λ v. get_or places v 0) e ∙ at_other))) ∙ sym here
          ]),
        )
    | inr not_other ↦ elim (cases_eq k one) [
      | inl here ↦
          let is : get_or later k 0 ≡ second = ap (λ n. get_or later n 0) here ∙ exchanged_first heap one other one_in other_in in
          (omega (arith, is, high, replaced_long heap places one other), ap (λ v. get_or spots v 0) is ∙ (second_place places first second one other high ∙ sym here))
      | inr not_one ↦
          let within' : k < length heap = omega (arith, within, swapped_long heap one other) in
          let at_k : get_or places (get_or heap k 0) 0 ≡ k = (was.placed k within').1 in
          let is : get_or later k 0 ≡ get_or heap k 0 = exchanged_other heap one other k not_one not_other in (
            omega (arith, is, (was.placed k within').0, replaced_long heap places one other),
            ap (λ v. get_or spots v 0) is
                ∙ (other_place places first second one other (get_or heap k 0) (λ e. not_one (sym at_k ∙ (ap (λ v. get_or places v 0) e ∙ at_one))) (λ e. not_other (sym at_k ∙ (ap (λ v. get_or places v 0) e ∙ at_other))) ∙ at_k),
          )
    ]
  ];
  back = λ v within. elim (cases_eq v second) [
    | inl here ↦
        let at_v : get_or spots v 0 ≡ one = ap (λ n. get_or spots n 0) here ∙ second_place places first second one other high in
        (omega (arith, at_v, one_in, swapped_long heap one other), ap (λ n. get_or later n 0) at_v ∙ (exchanged_first heap one other one_in other_in ∙ sym here))
    | inr not_second ↦ elim (cases_eq v first) [
      | inl here ↦
          let at_v : get_or spots v 0 ≡ other = ap (λ n. get_or spots n 0) here ∙ first_place places first second one other low (λ e. not_second (here ∙ e)) in
          (omega (arith, at_v, other_in, swapped_long heap one other), ap (λ n. get_or later n 0) at_v ∙ (exchanged_second heap one other other_in ∙ sym here))
      | inr not_first ↦
          let at_v : get_or spots v 0 ≡ get_or places v 0 = other_place places first second one other v not_first not_second in
          let old = was.back v (omega (arith, within, replaced_long heap places one other)) in (
            omega (arith, at_v, old.0, swapped_long heap one other),
            ap (λ n. get_or later n 0) at_v ∙ (exchanged_other heap one other (get_or places v 0) (λ e. not_first (sym old.1 ∙ ap (λ n. get_or heap n 0) e)) (λ e. not_second (sym old.1 ∙ ap (λ n. get_or heap n 0) e)) ∙ old.1),
          )
    ]
  ];
} where
  first : ℕ
  first = get_or heap one 0

  second : ℕ
  second = get_or heap other 0

  later : List ℕ
  later = Swapped heap one other

  spots : List ℕ
  spots = Replaced heap places one other

  low : first < length places
  low = (was.placed one one_in).0

  high : second < length places
  high = (was.placed other other_in).0

  at_one : get_or places first 0 ≡ one
  at_one = (was.placed one one_in).1

  at_other : get_or places second 0 ≡ other
  at_other = (was.placed other other_in).1

-- who waits, where both places are inside or both outside
waits-exchanged : (heap places : List ℕ) (one other size : ℕ) → one < length heap → other < length heap → IsPlaced heap places → (one < size → other < size) → (other < size → one < size) → waits_of (Replaced heap places one other) size ≡ waits_of places size
waits-exchanged heap places one other size one_in other_in was there back =
    ext_get_or false (waits_of spots size) (waits_of places size) (waits_long spots size ∙ (wide ∙ sym (waits_long places size)))
    (λ v within.
    let within' : v < length places = omega (arith, within, waits_long spots size, wide) in
    elim (cases_eq v second) [
      | inl here ↦
          let new : get_or spots v 0 ≡ one = ap (λ n. get_or spots n 0) here ∙ second_place places first second one other high in
          let old : get_or places v 0 ≡ other = ap (λ n. get_or places n 0) here ∙ (was.placed other other_in).1 in
          same_waiting places spots size size v within' (omega (arith, within', wide)) (λ was_low. omega (arith, new, back (omega (arith, was_low, old)))) (λ is_low. omega (arith, old, there (omega (arith, is_low, new))))
      | inr not_second ↦ elim (cases_eq v first) [
        | inl here ↦
            let new : get_or spots v 0 ≡ other = ap (λ n. get_or spots n 0) here ∙ first_place places first second one other low (λ e. not_second (here ∙ e)) in
            let old : get_or places v 0 ≡ one = ap (λ n. get_or places n 0) here ∙ (was.placed one one_in).1 in
            same_waiting places spots size size v within' (omega (arith, within', wide)) (λ was_low. omega (arith, new, there (omega (arith, was_low, old)))) (λ is_low. omega (arith, old, back (omega (arith, is_low, new))))
        | inr not_first ↦
            let same : get_or spots v 0 ≡ get_or places v 0 = other_place places first second one other v not_first not_second in
            same_waiting places spots size size v within' (omega (arith, within', wide)) (λ was_low. omega (arith, same, was_low)) (λ is_low. omega (arith, same, is_low))
      ]
    ]) where
      first : ℕ
      first = get_or heap one 0

      second : ℕ
      second = get_or heap other 0

      spots : List ℕ
      spots = Replaced heap places one other

      wide : length spots ≡ length places
      wide = replaced_long heap places one other

      low : first < length places
      low = (was.placed one one_in).0

      high : second < length places
      high = (was.placed other other_in).0

pub waits-inside : (heap places : List ℕ) (one other size : ℕ) → one < length heap → other < length heap → IsPlaced heap places → one < size → other < size → waits_of (Replaced heap places one other) size ≡ waits_of places size
waits-inside heap places one other size one_in other_in was low high = waits-exchanged heap places one other size one_in other_in was (λ _. high) (λ _. low)

pub waits-outside : (heap places : List ℕ) (one other size : ℕ) → one < length heap → other < length heap → IsPlaced heap places → size ≤ one → size ≤ other → waits_of (Replaced heap places one other) size ≡ waits_of places size
waits-outside heap places one other size one_in other_in was low high = waits-exchanged heap places one other size one_in other_in was (λ in_one. absurd (omega (arith, in_one, low))) (λ in_other. absurd (omega (arith, in_other, high)))

-- ---- one fewer wait, or one more
waits_set : (places : List ℕ) (size less top : ℕ) (value : Bool) → top < length places → get_or (waits_of places less) top false ≡ value → ((v : ℕ) → v < length places → v ≢ top → (get_or places v 0 < size → get_or places v 0 < less) × (get_or places v 0 < less → get_or places v 0 < size)) → waits_of places less ≡ set (waits_of places size) top value
waits_set places size less top value within is others =
    ext_get_or false (waits_of places less) (set (waits_of places size) top value) (waits_long places less ∙ sym (length-set (waits_of places size) top value ∙ waits_long places size))
    (λ v low.
    let inside : v < length places = omega (arith, low, waits_long places less) in
    elim (cases_eq v top) [
      | inl here ↦ ap (λ n. get_or (waits_of places less) n false) here ∙ (is ∙ sym (ap (λ n. get_or (set (waits_of places size) top value) n false) here ∙ get_or-set_same (waits_of places size) top value false (omega (arith, within, waits_long places size))))
      | inr apart ↦ same_waiting places places size less v inside inside (others v inside apart).0 (others v inside apart).1 ∙ sym (get_or-set_other (waits_of places size) top v value false apart)
    ])

pub waits_less : (heap places : List ℕ) (last size top : ℕ) → size ≡ last + 1 → size ≤ length heap → get_or heap last 0 ≡ top → IsPlaced heap places → waits_of places last ≡ set (waits_of places size) top false
waits_less heap places last size top is all at_last was =
    let there = was.placed last (omega (arith, is, all)) in
    let top_in : top < length places = omega (arith, there.0, at_last) in
    let top_at : get_or places top 0 ≡ last = ap (λ v. get_or places v 0) (sym at_last) ∙ there.1 in
    waits_set places size last top false top_in (not_waiting places last top top_in (omega (arith, top_at)))
    (λ v inside apart.
    let not_last : get_or places v 0 ≢ last = λ e. apart (sym (was.back v inside).1 ∙ (ap (λ k. get_or heap k 0) e ∙ at_last)) in
    (λ low. omega (arith, low, is, not_last), λ low. omega (arith, low, is)))

pub waits_more : (heap places : List ℕ) (size more place : ℕ) → more ≡ size + 1 → more ≤ length heap → get_or heap size 0 ≡ place → IsPlaced heap places → waits_of places more ≡ set (waits_of places size) place true
waits_more heap places size more place is all at_last was =
    let there = was.placed size (omega (arith, is, all)) in
    let place_in : place < length places = omega (arith, there.0, at_last) in
    let place_at : get_or places place 0 ≡ size = ap (λ v. get_or places v 0) (sym at_last) ∙ there.1 in
    waits_set places size more place true place_in (waiting_of_place places more place place_in (omega (arith, place_at, is)))
    (λ v inside apart.
    let not_last : get_or places v 0 ≢ size = λ e. apart (sym (was.back v inside).1 ∙ (ap (λ k. get_or heap k 0) e ∙ at_last)) in
    (λ low. omega (arith, low, is), λ low. omega (arith, low, is, not_last)))

-- who waits already goes on waiting
pub waits-already : (places : List ℕ) (size v : ℕ) → v < length places → get_or places v 0 < size → waits_of places size ≡ set (waits_of places size) v true
waits-already places size v within low = sym (set-get_or (waits_of places size) v false) ∙ ap (set (waits_of places size) v) (waiting_of_place places size v within low)

-- ---- at first each waits at its own place
pub IsPlaced-counted : (heap places : List ℕ) → length heap ≡ length places → ((k : ℕ) → k < length places → get_or heap k 0 ≡ k) → ((k : ℕ) → k < length places → get_or places k 0 ≡ k) → IsPlaced heap places
IsPlaced-counted heap places long each_heap each_place = record {
  long = long;
  placed = λ k within.
      let within' : k < length places = omega (arith, within, long) in
      (omega (arith, each_heap k within', within'), ap (λ n. get_or places n 0) (each_heap k within') ∙ each_place k within');
  back = λ v within. (omega (arith, each_place v within, within, long), ap (λ n. get_or heap n 0) (each_place v within) ∙ each_heap v within);
}

pub waits-counted : (places : List ℕ) (vars : ℕ) → length places ≡ vars → ((k : ℕ) → k < vars → get_or places k 0 ≡ k) → waits_of places vars ≡ replicate vars true
waits-counted places vars long each =
    ext_get_or false (waits_of places vars) (replicate vars true) (waits_long places vars ∙ (long ∙ sym (length-replicate vars true)))
    (λ v within.
    let within' : v < length places = omega (arith, within, waits_long places vars) in
    waiting_of_place places vars v within' (omega (arith, each v (omega (arith, within', long)), within', long)) ∙ sym (get_or-replicate vars v true false (omega (arith, within', long))))
