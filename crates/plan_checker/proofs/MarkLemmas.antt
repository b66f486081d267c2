-- On the marks of classes.
use Rattle.std.proofs.Common.{◌≡◌, ◌≢◌, ◌<◌, ◌≤◌, ◌+◌, ◌⊎◌, ◌↔◌, inl, inr, ℕ, nat_eq, IsTrue, List, length, Option, Some, None, Contains, refl, replicate, slice_get, slice_set, slice_index_or, sym, subst, ◌∙◌, ap, arith, below_more}
use Rattle.std.proofs.lemmas.List.{get_or-replicate, get_or-set_same, get_or-set_other, length-replicate, length-set}
use Rattle.std.proofs.lemmas.List.Elements.{All-contains, Contains-get_or}
use Rattle.std.proofs.lemmas.Option.{slice_get-get_or, get_or_from_slice_get, slice_get_within, same_Some}
use Rattle.std.proofs.lemmas.Bool.Decides.{eqb_tells, Decides-eqb}
use Rattle.vss_lists.specs.Breaks.{HoldsBelow, HoldsOfEach}
use Rattle.cell_net.specs.Space.{IsCell}
use Rattle.cell_net.specs.declared.cells.DirCell.{DirCell}
use Rattle.cell_net.specs.declared.plans.Sweep.{Sweep}
use Rattle.layout_rules.specs.Classes.{class_of}
use Rattle.plan_checker.specs.Clashes.{AreApartAt}
use Rattle.plan_checker.specs.ClashSearch.{AreAllApart, AreTrainsApart, IsGoodTraffic, Touches}
use Rattle.plan_checker.specs.ClassMarks.{AreEarlier, AreOfTrains, HasClass, IsClassMarked, IsFreeFor, IsMarkedBy, IsOneTaken, IsTaken, IsTrainMarked, KeepsMarks, MarksOnly, TouchesClass}
use Rattle.plan_checker.specs.declared.marks.Mark.{Mark}
use Rattle.plan_checker.specs.declared.traffic.Traffic.{Traffic}
use Rattle.plan_checker.proofs.ListSteps.{get_contained, holds_more}
use Rattle.plan_checker.proofs.PairLemmas.{same_sweep}

get_set : {X : Type 0} (xs : List X) (i : ℕ) (x : X) → i < length xs → slice_get (slice_set xs i x) i ≡ Some x
get_set xs i x within =
    let len : length (slice_set xs i x) ≡ length xs = length-set xs i x in
    slice_get-get_or (slice_set xs i x) i x (omega arith) ∙ ap Some (get_or-set_same xs i x x within)

get_unset : {X : Type 0} (xs : List X) (i k : ℕ) (x y : X) → k ≢ i → slice_get (slice_set xs i x) k ≡ Some y → slice_get xs k ≡ Some y
get_unset xs i k x y differs is =
    let len : length (slice_set xs i x) ≡ length xs = length-set xs i x in
    let within : k < length (slice_set xs i x) = slice_get_within (slice_set xs i x) k y is in
    let there : slice_index_or (slice_set xs i x) k y ≡ y = get_or_from_slice_get (slice_set xs i x) k y y is in
    slice_get-get_or xs k y (omega arith) ∙ ap Some (sym (get_or-set_other xs i k x y differs) ∙ there)

get_set_other : {X : Type 0} (xs : List X) (i k : ℕ) (x y : X) → k ≢ i → slice_get xs k ≡ Some y → slice_get (slice_set xs i x) k ≡ Some y
get_set_other xs i k x y differs is =
    let len : length (slice_set xs i x) ≡ length xs = length-set xs i x in
    let within : k < length xs = slice_get_within xs k y is in
    slice_get-get_or (slice_set xs i x) k y (omega arith) ∙ ap Some (get_or-set_other xs i k x y differs ∙ get_or_from_slice_get xs k y y is)

pub KeepsMarks-refl : (step : ℕ) (marks : List (Option Mark)) → KeepsMarks step marks marks
KeepsMarks-refl step marks = record { kept = λ train class is. is }

pub KeepsMarks-trans : (step : ℕ) (a b c : List (Option Mark)) → KeepsMarks step a b → KeepsMarks step b c → KeepsMarks step a c
KeepsMarks-trans step a b c first second = record { kept = λ train class is. second.kept train class (first.kept train class is) }

-- a mark of the step is free for the train that made it
pub free_if_same : (m : Mark) (mark : Option Mark) (step train : ℕ) → mark ≡ Some m → m.step ≡ step → IsTrue (nat_eq m.train train) ↔ IsFreeFor mark step train
free_if_same m mark step train is at = (
  λ same other by. let found : Some m ≡ Some (record { step = step; train = other }) = sym is ∙ by in
      let made : m.train ≡ other = ap (λ (k : Mark). k.train) (same_Some m (record { step = step; train = other }) found) in
      sym made ∙ (Decides-eqb m.train train).0 same,
  λ free. (Decides-eqb m.train train).1 (free m.train (is ∙ (λ i. Some (record { step = at i; train = m.train })))),
)

-- a mark where no other train marked at the step
pub keeps_where_free : (marks : List (Option Mark)) (class step train : ℕ) (d : Option Mark) → class < length marks →
    IsFreeFor (slice_index_or marks class d) step train → KeepsMarks step marks (slice_set marks class (Some (record { step = step; train = train })))
keeps_where_free marks class step train d within free = record {
  kept = λ other k is. elim (eqb_tells k class) [
    | inl same ↦ let at : slice_get marks class ≡ Some (Some (record { step = step; train = other })) = subst (λ j. slice_get marks j ≡ Some (Some (record { step = step; train = other }))) same.1 is in
        let by : other ≡ train = free other (get_or_from_slice_get marks class (Some (record { step = step; train = other })) d at) in
        let here = get_set marks class (Some (record { step = step; train = train })) within in
        let of_other : slice_get (slice_set marks class (Some (record { step = step; train = train }))) class ≡ Some (Some (record { step = step; train = other })) =
        here ∙ ap (λ t. Some (Some (record { step = step; train = t }))) (sym by) in
        subst (λ j. slice_get (slice_set marks class (Some (record { step = step; train = train }))) j ≡ Some (Some (record { step = step; train = other }))) (sym same.1) of_other
    | inr differs ↦ get_set_other marks class k (Some (record { step = step; train = train })) (Some (record { step = step; train = other })) differs.1 is
  ];
}

-- a train is marked if its sweep is
pub train_marked : (t : Traffic) (marks : List (Option Mark)) (step train : ℕ) (w : Sweep) → Touches t train step w →
    HoldsOfEach (IsClassMarked t.classes.now marks step train) w.cells → IsTrainMarked t marks step train
train_marked t marks step train w has marked = record {
  each = λ v also.
      subst (λ (s : Sweep). HoldsOfEach (IsClassMarked t.classes.now marks step train) s.cells) (same_sweep t.runs.now train step w v has also) marked;
}

-- one class more is marked
pub marked_more : (classes : List ℕ) (old new : List (Option Mark)) (step train : ℕ) (cells : List DirCell) (n : ℕ) (d : DirCell) → KeepsMarks step old new →
    HoldsBelow (IsClassMarked classes old step train) cells n → IsMarkedBy new step train (class_of classes (slice_index_or cells n d).cell) →
    HoldsBelow (IsClassMarked classes new step train) cells (n + 1)
marked_more classes old new step train cells n d keeps before here =
    holds_more (IsClassMarked classes new step train) cells n d
    (λ k item low is. keeps.kept train (class_of classes item.cell) (before k item low is)) here

-- one train more is marked
pub trains_more : (t : Traffic) (old new : List (Option Mark)) (step n : ℕ) → KeepsMarks step old new →
    ((x : ℕ) → x < n → IsTrainMarked t old step x) → IsTrainMarked t new step n → (x : ℕ) → x < n + 1 → IsTrainMarked t new step x
trains_more t old new step n keeps before here =
    below_more (IsTrainMarked t new step) n
    (λ x low. record {
      each = λ w has. record {
        at_each = λ k item is. keeps.kept x (class_of t.classes.now item.cell) (((before x low).each w has).at_each k item is);
      };
    })
    here

-- where no two trains have marked one class, all are apart
pub apart_by_marks : (t : Traffic) (marks : List (Option Mark)) (step n : ℕ) → IsGoodTraffic t → length t.runs.now ≤ n →
    ((x : ℕ) → x < n → IsTrainMarked t marks step x) → AreAllApart t step
unfolding AreApartAt
apart_by_marks t marks step n sound all marked = record { apart = apart }
  where
    mark_of : (x : ℕ) (w : Sweep) (c : DirCell) → Touches t x step w → Contains w.cells c → IsMarkedBy marks step x (class_of t.classes.now c.cell)
    mark_of x w c has there =
        let within : x < length t.runs.now = slice_get_within t.runs.now x has.run has.is_run in
        ((marked x (omega arith)).each w has).at_each there.0 c (get_contained w.cells c there)

    cell_of : (x : ℕ) (w : Sweep) (c : DirCell) → Touches t x step w → Contains w.cells c → IsCell t.inst.now c.cell
    cell_of x w c has there = All-contains (λ (d : DirCell). IsCell t.inst.now d.cell) w.cells c (sound.on_cells x step w has) there

    apart : (x y : ℕ) → x < y → AreTrainsApart t step x y
    apart x y later w v one other c d in_w in_v linked =
        let same : class_of t.classes.now c.cell ≡ class_of t.classes.now d.cell =
        (sound.alike.same_where_linked c.cell d.cell (cell_of x w c one in_w) (cell_of y v d other in_v)).1 linked in
        let of_x : Mark = record { step = step; train = x } in
        let of_y : Mark = record { step = step; train = y } in
        let both : Some (Some of_x) ≡ Some (Some of_y) = sym (mark_of x w c one in_w) ∙ (ap (slice_get marks) same ∙ mark_of y v d other in_v) in
        let train : x ≡ y = ap (λ (m : Mark). m.train) (same_Some of_x of_y (same_Some (Some of_x) (Some of_y) both)) in omega arith

-- no mark is earlier than any step
pub nothing_marked : (count : ℕ) → AreEarlier 0 (replicate count None)
nothing_marked count = record {
  each = λ class m is.
      let long : length (replicate {A = Option Mark} count None) ≡ count = length-replicate count None in
      let within : class < length (replicate {A = Option Mark} count None) = slice_get_within (replicate count None) class (Some m) is in
      let here : slice_index_or (replicate {A = Option Mark} count None) class None ≡ Some m = get_or_from_slice_get (replicate count None) class (Some m) None is in
      let none : slice_index_or (replicate {A = Option Mark} count None) class None ≡ None = get_or-replicate count class None None (omega arith) in
      absurd (cc);
}

pub earlier_later : (step : ℕ) (marks : List (Option Mark)) → AreEarlier step marks → AreEarlier (step + 1) marks
earlier_later step marks earlier = record { each = λ class m is. let low = earlier.each class m is in omega arith }

-- where a mark isn't free, another train made it at the step
not_free : (mark : Option Mark) (step train : ℕ) → ¬ IsFreeFor mark step train → (other : ℕ) × (other ≢ train) × (mark ≡ Some (record { step = step; train = other }))
not_free None step train taken = absurd (taken (λ other is. cc))
not_free (Some m) step train taken = elim (eqb_tells m.step step) [
  | inr differs ↦ absurd (taken (λ other is. absurd (differs.1 (ap (λ (k : Mark). k.step) (same_Some m (record { step = step; train = other }) is)))))
  | inl same ↦ elim (eqb_tells m.train train) [
    | inl made ↦ absurd (taken (λ other is. sym (ap (λ (k : Mark). k.train) (same_Some m (record { step = step; train = other }) is)) ∙ made.1))
    | inr other ↦ (m.train, other.1, ap Some (same_mark m (record { step = step; train = m.train }) same.1 refl))
  ]
]
  where
    same_mark : (m k : Mark) → m.step ≡ k.step → m.train ≡ k.train → m ≡ k
    same_mark m k step train = λ i. record { step = step i; train = train i }

pub taken_where_not_free : (marks : List (Option Mark)) (class step train : ℕ) (d : Option Mark) → class < length marks →
    ¬ IsFreeFor (slice_index_or marks class d) step train → IsTaken marks step train class
unfolding IsTaken
taken_where_not_free marks class step train d within taken =
    let (other, differs, is) = not_free (slice_index_or marks class d) step train taken in
    (other, differs, slice_get-get_or marks class d within ∙ ap Some is)

pub marked_there : (marks : List (Option Mark)) (class step train : ℕ) → class < length marks →
    IsMarkedBy (slice_set marks class (Some (record { step = step; train = train }))) step train class
marked_there marks class step train within = get_set marks class (Some (record { step = step; train = train })) within

-- one mark more
pub only_one_more : (marks : List (Option Mark)) (class step train other place : ℕ) → class < length marks →
    IsMarkedBy (slice_set marks class (Some (record { step = step; train = train }))) step other place → IsMarkedBy marks step other place ⊎ ((other ≡ train) × (place ≡ class))
only_one_more marks class step train other place within is = elim (eqb_tells place class) [
  | inl same ↦
      let new : Mark = record { step = step; train = train } in
      let made : Mark = record { step = step; train = other } in
      let there : slice_get (slice_set marks class (Some new)) class ≡ Some (Some made) = subst (λ k. slice_get (slice_set marks class (Some new)) k ≡ Some (Some made)) same.1 is in
      let both : new ≡ made = same_Some new made (same_Some (Some new) (Some made) (sym (get_set marks class (Some new) within) ∙ there)) in
      inr (sym (ap (λ (m : Mark). m.train) both), same.1)
  | inr differs ↦ inl (get_unset marks class place (Some (record { step = step; train = train })) (Some (record { step = step; train = other })) differs.1 is)
]

pub earlier_more : (marks : List (Option Mark)) (class step train : ℕ) → class < length marks → AreEarlier (step + 1) marks →
    AreEarlier (step + 1) (slice_set marks class (Some (record { step = step; train = train })))
earlier_more marks class step train within earlier = record {
  each = λ place m is. elim (eqb_tells place class) [
    | inl same ↦
        let new : Mark = record { step = step; train = train } in
        let there : slice_get (slice_set marks class (Some new)) class ≡ Some (Some m) = subst (λ k. slice_get (slice_set marks class (Some new)) k ≡ Some (Some m)) same.1 is in
        let both : new ≡ m = same_Some new m (same_Some (Some new) (Some m) (sym (get_set marks class (Some new) within) ∙ there)) in
        let at : step ≡ m.step = ap (λ (k : Mark). k.step) both in omega arith
    | inr differs ↦ earlier.each place m (get_unset marks class place (Some (record { step = step; train = train })) (Some m) differs.1 is)
  ];
}

pub only_none : (step train : ℕ) (classes : List ℕ) (cells : List DirCell) (marks : List (Option Mark)) → MarksOnly step train classes cells marks marks
only_none step train classes cells marks = record { only = λ other class is. inl is }

-- the class of one cell more is marked
pub only_more : (step train : ℕ) (classes : List ℕ) (cells : List DirCell) (first old new : List (Option Mark)) (n : ℕ) (d : DirCell) → n < length cells →
    MarksOnly step train classes cells first old →
    ((other place : ℕ) → IsMarkedBy new step other place → IsMarkedBy old step other place ⊎ ((other ≡ train) × (place ≡ class_of classes (slice_index_or cells n d).cell))) →
    MarksOnly step train classes cells first new
unfolding HasClass
only_more step train classes cells first old new n d within before more = record {
  only = λ other class is. elim (more other class is) [
    | inl earlier ↦ before.only other class earlier
    | inr now ↦ inr (now.0, (slice_index_or cells n d, Contains-get_or cells n d within, sym now.1))
  ];
}

pub one_taken : (classes : List ℕ) (marks : List (Option Mark)) (step train : ℕ) (cells : List DirCell) (n : ℕ) (d : DirCell) → n < length cells →
    IsTaken marks step train (class_of classes (slice_index_or cells n d).cell) → IsOneTaken classes marks step train cells
unfolding IsOneTaken
one_taken classes marks step train cells n d within taken = (slice_index_or cells n d, Contains-get_or cells n d within, taken)

-- before a step's first train no mark is of the step
pub no_trains_yet : (t : Traffic) (marks : List (Option Mark)) (step : ℕ) → AreEarlier step marks → AreOfTrains t marks step 0
no_trains_yet t marks step earlier = record {
  each = λ train class is. absurd (let low = earlier.each class (record { step = step; train = train }) is in omega arith);
}

pub trains_without : (t : Traffic) (marks : List (Option Mark)) (step train : ℕ) → AreOfTrains t marks step train → AreOfTrains t marks step (train + 1)
trains_without t marks step train before = record { each = λ other class is. let found = before.each other class is in (omega (arith, found.0), found.1) }

-- the marks of one train more
pub trains_with : (t : Traffic) (old new : List (Option Mark)) (step train : ℕ) (w : Sweep) → Touches t train step w → AreOfTrains t old step train →
    MarksOnly step train t.classes.now w.cells old new → AreOfTrains t new step (train + 1)
unfolding TouchesClass
trains_with t old new step train w touches before only = record {
  each = λ other class is. elim (only.only other class is) [
    | inl earlier ↦ let found = before.each other class earlier in (omega (arith, found.0), found.1)
    | inr now ↦ let this : other ≡ train = now.0 in (
      omega arith,
      subst (λ x. TouchesClass t step x class) (sym this) (w, touches, now.1),
    )
  ];
}

-- where another train has marked the class of a cell, the two trains aren't apart
pub not_all_apart : (t : Traffic) (old new : List (Option Mark)) (step train : ℕ) (w : Sweep) → IsGoodTraffic t → Touches t train step w → AreOfTrains t old step train →
    MarksOnly step train t.classes.now w.cells old new → IsOneTaken t.classes.now new step train w.cells → ¬ AreAllApart t step
unfolding AreApartAt IsOneTaken IsTaken TouchesClass HasClass
not_all_apart t old new step train w sound touches before only (d, in_w, (other, differs, marked)) all =
    elim (only.only other (class_of t.classes.now d.cell) marked) [
      | inr now ↦ absurd (differs now.0)
      | inl earlier ↦
          let (low, (v, has, (e, in_v, class))) = before.each other (class_of t.classes.now d.cell) earlier in
          let cell_e : IsCell t.inst.now e.cell = All-contains (λ (c : DirCell). IsCell t.inst.now c.cell) v.cells e (sound.on_cells other step v has) in_v in
          let cell_d : IsCell t.inst.now d.cell = All-contains (λ (c : DirCell). IsCell t.inst.now c.cell) w.cells d (sound.on_cells train step w touches) in_w in
          let linked = (sound.alike.same_where_linked e.cell d.cell cell_e cell_d).0 class in
          all.apart other train low v w has touches e d in_v in_w linked
    ]
