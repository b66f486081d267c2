-- The chain that a valuation tells is a chain.
use Rattle.std.proofs.Common.{◌≡◌, ◌≢◌, ℕ, zero, suc, ◌+◌, ◌-◌, ◌<◌, ◌≤◌, Bool, true, false, List, [], ◌∷◌, ◌++◌, length, get_or, map, filter, refl, sym, ap, ◌∙◌, subst, inl, inr, ⊎_elim, ◌⊎◌, arith}
use Rattle.std.specs.Prelude.{All, Contains, nat_lt, min, max, not}
use Rattle.std.specs.List.{AllAdjacentBelow}
use Rattle.std.proofs.lemmas.Bool.{false≢true, cases_Bool, ltb-true, lt-ltb, cases_lt}
use Rattle.std.proofs.lemmas.List.{get_or_default}
use Rattle.std.proofs.lemmas.Option.{slice_get-get_or}
use Rattle.std.proofs.lemmas.Bool.Decides.{eqb_tells}
use Rattle.sat_core.specs.Clauses.{Satisfies, SatisfiesAll}
use Rattle.cell_net.specs.declared.trains.StopSpec.{StopSpec}
use Rattle.cell_net.specs.declared.trains.TrainSpec.{TrainSpec}
use Rattle.sweep_table.specs.declared.ids.SweepId.{SweepId}
use Rattle.sweep_table.specs.Tables.{Table, next_of, is_entry, is_goal, stands_in}
use Rattle.clause_list.specs.Numbers.{CodedTrain, is, is_not, cone, sweep, run_ended, waits, beginnings}
use Rattle.clause_list.specs.RunClauses.{enter, enter_clauses, stay_ended, stay_ended_clauses, where_}
use Rattle.clause_list.specs.StopClauses.{no_stop, stop_at, meets, last_of_stop, stop_met, stop_met_clauses, stop_in_run, stops_in_run, stop_in_run_clauses, not_standing, stand, stands_at, stands_from, stands_while, stand_clauses, entered, entered_before, stop_after_entry_clauses}
use Rattle.clause_list.specs.Values.{value}
use Rattle.clause_list.proofs.ListLaws.{filter_is, filter_keeps, in_range_is}
use Rattle.clause_list.proofs.ReadingLaws.{sat_head, sat_each, sat_range, sat_any, sat_append, sat_where, sat_not_both, sat_implies, true_value, false_value}
use Rattle.plan_laws.specs.Chains.{IsChain, IsStopMet, StandsAt}
use Rattle.plan_laws.specs.Satisfied.{IsSatisfied, IsCoded}
use Rattle.plan_laws.specs.Telling.{no_item, first_told, follow, first_step, told_step, is_told_entry, told_entry, told_items}
use Rattle.plan_laws.proofs.Following.{IsThere, IsTold, follow_told, first_passes, test_true}

-- the parts of what is told
pub links : (values : List Bool) (table : Table) (a : CodedTrain) (t : ℕ) (w : SweepId) (ws : List SweepId) → IsTold values table a t w ws → AllAdjacentBelow (λ (u v : SweepId). Contains (next_of table u.0) v) (w ∷ ws) (length (w ∷ ws))
unfolding IsTold
links values table a t w [] told k d within = absurd (omega arith)
links values table a t w (v ∷ vs) told zero d within = told.1
links values table a t w (v ∷ vs) told (suc k) d within = let e : suc k + 1 ≡ suc (k + 1) = omega arith in rw e (links values table a (t + 1) v vs told.2 k d (omega arith))

pub there_at : (values : List Bool) (table : Table) (a : CodedTrain) (t : ℕ) (w : SweepId) (ws : List SweepId) (k : ℕ) → IsTold values table a t w ws → k ≤ length ws → IsThere values a (t + k) (get_or (w ∷ ws) k no_item).0
unfolding IsTold
there_at values table a t w [] zero told within = subst (λ u. IsThere values a u w.0) (omega arith) told.0
there_at values table a t w [] (suc k) told within = absurd (omega arith)
there_at values table a t w (v ∷ vs) zero told within = subst (λ u. IsThere values a u w.0) (omega arith) told.0
there_at values table a t w (v ∷ vs) (suc k) told within = subst (λ u. IsThere values a u (get_or (v ∷ vs) k no_item).0) (omega arith) (there_at values table a (t + 1) v vs k told.2 (omega arith))

last_goal : (values : List Bool) (table : Table) (a : CodedTrain) (t : ℕ) (w : SweepId) (ws : List SweepId) → IsTold values table a t w ws → is_goal table (get_or (w ∷ ws) (length ws) no_item).0 ≡ true
unfolding IsTold
last_goal values table a t w [] told = told.1
last_goal values table a t w (v ∷ vs) told = last_goal values table a (t + 1) v vs told.2

end_told : (values : List Bool) (table : Table) (a : CodedTrain) (t : ℕ) (w : SweepId) (ws : List SweepId) → IsTold values table a t w ws → (t + length ws ≡ a.by) ⊎ (value values (run_ended a (t + length ws + 1)) ≡ true)
unfolding IsTold
end_told values table a t w [] told = ⊎_elim (λ e. inl (omega arith)) (λ o. inr (let same : t + 1 ≡ t + 0 + 1 = omega arith in subst (λ u. value values (run_ended a u) ≡ true) same o)) told.2
end_told values table a t w (v ∷ vs) told = ⊎_elim (λ e. inl (omega arith)) (λ o. inr (let same : t + 1 + length vs + 1 ≡ t + suc (length vs) + 1 = omega arith in subst (λ u. value values (run_ended a u) ≡ true) same o)) (end_told values table a (t + 1) v vs told.2)

follow_short : (values : List Bool) (table : Table) (a : CodedTrain) (more t : ℕ) (w : SweepId) → length (follow values table a more t w) ≤ more
follow_short values table a zero t w = omega arith
follow_short values table a (suc more) t w = ⊎_elim
    (λ over. rw over (omega arith))
    (λ on. rw on (let h : length (follow values table a more (t + 1) (first_told values a (t + 1) (next_of table w.0))) ≤ more = follow_short values table a more (t + 1) (first_told values a (t + 1) (next_of table w.0)) in omega arith))
    (cases_Bool (value values (run_ended a (t + 1))))

-- the first step after which the train does not wait, or the last of its window
pub record IsFirstStep (values : List Bool) (a : CodedTrain) (from x : ℕ) : Type 0 where
  pub not_before : from ≤ x
  pub not_after : x ≤ a.latest
  pub waited : (t : ℕ) → from ≤ t → t < x → value values (waits a t) ≡ true
  pub goes : (x ≡ a.latest) ⊎ (value values (waits a x) ≡ false)

pub first_step_is : (values : List Bool) (a : CodedTrain) (more t : ℕ) → t + more ≡ a.latest → IsFirstStep values a t (first_step values a more t)
first_step_is values a zero t sum = record { not_before = omega arith; not_after = omega arith; waited = λ u h k. absurd (omega arith); goes = inl (omega arith) }
first_step_is values a (suc more) t sum = ⊎_elim
    (λ wait. let w : value values (waits a t) ≡ true = wait in
    let later = first_step_is values a more (t + 1) (omega arith) in
    rw w (record {
      not_before = (let h : t + 1 ≤ first_step values a more (t + 1) = later.not_before in omega arith);
      not_after = later.not_after;
      waited = λ u h k. ⊎_elim (λ e. subst (λ v. value values (waits a v) ≡ true) e.1 w) (λ n. let ne : t ≢ u = n.1 in later.waited u (omega arith) k) (eqb_tells t u);
      goes = later.goes;
    }))
    (λ go. let g : value values (waits a t) ≡ false = go in
    rw g (record { not_before = omega arith; not_after = omega arith; waited = λ u h k. absurd (omega arith); goes = inr g }))
    (cases_Bool (value values (waits a t)))

pub told_first : (values : List Bool) (table : Table) (train : TrainSpec) (a : CodedTrain) → IsCoded table train a → IsFirstStep values a a.start (told_step values a)
told_first values table train a coded = let w : a.start ≤ a.latest = coded.window in first_step_is values a (a.latest - a.start) a.start (omega arith)

-- the clause of entering, where the train waited before the step
enter_says : (values : List Bool) (table : Table) (a : CodedTrain) (t : ℕ) → SatisfiesAll values (enter_clauses table a) → a.start ≤ t → t ≤ a.latest → (a.start < t → value values (waits a (t - 1)) ≡ true) → ((w : ℕ) × Contains (filter (is_entry table) (cone a t)) w × (value values (sweep a t w) ≡ true)) ⊎ ((t < a.latest) × (value values (waits a t) ≡ true))
unfolding enter_clauses enter
enter_says values table a t all h k before =
    let clause : Satisfies values (enter table a t) = sat_head values (enter table a t) [] (sat_range values (λ u. enter table a u ∷ []) a.start (a.latest + 1) t all h (omega arith)) in
    ⊎_elim
    (λ front. ⊎_elim
    (λ waited. let (later, lit) = sat_where values (nat_lt a.start t) (is_not (waits a (t - 1))) waited in absurd (false≢true (sym (false_value values (waits a (t - 1)) lit) ∙ before (ltb-true a.start t later))))
    (λ some. inl (sat_any values (sweep a t) (filter (is_entry table) (cone a t)) some))
    (sat_append values (where_ (nat_lt a.start t) (is_not (waits a (t - 1)))) (map (λ w. is (sweep a t w)) (filter (is_entry table) (cone a t))) front))
    (λ on. let (more, lit) = sat_where values (nat_lt t a.latest) (is (waits a t)) on in inr (ltb-true t a.latest more, true_value values (waits a t) lit))
    (sat_append values (where_ (nat_lt a.start t) (is_not (waits a (t - 1))) ++ map (λ w. is (sweep a t w)) (filter (is_entry table) (cone a t))) (where_ (nat_lt t a.latest) (is (waits a t))) clause)

-- an ended run stays ended
stays : (values : List Bool) (a : CodedTrain) (more t : ℕ) → SatisfiesAll values (stay_ended_clauses a) → a.start < t → t + more ≤ a.by → value values (run_ended a t) ≡ true → value values (run_ended a (t + more)) ≡ true
unfolding stay_ended_clauses stay_ended
stays values a zero t all h k over = subst (λ u. value values (run_ended a u) ≡ true) (omega arith) over
stays values a (suc more) t all h k over =
    let next : value values (run_ended a (t + 1)) ≡ true = sat_implies values (run_ended a t) (run_ended a (t + 1)) (sat_head values (stay_ended a t) [] (sat_range values (λ u. stay_ended a u ∷ []) (a.start + 1) a.by t all (omega arith) (omega arith))) over in
    let same : t + 1 + more ≡ t + suc more = omega arith in
    subst (λ u. value values (run_ended a u) ≡ true) same (stays values a more (t + 1) all (omega arith) (omega arith) next)

-- the first item is an entry that is there
pub told_entry_is : (values : List Bool) (table : Table) (train : TrainSpec) (a : CodedTrain) → IsSatisfied values table a → IsCoded table train a → IsThere values a (told_step values a) (told_entry values table a).0 × (is_entry table (told_entry values table a).0 ≡ true)
unfolding is_told_entry
told_entry_is values table train a sat coded =
    let x = told_step values a in
    let first = told_first values table train a coded in
    let waited : a.start < x → value values (waits a (x - 1)) ≡ true = λ h. first.waited (x - 1) (omega arith) (omega arith) in
    ⊎_elim
    (λ some. let (w, inside, holds) = some in
    let kept = filter_is (is_entry table) (cone a x) w inside in
    let test : is_told_entry values table a x w ≡ true = rw (kept.0, holds) refl in
    let found = first_passes (is_told_entry values table a x) (cone a x) w 0 kept.1 test in
    let both = test_true (is_entry table (told_entry values table a).0) (value values (sweep a x (told_entry values table a).0)) found.1 in
    (record { in_cone = found.0; is_true = both.1 }, both.0))
    (λ on. absurd (⊎_elim (λ e. omega (arith, on.0)) (λ f. false≢true (sym f ∙ on.1)) first.goes))
    (enter_says values table a x sat.enter first.not_before first.not_after waited)

pub told_is_told : (values : List Bool) (table : Table) (train : TrainSpec) (a : CodedTrain) → IsSatisfied values table a → IsCoded table train a → IsTold values table a (told_step values a) (told_entry values table a) (follow values table a (a.by - told_step values a) (told_step values a) (told_entry values table a))
told_is_told values table train a sat coded =
    let first = told_first values table train a coded in
    let x = told_step values a in
    let low : a.start ≤ x = first.not_before in
    let high : x ≤ a.latest = first.not_after in
    let w : a.latest ≤ a.by = coded.in_order in
    follow_told values table a (a.by - x) x (told_entry values table a) (record { go_on = sat.go_on; gone = sat.gone; last = coded.last }) (omega arith) low (told_entry_is values table train a sat coded).0

-- a stop is met from some step on
stop_says : (values : List Bool) (table : Table) (a : CodedTrain) (i : ℕ) → IsSatisfied values table a → i < length a.stops → (s : ℕ) × Contains (beginnings a (stop_at a i)) s × (value values (meets a i s) ≡ true)
unfolding stop_met_clauses stop_met
stop_says values table a i sat inside =
    sat_any values (meets a i) (beginnings a (stop_at a i)) (sat_head values (stop_met a i) [] (sat_range values (λ k. stop_met a k ∷ []) 0 (length a.stops) i sat.stop_met (omega arith) inside))

-- what is there while a stop is met stands in its station
stand_says : (values : List Bool) (table : Table) (a : CodedTrain) (i s t w : ℕ) → IsSatisfied values table a → i < length a.stops → Contains (beginnings a (stop_at a i)) s → value values (meets a i s) ≡ true → s ≤ t → t < s + (stop_at a i).dwell → IsThere values a t w → stands_in table (stop_at a i).station.0 w ≡ true
unfolding stand_clauses stands_while stands_from stands_at stand
stand_says values table a i s t w sat inside begins holds h k there =
    ⊎_elim (λ stands. stands)
    (λ not_there. let passes : not (stands_in table (stop_at a i).station.0 w) ≡ true = ap not not_there in
    absurd (sat_not_both values (meets a i s) (sweep a t w)
    (sat_head values (stand a i s t w) [] (sat_each values (λ v. stand a i s t v ∷ []) (not_standing table a i t) w
    (sat_range values (stands_at table a i s) s (s + (stop_at a i).dwell) t (sat_each values (stands_from table a i) (beginnings a (stop_at a i)) s (sat_range values (stands_while table a) 0 (length a.stops) i sat.stand (omega arith) inside) begins) h k)
    (filter_keeps (λ v. not (stands_in table (stop_at a i).station.0 v)) (cone a t) w passes there.in_cone)))
    holds there.is_true))
    (cases_Bool (stands_in table (stop_at a i).station.0 w))

-- where a stop is met from a step on, the train does not wait after it, and has not ended at its last step
no_wait : (values : List Bool) (table : Table) (a : CodedTrain) (i s : ℕ) → IsSatisfied values table a → i < length a.stops → Contains (beginnings a (stop_at a i)) s → value values (meets a i s) ≡ true → s < a.latest → value values (waits a s) ≡ true → ⊥
unfolding stop_after_entry_clauses entered_before entered
no_wait values table a i s sat inside begins holds early waiting =
    sat_not_both values (meets a i s) (waits a s) (sat_head values (entered a i s) [] (sat_each values (λ u. entered a i u ∷ []) (filter (λ u. nat_lt u a.latest) (beginnings a (stop_at a i))) s (sat_range values (entered_before a) 0 (length a.stops) i sat.stop_after_entry (omega arith) inside) (filter_keeps (λ u. nat_lt u a.latest) (beginnings a (stop_at a i)) s (lt-ltb s a.latest early) begins))) holds waiting

no_end : (values : List Bool) (table : Table) (a : CodedTrain) (i s : ℕ) → IsSatisfied values table a → i < length a.stops → Contains (beginnings a (stop_at a i)) s → value values (meets a i s) ≡ true → a.start < last_of_stop a i s → value values (run_ended a (last_of_stop a i s)) ≡ true → ⊥
unfolding stop_in_run_clauses stops_in_run stop_in_run
no_end values table a i s sat inside begins holds late over =
    sat_not_both values (meets a i s) (run_ended a (last_of_stop a i s)) (sat_head values (stop_in_run a i s) [] (sat_each values (λ u. stop_in_run a i u ∷ []) (filter (λ u. nat_lt a.start (last_of_stop a i u)) (beginnings a (stop_at a i))) s (sat_range values (stops_in_run a) 0 (length a.stops) i sat.stop_in_run (omega arith) inside) (filter_keeps (λ u. nat_lt a.start (last_of_stop a i u)) (beginnings a (stop_at a i)) s (lt-ltb a.start (last_of_stop a i s) late) begins))) holds over

le_or_lt : (m n : ℕ) → (m ≤ n) ⊎ (n < m)
le_or_lt m n = ⊎_elim (λ h. inr h) (λ h. inl h) (cases_lt n m)

-- each stop of the train is met
stop_is_met : (values : List Bool) (table : Table) (train : TrainSpec) (a : CodedTrain) (i : ℕ) → IsSatisfied values table a → IsCoded table train a → 0 < (stop_at a i).dwell → i < length a.stops → IsStopMet table (told_step values a) (told_items values table a) (stop_at a i)
unfolding IsStopMet StandsAt
stop_is_met values table train a i sat coded stands inside =
    let stop : StopSpec = stop_at a i in
    let (s, begins, holds) = stop_says values table a i sat inside in
    let (from, last) = in_range_is (max stop.from a.start) (min stop.until (a.by + 1) + 1 - stop.dwell) s begins in
    let x = told_step values a in
    let w = told_entry values table a in
    let ws = follow values table a (a.by - x) x w in
    let first = told_first values table train a coded in
    let told = told_is_told values table train a sat coded in
    let low : a.start ≤ x = first.not_before in
    let high : x ≤ a.latest = first.not_after in
    let here : x ≤ s = ⊎_elim (λ early. ⊎_elim (λ before. before) (λ after. absurd (no_wait values table a i s sat inside begins holds early (first.waited s (omega arith) after))) (le_or_lt x s)) (λ late. omega arith) (cases_lt s a.latest) in
    let long : s + stop.dwell ≤ x + length ws + 1 = ⊎_elim (λ enough. enough) (λ short. ⊎_elim
    (λ end. omega arith)
    (λ over. let more : x + length ws + 1 + (s + stop.dwell - 1 - (x + length ws + 1)) ≡ s + stop.dwell - 1 = omega arith in
    absurd (no_end values table a i s sat inside begins holds (omega arith) (subst (λ u. value values (run_ended a u) ≡ true) more (stays values a (s + stop.dwell - 1 - (x + length ws + 1)) (x + length ws + 1) sat.stay_ended (omega arith) (omega arith) over))))
    (end_told values table a x w ws told)) (le_or_lt (s + stop.dwell) (x + length ws + 1)) in (
      s,
      omega arith,
      omega arith,
      λ t h k.
          let inside_t : t - x ≤ length ws = omega arith in
          let there : IsThere values a (x + (t - x)) (get_or (w ∷ ws) (t - x) no_item).0 = there_at values table a x w ws (t - x) told inside_t in
          let now : x + (t - x) ≡ t = omega arith in (
            omega arith,
            (
              get_or (w ∷ ws) (t - x) no_item,
              slice_get-get_or (w ∷ ws) (t - x) no_item (omega arith),
              stand_says values table a i s t (get_or (w ∷ ws) (t - x) no_item).0 sat inside begins holds h k (subst (λ u. IsThere values a u (get_or (w ∷ ws) (t - x) no_item).0) now there),
            ),
          ),
    )

all_stops_met : (values : List Bool) (table : Table) (train : TrainSpec) (a : CodedTrain) → IsSatisfied values table a → IsCoded table train a → All (IsStopMet table (told_step values a) (told_items values table a)) a.stops
all_stops_met values table train a sat coded k d within =
    subst (IsStopMet table (told_step values a) (told_items values table a)) (get_or_default a.stops k no_stop d within)
    (stop_is_met values table train a k sat coded (coded.dwell k no_stop within) within)

-- the theorem
pub told_is_chain : (values : List Bool) (table : Table) (train : TrainSpec) (a : CodedTrain) → IsSatisfied values table a → IsCoded table train a → IsChain table train (told_step values a) (told_items values table a)
told_is_chain values table train a sat coded =
    let x = told_step values a in
    let w = told_entry values table a in
    let ws = follow values table a (a.by - x) x w in
    let first = told_first values table train a coded in
    let told = told_is_told values table train a sat coded in
    let low : a.start ≤ x = first.not_before in
    let high : x ≤ a.latest = first.not_after in
    let starts : a.start ≡ train.start = coded.start in
    let ends : a.latest ≡ train.latest = coded.latest in
    let final : a.by ≡ train.by = coded.by in
    let window : a.latest ≤ a.by = coded.in_order in
    let short : length ws ≤ a.by - x = follow_short values table a (a.by - x) x w in
    let place : length (w ∷ ws) - 1 ≡ length ws = omega arith in
    record {
      not_early = omega arith;
      not_late = omega arith;
      first = w;
      is_first = refl;
      enters = (told_entry_is values table train a sat coded).1;
      goes_on = links values table a x w ws told;
      last = get_or (w ∷ ws) (length ws) no_item;
      is_last = rw place (slice_get-get_or (w ∷ ws) (length ws) no_item (omega arith));
      arrives = last_goal values table a x w ws told;
      in_time = omega arith;
      stops = subst (All (IsStopMet table x (w ∷ ws))) coded.stops (all_stops_met values table train a sat coded);
    }
