-- Steps of the loops that make the numbers of trains, and that what is made is kept.
use Rattle.std.proofs.Common.{◌≡◌, ℕ, zero, suc, ◌+◌, ◌-◌, ◌*◌, ◌<◌, ◌≤◌, ◌^◌, List, [], ◌∷◌, ◌++◌, length, take, get_or, map, refl, sym, ap, ◌∙◌, subst, arith}
use Rattle.std.specs.Prelude.{All, Some, slice_get}
use Rattle.std.specs.List.{sum_by}
use Rattle.std.proofs.lemmas.List.{get_or-map, length-map}
use Rattle.std.proofs.lemmas.List.Sums.{sum_by_more}
use Rattle.cell_net.specs.declared.parts.InstanceParts.{InstanceParts}
use Rattle.cell_net.specs.declared.trains.StopSpec.{StopSpec}
use Rattle.cell_net.specs.declared.trains.TrainSpec.{TrainSpec}
use Rattle.sweep_table.specs.Tables.{Table}
use Rattle.std.proofs.lemmas.List.Kept.{AllPairs-filter}
use Rattle.std.proofs.lemmas.Option.{get_or_from_slice_get}
use Rattle.clause_list.specs.Ranges.{below, from_below}
use Rattle.clause_list.specs.Cones.{ahead, home, is_in_both, cone_at, cones_of}
use Rattle.clause_list.specs.WholeList.{no_table}
use Rattle.clause_list.specs.Numbers.{CodedTrain, behind_train, first_touch, first_ended, first_met, first_waits}
use Rattle.clause_list.specs.Coding.{coded, coded_from, behind_all}
use Rattle.clause_list.proofs.ListLaws.{length-below, at_below, range_rises}
use Rattle.clause_encoder.specs.TrainStore.{IsRising, IsTrainStore, beginning_count, step_number, stop_number}
use Rattle.clause_encoder.specs.TrainFaults.{IsNumberFault}
use Rattle.clause_encoder.specs.declared.build.NumberFault.{NumberFault}
use Rattle.clause_encoder.specs.declared.build.NumberFault.TheVariants.{TooMany, Memory}

-- one stop more
pub stops_more : (start by first : ℕ) (stops slice : List StopSpec) (i next count : ℕ) (d : StopSpec) → slice ≡ stops → next ≡ first + sum_by (beginning_count start by) (take i stops) → i < length stops → count ≡ beginning_count start by (get_or slice i d) → next + count ≡ first + sum_by (beginning_count start by) (take (i + 1) stops)
stops_more start by first stops slice i next count d same before within this =
    let more : sum_by (beginning_count start by) (take (i + 1) stops) ≡ sum_by (beginning_count start by) (take i stops) + beginning_count start by (get_or stops i d) = sum_by_more (beginning_count start by) stops i d within in
    let at : count ≡ beginning_count start by (get_or stops i d) = this ∙ ap (λ xs. beginning_count start by (get_or xs i d)) same in
    omega (arith, before, more, at)

-- the numbers that were made, by their places
at_number : (of : ℕ → ℕ) (n k d : ℕ) (numbers : List ℕ) → numbers ≡ map of (from_below 0 n) → k < n → get_or numbers k d ≡ of k
at_number of n k d numbers same within =
    ap (λ xs. get_or xs k d) same ∙ get_or-map of (from_below 0 n) k 0 d (omega (arith, length-below n)) ∙ ap of (at_below n k 0 within)

numbers_length : (of : ℕ → ℕ) (n : ℕ) (numbers : List ℕ) → numbers ≡ map of (from_below 0 n) → length numbers ≡ n
numbers_length of n numbers same = ap length same ∙ length-map (from_below 0 n) of ∙ length-below n

-- a train whose numbers are made is kept
pub train_stored : (start latest by last cells first : ℕ) (stops copy : List StopSpec) (cones : List (List ℕ)) (of_steps of_stops : List ℕ) (touches endings waiting behind : ℕ) →
    start ≤ latest → latest ≤ by → by < 400 → last ≡ by - start → copy ≡ stops → length cones ≡ by + 1 - start → All IsRising cones →
    of_steps ≡ map (step_number first cones) (from_below 0 (length cones)) → touches ≡ first + sum_by length cones → endings ≡ touches + (last + 1) * cells →
    of_stops ≡ map (stop_number start by (endings + last) stops) (from_below 0 (length stops)) → waiting ≡ endings + last + sum_by (beginning_count start by) stops → behind ≡ waiting + (latest - start) → behind < 2 ^ 32 →
    IsTrainStore (record { start = start; latest = latest; by = by; stops = copy; cones = cones; cells = cells; first = first }) of_steps of_stops touches endings waiting behind
train_stored start latest by last cells first stops copy cones of_steps of_stops touches endings waiting behind window order time is_last same for_each rising steps touched ended stopped waited end few =
    let a : CodedTrain = record { start = start; latest = latest; by = by; stops = copy; cones = cones; cells = cells; first = first } in
    let one : last + 1 ≡ by + 1 - start = omega arith in
    let touch_is : touches ≡ first_touch a = touched in
    let end_is : endings ≡ first_ended a = ended ∙ ap (λ n. touches + n * cells) one ∙ ap (λ n. n + (by + 1 - start) * cells) touched in
    let met_is : endings + last ≡ first_met a = ap (λ n. n + last) end_is ∙ ap (λ n. first_ended a + n) is_last in
    let wait_is : waiting ≡ first_waits a = waited ∙ ap (λ n. n + sum_by (beginning_count start by) stops) met_is ∙ ap (λ xs. first_met a + sum_by (beginning_count start by) xs) (sym same) in
    let behind_is : behind ≡ behind_train a = end ∙ ap (λ n. n + (latest - start)) wait_is in
    let stops_are : of_stops ≡ map (stop_number start by (first_met a) copy) (from_below 0 (length copy)) = stopped ∙ ap (λ n. map (stop_number start by n stops) (from_below 0 (length stops))) met_is ∙ ap (λ xs. map (stop_number start by (first_met a) xs) (from_below 0 (length xs))) (sym same) in
    record {
      kept = record { window = window; in_order = order; few_steps = time; for_each_step = for_each; rising = rising; few = subst (λ n. n < 2 ^ 32) behind_is few };
      step_for_each = numbers_length (step_number first cones) (length cones) of_steps steps;
      steps_are = λ k d within. at_number (step_number first cones) (length cones) k d of_steps steps within;
      stop_for_each = numbers_length (stop_number start by (first_met a) copy) (length copy) of_stops stops_are;
      stops_are = λ i d within. at_number (stop_number start by (first_met a) copy) (length copy) i d of_stops stops_are within;
      touches_are = touch_is;
      endings_are = end_is;
      waiting_is = wait_is;
      behind_is = behind_is;
    }

-- one train more
pub coded_more : (p : InstanceParts) (first : ℕ) (tables : List Table) (trains : List TrainSpec) (i : ℕ) (t : Table) (r : TrainSpec) → i < length tables → i < length trains → coded_from p first (take (i + 1) tables) (take (i + 1) trains) ≡ coded_from p first (take i tables) (take i trains) ++ coded p (behind_all first (coded_from p first (take i tables) (take i trains))) (get_or tables i t) (get_or trains i r) ∷ []
coded_more p first [] trains i t r h k = absurd (omega arith)
coded_more p first (table ∷ tables) [] i t r h k = absurd (omega arith)
coded_more p first (table ∷ tables) (train ∷ trains) zero t r h k = refl
coded_more p first (table ∷ tables) (train ∷ trains) (suc i) t r h k = let number : suc i + 1 ≡ suc (i + 1) = omega arith in rw number (ap (λ xs. coded p first table train ∷ xs) (coded_more p (behind_train (coded p first table train)) tables trains i t r (omega arith) (omega arith)))

behind_more : (first : ℕ) (trains : List CodedTrain) (a : CodedTrain) → behind_all first (trains ++ a ∷ []) ≡ behind_train a
behind_more first [] a = refl
behind_more first (b ∷ trains) a = behind_more (behind_train b) trains a

-- the numbers of the first trains are below those of all
pub front_le : (p : InstanceParts) (first : ℕ) (tables : List Table) (trains : List TrainSpec) (i : ℕ) → behind_all first (coded_from p first (take i tables) (take i trains)) ≤ behind_all first (coded_from p first tables trains)
front_le p first [] trains zero = omega arith
front_le p first [] trains (suc i) = omega arith
front_le p first (table ∷ tables) [] zero = omega arith
front_le p first (table ∷ tables) [] (suc i) = omega arith
front_le p first (table ∷ tables) (train ∷ trains) zero = let others : behind_train (coded p first table train) ≤ behind_all (behind_train (coded p first table train)) (coded_from p (behind_train (coded p first table train)) tables trains) = front_le p (behind_train (coded p first table train)) tables trains zero in omega arith
front_le p first (table ∷ tables) (train ∷ trains) (suc i) = front_le p (behind_train (coded p first table train)) tables trains i

-- what one train more gives
pub train_more : (p : InstanceParts) (first : ℕ) (tables : List Table) (trains : List TrainSpec) (i next : ℕ) (done : List CodedTrain) (t : Table) (r : TrainSpec) → done ≡ coded_from p first (take i tables) (take i trains) → next ≡ behind_all first done → t ≡ get_or tables i no_table → slice_get trains i ≡ Some r → i < length tables → i < length trains →
    (done ++ coded p next t r ∷ [] ≡ coded_from p first (take (i + 1) tables) (take (i + 1) trains)) × (behind_train (coded p next t r) ≡ behind_all first (done ++ coded p next t r ∷ [])) × (behind_train (coded p next t r) ≤ behind_all first (coded_from p first tables trains))
train_more p first tables trains i next done t r front last at of within inside =
    let spec : r ≡ get_or trains i r = sym (get_or_from_slice_get trains i r r of) in
    let from : next ≡ behind_all first (coded_from p first (take i tables) (take i trains)) = last ∙ ap (behind_all first) front in
    let this : coded p next t r ≡ coded p (behind_all first (coded_from p first (take i tables) (take i trains))) (get_or tables i no_table) (get_or trains i r) = ap (λ n. coded p n t r) from ∙ ap (λ table. coded p (behind_all first (coded_from p first (take i tables) (take i trains))) table r) at ∙ ap (λ spec. coded p (behind_all first (coded_from p first (take i tables) (take i trains))) (get_or tables i no_table) spec) spec in
    let whole : done ++ coded p next t r ∷ [] ≡ coded_from p first (take (i + 1) tables) (take (i + 1) trains) = ap (λ xs. xs ++ coded p next t r ∷ []) front ∙ ap (λ a. coded_from p first (take i tables) (take i trains) ++ a ∷ []) this ∙ sym (coded_more p first tables trains i no_table r within inside) in
    let end : behind_train (coded p next t r) ≡ behind_all first (done ++ coded p next t r ∷ []) = sym (behind_more first done (coded p next t r)) in
    (whole, end, subst (λ n. n ≤ behind_all first (coded_from p first tables trains)) (sym (end ∙ ap (behind_all first) whole)) (front_le p first tables trains (i + 1)))

pub fault_more : (fault : NumberFault) (small great : ℕ) → small ≤ great → IsNumberFault small fault → IsNumberFault great fault
fault_more TooMany small great le many = omega arith
fault_more Memory small great le many = tt

-- the cones of a train rise, and there is one for each step
cone_rises : (table : Table) (window last k : ℕ) → IsRising (cone_at table window last k)
unfolding cone_at
cone_rises table window last k = AllPairs-filter (λ x y. x < y) (is_in_both (ahead table window k) (home table (last - k))) (below (length table.cells)) (range_rises 0 (length table.cells))

pub cone_count : (table : Table) (window last : ℕ) (cones : List (List ℕ)) → cones ≡ cones_of table window last → length cones ≡ last + 1
cone_count table window last cones same = ap length same ∙ length-map (below (last + 1)) (cone_at table window last) ∙ length-below (last + 1)

pub cones_rise : (table : Table) (window last : ℕ) (cones : List (List ℕ)) → cones ≡ cones_of table window last → All IsRising cones
cones_rise table window last cones same k d within =
    let size : length cones ≡ last + 1 = cone_count table window last cones same in
    subst IsRising (sym (ap (λ cs. get_or cs k d) same ∙ get_or-map (cone_at table window last) (below (last + 1)) k 0 d (omega (arith, length-below (last + 1))))) (cone_rises table window last (get_or (below (last + 1)) k 0))

-- numbers that begin at 1 or more end there
pub one_le : (p : InstanceParts) (first : ℕ) (table : Table) (train : TrainSpec) → 1 ≤ first → 1 ≤ behind_train (coded p first table train)
one_le p first table train one = omega arith
