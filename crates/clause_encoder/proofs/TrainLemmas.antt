-- Laws of the numbers of a train's variables, and of a search in a rising list.
use Rattle.std.proofs.Common.{◌≡◌, ◌≢◌, ℕ, suc, ◌+◌, ◌-◌, ◌*◌, ◌<◌, ◌≤◌, ◌^◌, false, List, [], ◌∷◌, length, take, get_or, min, max, refl, sym, ap, ◌∙◌, subst, ⊎_elim, arith}
use Rattle.std.specs.Prelude.{nat_eq, slice_index_or}
use Rattle.std.specs.List.{sum_by, position_or_len, list_any}
use Rattle.std.proofs.lemmas.List.Sums.{sum_by_more_le, position_or_len_is}
use Rattle.std.proofs.lemmas.Bool.{eq-eqb, cases_lt}
use Rattle.std.proofs.lemmas.Bool.Decides.{eqb_tells}
use Rattle.std.proofs.Math.Nat.{mul-le-mul_right}
use Rattle.clause_list.specs.Numbers.{CodedTrain, cone, sweep, touch, beginnings, first_ended, first_waits, behind_train}
use Rattle.clause_list.specs.StopClauses.{stop_at, no_stop}
use Rattle.clause_list.proofs.ListLaws.{length-from_below}
use Rattle.clause_encoder.specs.TrainStore.{IsRising, IsKeptTrain, IsTrainStore, IsSearched, first_of_step, first_of_stop}

-- in a rising list an item stands first at its place
place_is : (xs : List ℕ) (place : ℕ) → IsRising xs → place < length xs → position_or_len (nat_eq (get_or xs place 0)) xs ≡ place
place_is xs place rises within =
    position_or_len_is (nat_eq (get_or xs place 0)) xs place 0 (omega arith)
    (λ k below. ⊎_elim (λ h. absurd (let lower : get_or xs k 0 < get_or xs place 0 = rises k place 0 below within in omega (arith, h.1))) (λ h. h.0) (eqb_tells (get_or xs place 0) (get_or xs k 0)))
    (λ w. eq-eqb (get_or xs place 0) (get_or xs place 0) refl)

-- the step of a train has a place among its cones
pub step_place : (a : CodedTrain) (t : ℕ) → IsKeptTrain a → a.start ≤ t → t ≤ a.by → t - a.start < length a.cones
step_place a t kept after before = let steps : length a.cones ≡ a.by + 1 - a.start = kept.for_each_step in omega arith

pub cone_rises : (a : CodedTrain) (t : ℕ) → IsKeptTrain a → a.start ≤ t → t ≤ a.by → IsRising (cone a t)
cone_rises a t kept after before = kept.rising (t - a.start) [] (step_place a t kept after before)

-- the number of the item with that place in the cone of a step, and its bound
pub sweep_is : (a : CodedTrain) (t place : ℕ) → IsKeptTrain a → a.start ≤ t → t ≤ a.by → place < length (cone a t) → (first_of_step a (t - a.start) + place ≡ sweep a t (get_or (cone a t) place 0)) × (first_of_step a (t - a.start) + place < 2 ^ 32)
sweep_is a t place kept after before within =
    let k_within : t - a.start < length a.cones = step_place a t kept after before in
    let at : position_or_len (nat_eq (get_or (cone a t) place 0)) (cone a t) ≡ place = place_is (cone a t) place (cone_rises a t kept after before) within in
    let total : sum_by length (take (t - a.start) a.cones) + length (cone a t) ≤ sum_by length a.cones = sum_by_more_le length a.cones (t - a.start) [] k_within in
    let few : behind_train a < 2 ^ 32 = kept.few in
    (omega arith, omega arith)

-- a touched cell's number is below the numbers of ending
pub touch_few : (a : CodedTrain) (t e : ℕ) → IsKeptTrain a → a.start ≤ t → t ≤ a.by → e < a.cells → touch a t e < first_ended a
touch_few a t e kept after before few =
    let row : (t - a.start + 1) * a.cells ≤ (a.by + 1 - a.start) * a.cells = mul-le-mul_right a.cells (omega arith) in
    let split : (t - a.start + 1) * a.cells ≡ (t - a.start) * a.cells + a.cells = omega arith in
    omega arith

-- the numbers of a kind are below those of the next
pub firsts_rise : (a : CodedTrain) → IsKeptTrain a → (first_ended a ≤ behind_train a) × (first_waits a ≤ behind_train a) × (behind_train a < 2 ^ 32)
firsts_rise a kept = (omega arith, omega arith, kept.few)

-- the number of a beginning of a stop is below those of the next stop
pub met_few : (a : CodedTrain) (i s : ℕ) → i < length a.stops → max (stop_at a i).from a.start ≤ s → s < min (stop_at a i).until (a.by + 1) + 1 - (stop_at a i).dwell → first_of_stop a i + (s - max (stop_at a i).from a.start) < first_waits a
met_few a i s within after before =
    let total : sum_by (λ other. length (beginnings a other)) (take i a.stops) + length (beginnings a (get_or a.stops i no_stop)) ≤ sum_by (λ stop. length (beginnings a stop)) a.stops = sum_by_more_le (λ other. length (beginnings a other)) a.stops i no_stop within in
    let size : length (beginnings a (stop_at a i)) ≡ min (stop_at a i).until (a.by + 1) + 1 - (stop_at a i).dwell - max (stop_at a i).from a.start = length-from_below (max (stop_at a i).from a.start) (min (stop_at a i).until (a.by + 1) + 1 - (stop_at a i).dwell) in
    omega arith

-- an item that a search does not find is not there
missing : (xs : List ℕ) (item : ℕ) → ((k : ℕ) → k < length xs → get_or xs k 0 ≢ item) → list_any (nat_eq item) xs ≡ false
missing [] item none = refl
missing (x ∷ xs) item none =
    ⊎_elim (λ h. absurd (none 0 (omega arith) (sym h.1)))
    (λ h. rw h.0 (missing xs item (λ k within same. none (suc k) (omega arith) same)))
    (eqb_tells item x)

-- what a search that finds nothing says
pub searched_none : (xs : List ℕ) (item low high : ℕ) → IsRising xs → IsSearched xs item low high → high ≤ low → (low < length xs → get_or xs low 0 ≢ item) → list_any (nat_eq item) xs ≡ false
searched_none xs item low high rises searched end other =
    missing xs item (λ k within same. ⊎_elim
    (λ before. let h : get_or xs k 0 < item = searched.below k before in omega arith)
    (λ past. ⊎_elim
    (λ e. other (omega arith) (let at : get_or xs low 0 ≡ get_or xs k 0 = ap (λ i. get_or xs i 0) e.1 in at ∙ same))
    (λ n. let ne : low ≢ k = n.1 in let at : item ≤ get_or xs low 0 = searched.above low end (omega arith) in let more : get_or xs low 0 < get_or xs k 0 = rises low k 0 (omega arith) within in omega arith)
    (eqb_tells low k))
    (cases_lt k low))

-- what is stored for a step and for a stop, where the stored train is seen as a
pub stored_step : (v a : CodedTrain) (of_steps of_stops : List ℕ) (touches endings waiting behind t d : ℕ) → v ≡ a → IsTrainStore v of_steps of_stops touches endings waiting behind → a.start ≤ t → t ≤ a.by → slice_index_or of_steps (t - v.start) d ≡ first_of_step a (t - a.start)
stored_step v a of_steps of_stops touches endings waiting behind t d same given after before =
    let store : IsTrainStore a of_steps of_stops touches endings waiting behind = subst (λ x. IsTrainStore x of_steps of_stops touches endings waiting behind) same given in
    let start : v.start ≡ a.start = ap (λ x. x.start) same in
    ap (λ s. slice_index_or of_steps (t - s) d) start ∙ store.steps_are (t - a.start) d (step_place a t store.kept after before)

pub stored_stop : (v a : CodedTrain) (of_steps of_stops : List ℕ) (touches endings waiting behind i d : ℕ) → v ≡ a → IsTrainStore v of_steps of_stops touches endings waiting behind → i < length a.stops → slice_index_or of_stops i d ≡ first_of_stop a i
stored_stop v a of_steps of_stops touches endings waiting behind i d same given within =
    let store : IsTrainStore a of_steps of_stops touches endings waiting behind = subst (λ x. IsTrainStore x of_steps of_stops touches endings waiting behind) same given in
    store.stops_are i d within

pub kept_is : (v a : CodedTrain) (of_steps of_stops : List ℕ) (touches endings waiting behind : ℕ) → v ≡ a → IsTrainStore v of_steps of_stops touches endings waiting behind → IsKeptTrain a
kept_is v a of_steps of_stops touches endings waiting behind same given =
    let store : IsTrainStore a of_steps of_stops touches endings waiting behind = subst (λ x. IsTrainStore x of_steps of_stops touches endings waiting behind) same given in
    store.kept
