-- The variables of a task differ.
use Rattle.std.proofs.Common.{◌≡◌, ℕ, zero, suc, ◌+◌, ◌-◌, ◌*◌, ◌<◌, ◌≤◌, List, [], length, get_or, take, sym, ap, ◌∙◌, subst, ⊎_elim, arith}
use Rattle.std.specs.Prelude.{Contains, nat_eq, max}
use Rattle.std.specs.List.{sum_by, position_or_len}
use Rattle.std.proofs.lemmas.Bool.{cases_lt}
use Rattle.std.proofs.lemmas.List.Sums.{sum_by_more}
use Rattle.std.proofs.Math.Nat.{mul-le-mul_right}
use Rattle.clause_list.specs.Numbers.{CodedTrain, Network, cone, above, gap, sweep, touch, beginnings}
use Rattle.clause_list.specs.StopClauses.{stop_at, meets, no_stop}
use Rattle.clause_list.specs.Orders.{IsNumbered, AreAllNumbered, first_gap}
use Rattle.clause_list.specs.WholeList.{train_at}
use Rattle.clause_list.specs.Differing.{BordersDiffer, TrainDiffers, VariablesDiffer}
use Rattle.sweep_table.specs.Tables.{Table}
use Rattle.clause_list.proofs.ListLaws.{first_place}
use Rattle.clause_list.proofs.NumberLaws.{sweep_bounds, touch_bounds, ended_bounds, met_bounds, waits_bounds, gap_bounds, beginning_is}
use Rattle.clause_list.proofs.SectionLaws.{next_gap}

-- items with one place in a list are one
one_place : (xs : List ℕ) (v w : ℕ) → Contains xs v → Contains xs w → position_or_len (nat_eq v) xs ≡ position_or_len (nat_eq w) xs → v ≡ w
one_place xs v w one other same = sym (first_place xs v one).1 ∙ (ap (λ k. get_or xs k 0) same ∙ (first_place xs w other).1)

-- sums of fronts rise with their lengths
sums_rise : {X : Type 0} (f : X → ℕ) (xs : List X) (d : X) (i more : ℕ) → i + more ≤ length xs → sum_by f (take i xs) ≤ sum_by f (take (i + more) xs)
sums_rise f xs d i zero within = let same : i ≡ i + 0 = omega arith in let e : sum_by f (take i xs) ≡ sum_by f (take (i + 0) xs) = ap (λ k. sum_by f (take k xs)) same in omega arith
sums_rise f xs d i (suc more) within =
    let front : sum_by f (take i xs) ≤ sum_by f (take (i + more) xs) = sums_rise f xs d i more (omega arith) in
    let step : sum_by f (take (i + more + 1) xs) ≡ sum_by f (take (i + more) xs) + f (get_or xs (i + more) d) = sum_by_more f xs (i + more) d (omega arith) in
    let number : sum_by f (take (i + more + 1) xs) ≡ sum_by f (take (i + suc more) xs) = ap (λ k. sum_by f (take k xs)) (omega arith) in
    omega arith

sums_before : {X : Type 0} (f : X → ℕ) (xs : List X) (d : X) (i j : ℕ) → i < j → j ≤ length xs → sum_by f (take i xs) + f (get_or xs i d) ≤ sum_by f (take j xs)
sums_before f xs d i j less within =
    let step : sum_by f (take (i + 1) xs) ≡ sum_by f (take i xs) + f (get_or xs i d) = sum_by_more f xs i d (omega arith) in
    let rest : sum_by f (take (i + 1) xs) ≤ sum_by f (take (i + 1 + (j - (i + 1))) xs) = sums_rise f xs d (i + 1) (j - (i + 1)) (omega arith) in
    let number : sum_by f (take (i + 1 + (j - (i + 1))) xs) ≡ sum_by f (take j xs) = ap (λ k. sum_by f (take k xs)) (omega arith) in
    omega arith

earlier_sweeps : (vars : ℕ) (a : CodedTrain) (t u v w : ℕ) → IsNumbered vars a → a.start ≤ t → t < u → u ≤ a.by → Contains (cone a t) v → Contains (cone a u) w → sweep a t v < sweep a u w
earlier_sweeps vars a t u v w numbered h less k one other =
    let count : length a.cones ≡ a.by + 1 - a.start = numbered.for_each_step in
    let place : position_or_len (nat_eq v) (cone a t) < length (cone a t) = (first_place (cone a t) v one).0 in
    let before : sum_by length (take (t - a.start) a.cones) + length (cone a t) ≤ sum_by length (take (u - a.start) a.cones) = sums_before length a.cones [] (t - a.start) (u - a.start) (omega arith) (omega arith) in
    omega arith

sweeps_are_one : (vars : ℕ) (a : CodedTrain) (t u v w : ℕ) → IsNumbered vars a → a.start ≤ t → t ≤ a.by → a.start ≤ u → u ≤ a.by → Contains (cone a t) v → Contains (cone a u) w → sweep a t v ≡ sweep a u w → (t ≡ u) × (v ≡ w)
sweeps_are_one vars a t u v w numbered h k m n one other same = ⊎_elim
    (λ less. let order : sweep a t v < sweep a u w = earlier_sweeps vars a t u v w numbered h less n one other in absurd (omega arith))
    (λ past. ⊎_elim
    (λ more. let order : sweep a u w < sweep a t v = earlier_sweeps vars a u t w v numbered m more k other one in absurd (omega arith))
    (λ here.
    let step : t ≡ u = omega arith in
    let inside : Contains (cone a t) w = subst (λ s. Contains (cone a s) w) (sym step) other in
    let alike : sweep a u w ≡ sweep a t w = ap (λ s. sweep a s w) (sym step) in
    let places : position_or_len (nat_eq v) (cone a t) ≡ position_or_len (nat_eq w) (cone a t) = omega arith in
    (step, one_place (cone a t) v w one inside places))
    (cases_lt u t))
    (cases_lt t u)

earlier_touches : (a : CodedTrain) (t u e f : ℕ) → a.start ≤ t → t < u → e < a.cells → touch a t e < touch a u f
earlier_touches a t u e f h less few =
    let rows : (t - a.start + 1) * a.cells ≤ (u - a.start) * a.cells = mul-le-mul_right a.cells (omega arith) in
    let split : (t - a.start + 1) * a.cells ≡ (t - a.start) * a.cells + a.cells = omega arith in
    omega arith

touches_are_one : (a : CodedTrain) (t u e f : ℕ) → a.start ≤ t → a.start ≤ u → e < a.cells → f < a.cells → touch a t e ≡ touch a u f → (t ≡ u) × (e ≡ f)
touches_are_one a t u e f h m few few_too same = ⊎_elim
    (λ less. let order : touch a t e < touch a u f = earlier_touches a t u e f h less few in absurd (omega arith))
    (λ past. ⊎_elim
    (λ more. let order : touch a u f < touch a t e = earlier_touches a u t f e m more few_too in absurd (omega arith))
    (λ here. let step : t ≡ u = omega arith in let alike : touch a u f ≡ touch a t f = ap (λ s. touch a s f) (sym step) in (step, omega arith))
    (cases_lt u t))
    (cases_lt t u)

earlier_mets : (a : CodedTrain) (i j s u : ℕ) → i < j → j < length a.stops → Contains (beginnings a (stop_at a i)) s → Contains (beginnings a (stop_at a j)) u → meets a i s < meets a j u
earlier_mets a i j s u less within one other =
    let before : sum_by (λ stop. length (beginnings a stop)) (take i a.stops) + length (beginnings a (stop_at a i)) ≤ sum_by (λ stop. length (beginnings a stop)) (take j a.stops) = sums_before (λ stop. length (beginnings a stop)) a.stops no_stop i j less (omega arith) in
    let (first, start, from, by, until, place) = beginning_is a (stop_at a i) s one in
    omega arith

mets_are_one : (a : CodedTrain) (i j s u : ℕ) → i < length a.stops → j < length a.stops → Contains (beginnings a (stop_at a i)) s → Contains (beginnings a (stop_at a j)) u → meets a i s ≡ meets a j u → (i ≡ j) × (s ≡ u)
mets_are_one a i j s u within within_too one other same = ⊎_elim
    (λ less. let order : meets a i s < meets a j u = earlier_mets a i j s u less within_too one other in absurd (omega arith))
    (λ past. ⊎_elim
    (λ more. let order : meets a j u < meets a i s = earlier_mets a j i u s more within other one in absurd (omega arith))
    (λ here.
    let stop : i ≡ j = omega arith in
    let inside : Contains (beginnings a (stop_at a i)) u = subst (λ k. Contains (beginnings a (stop_at a k)) u) (sym stop) other in
    let alike : meets a j u ≡ meets a i u = ap (λ k. meets a k u) (sym stop) in
    let from : max (stop_at a i).from a.start ≤ s = (beginning_is a (stop_at a i) s one).0 in
    let from_too : max (stop_at a i).from a.start ≤ u = (beginning_is a (stop_at a i) u inside).0 in
    (stop, omega arith))
    (cases_lt j i))
    (cases_lt i j)

-- the gaps of a cell come before those of a higher one
gaps_rise : (net : Network) (e more : ℕ) → e + more ≤ length net.sections → first_gap net e ≤ first_gap net (e + more)
gaps_rise net e zero within = let same : first_gap net e ≡ first_gap net (e + 0) = ap (first_gap net) (omega arith) in omega arith
gaps_rise net e (suc more) within =
    let front : first_gap net e ≤ first_gap net (e + more) = gaps_rise net e more (omega arith) in
    let step : first_gap net (e + more + 1) ≡ first_gap net (e + more) + length (above net (e + more)) = next_gap net (e + more) (omega arith) in
    let number : first_gap net (e + more + 1) ≡ first_gap net (e + suc more) = ap (first_gap net) (omega arith) in
    omega arith

lower_gaps : (net : Network) (d e f g : ℕ) → d < e → e < length net.sections → Contains (above net d) f → Contains (above net e) g → gap net d f < gap net e g
lower_gaps net d e f g less within one other =
    let place : position_or_len (nat_eq f) (above net d) < length (above net d) = (first_place (above net d) f one).0 in
    let step : first_gap net (d + 1) ≡ first_gap net d + length (above net d) = next_gap net d (omega arith) in
    let rest : first_gap net (d + 1) ≤ first_gap net (d + 1 + (e - (d + 1))) = gaps_rise net (d + 1) (e - (d + 1)) (omega arith) in
    let number : first_gap net (d + 1 + (e - (d + 1))) ≡ first_gap net e = ap (first_gap net) (omega arith) in
    omega arith

gaps_are_one : (net : Network) (d e f g : ℕ) → d < length net.sections → e < length net.sections → Contains (above net d) f → Contains (above net e) g → gap net d f ≡ gap net e g → (d ≡ e) × (f ≡ g)
gaps_are_one net d e f g within within_too one other same = ⊎_elim
    (λ less. let order : gap net d f < gap net e g = lower_gaps net d e f g less within_too one other in absurd (omega arith))
    (λ past. ⊎_elim
    (λ more. let order : gap net e g < gap net d f = lower_gaps net e d g f more within other one in absurd (omega arith))
    (λ here.
    let cell : d ≡ e = omega arith in
    let inside : Contains (above net d) g = subst (λ c. Contains (above net c) g) (sym cell) other in
    let alike : gap net e g ≡ gap net d g = ap (λ c. gap net c g) (sym cell) in
    (cell, one_place (above net d) f g one inside (omega arith)))
    (cases_lt e d))
    (cases_lt d e)

pub train_differs : (vars : ℕ) (a : CodedTrain) → IsNumbered vars a → TrainDiffers a
train_differs vars a numbered = record {
  sweeps = λ t w h k inside. let (from, end, least, most) = sweep_bounds vars a t w numbered h k inside in (least, most);
  touches = λ t e h k few. touch_bounds a t e h k few;
  ends = λ t h k. ended_bounds a t h k;
  mets = λ i s within inside. met_bounds a i s within inside;
  waiting = λ t h k. waits_bounds a t h k;
  sweeps_differ = λ t u v w h k m n one other same. sweeps_are_one vars a t u v w numbered h k m n one other same;
  touches_differ = λ t u e f h k m n few few_too same. touches_are_one a t u e f h m few few_too same;
  ends_differ = λ t u h k same. omega arith;
  mets_differ = λ i j s u within within_too one other same. mets_are_one a i j s u within within_too one other same;
  waiting_differs = λ t u h k same. omega arith;
}

pub borders_differ : (net : Network) → BordersDiffer net
borders_differ net = record {
  borders = λ c within. (omega arith, omega arith);
  gaps = λ e f within inside. let (low, high) = gap_bounds net e f within inside in (omega arith, high);
  borders_differ = λ b c same. omega arith;
  gaps_differ = λ d e f g within within_too one other same. gaps_are_one net d e f g within within_too one other same;
}

pub variables_differ : (vars : ℕ) (net : Network) (tables : List Table) (trains : List CodedTrain) → AreAllNumbered vars net tables trains → VariablesDiffer vars net trains
variables_differ vars net tables trains numbered = record {
  network = borders_differ net;
  of_train = λ i within. train_differs vars (train_at trains i) (numbered.each i within);
  behind_network = numbered.behind_borders;
  behind_others = numbered.behind_others;
  within = λ i within. (numbered.each i within).within;
  borders_within = numbered.borders;
}
