-- The clauses of stops, beginning by beginning and item by item, without leaving any out.
use Rattle.std.proofs.Common.{◌≡◌, ℕ, Bool, true, false, cond, List, [], ◌∷◌, filter, refl, ap}
use Rattle.std.specs.Prelude.{nat_lt, not}
use Rattle.std.specs.List.{flat_map}
use Rattle.sat_core.specs.declared.literal.Lit.{Lit}
use Rattle.sweep_table.specs.Tables.{Table, stands_in}
use Rattle.clause_list.specs.Ranges.{from_below}
use Rattle.clause_list.specs.Numbers.{CodedTrain, cone}
use Rattle.clause_list.specs.StopClauses.{stop_at, last_of_stop, stop_in_run, stops_in_run, entered, entered_before, stand, stands_at}
use Rattle.clause_encoder.specs.Meeting.{first_beginning, end_of_beginnings, in_run_at, entered_at, stand_at}

each_step : {X : Type 0} (passes : X → Bool) (of : X → List Lit) (x : X) (xs : List X) (b : Bool) → passes x ≡ b → flat_map (λ y. cond (passes y) (of y ∷ []) []) xs ≡ flat_map (λ y. of y ∷ []) (filter passes xs) → flat_map (λ y. cond (passes y) (of y ∷ []) []) (x ∷ xs) ≡ flat_map (λ y. of y ∷ []) (filter passes (x ∷ xs))
each_step passes of x xs true same rest = rw same (ap (λ ys. of x ∷ ys) rest)
each_step passes of x xs false same rest = rw same rest

-- what is written for those that pass, written for each as it passes
filter_each : {X : Type 0} (passes : X → Bool) (of : X → List Lit) (xs : List X) → flat_map (λ x. cond (passes x) (of x ∷ []) []) xs ≡ flat_map (λ x. of x ∷ []) (filter passes xs)
filter_each passes of [] = refl
filter_each passes of (x ∷ xs) = each_step passes of x xs (passes x) refl (filter_each passes of xs)

pub in_run_range : (a : CodedTrain) (i first end : ℕ) → first ≡ first_beginning a (stop_at a i) → end ≡ end_of_beginnings a (stop_at a i) → flat_map (in_run_at a i) (from_below first end) ≡ stops_in_run a i
unfolding in_run_at stops_in_run
in_run_range a i first end f e = rw (f, e) (filter_each (λ s. nat_lt a.start (last_of_stop a i s)) (stop_in_run a i) (from_below (first_beginning a (stop_at a i)) (end_of_beginnings a (stop_at a i))))

pub entered_range : (a : CodedTrain) (i first end : ℕ) → first ≡ first_beginning a (stop_at a i) → end ≡ end_of_beginnings a (stop_at a i) → flat_map (entered_at a i) (from_below first end) ≡ entered_before a i
unfolding entered_at entered_before
entered_range a i first end f e = rw (f, e) (filter_each (λ s. nat_lt s a.latest) (entered a i) (from_below (first_beginning a (stop_at a i)) (end_of_beginnings a (stop_at a i))))

pub stand_each : (table : Table) (a : CodedTrain) (i s t : ℕ) (items : List ℕ) → items ≡ cone a t → flat_map (stand_at table a i s t) items ≡ stands_at table a i s t
unfolding stand_at stands_at
stand_each table a i s t items same = rw same (filter_each (λ w. not (stands_in table (stop_at a i).station.0 w)) (stand a i s t) (cone a t))
