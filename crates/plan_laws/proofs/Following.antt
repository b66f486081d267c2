-- What comes after an item, in a valuation that satisfies the clauses of a train.
use Rattle.std.proofs.Common.{◌≡◌, ℕ, zero, suc, ◌+◌, ◌<◌, ◌≤◌, Bool, true, false, List, [], ◌∷◌, ◌++◌, get_or, filter, refl, sym, ap, ◌∙◌, subst, inl, inr, ⊎_elim, ◌⊎◌, arith}
use Rattle.std.specs.Prelude.{Contains, nat_eq, ◌&&◌}
use Rattle.std.specs.List.{list_any}
use Rattle.std.proofs.lemmas.Bool.{false≢true, cases_Bool}
use Rattle.std.proofs.lemmas.Bool.Decides.{eqb_tells}
use Rattle.std.proofs.lemmas.Map.Views.{Contains-from_any}
use Rattle.sat_core.specs.Clauses.{Satisfies, SatisfiesAll}
use Rattle.sweep_table.specs.declared.ids.SweepId.{SweepId}
use Rattle.sweep_table.specs.Tables.{Table, next_of, is_goal}
use Rattle.clause_list.specs.Numbers.{CodedTrain, is, cone, sweep, run_ended}
use Rattle.clause_list.specs.RunClauses.{go_on, goes_on_at, go_on_clauses, gone, gone_at, gone_clauses, followers, where_}
use Rattle.clause_list.specs.Values.{value}
use Rattle.clause_list.proofs.ListLaws.{filter_is}
use Rattle.clause_list.proofs.ReadingLaws.{sat_head, sat_each, sat_range, sat_any, sat_append, sat_where, sat_not_both, sat_rest, true_value}
use Rattle.plan_laws.specs.Telling.{no_item, is_told, first_told, follow}

-- the train has the item at the step
pub record IsThere (values : List Bool) (a : CodedTrain) (t w : ℕ) : Type 0 where
  pub in_cone : Contains (cone a t) w
  pub is_true : value values (sweep a t w) ≡ true

-- what comes after: an item that may and is there a step later; or the item is a goal, and the run ends
unfoldable pub GoesOn : List Bool → Table → CodedTrain → ℕ → ℕ → Type 0
GoesOn values table a t w = ((v : SweepId) × Contains (next_of table w) v × (is_told values a (t + 1) v.0 ≡ true))
    ⊎ ((is_goal table w ≡ true) × (value values (run_ended a (t + 1)) ≡ true))

-- where one of the items passes a test, the first of those that pass is one of them and passes
pub first_passes : {X : Type 0} (test : X → Bool) (items : List X) (v d : X) → Contains items v → test v ≡ true → Contains items (get_or (filter test items) 0 d) × (test (get_or (filter test items) 0 d) ≡ true)
first_passes test [] v d (k, within, same) holds = absurd (omega arith)
first_passes test (x ∷ xs) v d (zero, within, same) holds =
    let here : test x ≡ true = ap test same ∙ holds in
    rw here ((0, omega arith, refl), here)
first_passes test (x ∷ xs) v d (suc k, within, same) holds =
    let others : Contains xs (get_or (filter test xs) 0 d) × (test (get_or (filter test xs) 0 d) ≡ true) = first_passes test xs v d (k, omega arith, same) holds in
    ⊎_elim (λ here. let h : test x ≡ true = here in rw h ((0, omega arith, refl), h))
    (λ here. let h : test x ≡ false = here in let (j, inside, is) = others.0 in rw h ((suc j, omega arith, is), others.1))
    (cases_Bool (test x))

followers_any : (values : List Bool) (a : CodedTrain) (t : ℕ) (items : List SweepId) → Satisfies values (followers a t items) → (v : SweepId) × Contains items v × (is_told values a t v.0 ≡ true)
unfolding is_told
followers_any values a t items some =
    let (v, inside, holds) = sat_any values (λ (u : SweepId). sweep a t u.0) (filter (λ (u : SweepId). list_any (nat_eq u.0) (cone a t)) items) some in
    let (passes, there) = filter_is (λ (u : SweepId). list_any (nat_eq u.0) (cone a t)) items v inside in
    (v, there, rw (passes, holds) refl)

pub go_on_says : (values : List Bool) (table : Table) (a : CodedTrain) (t w : ℕ) → SatisfiesAll values (go_on_clauses table a) → a.start ≤ t → t < a.by → IsThere values a t w → GoesOn values table a t w
unfolding GoesOn go_on_clauses goes_on_at go_on
go_on_says values table a t w all h k there =
    let clause : Satisfies values (go_on table a t w) = sat_head values (go_on table a t w) [] (sat_each values (λ v. go_on table a t v ∷ []) (cone a t) w (sat_range values (goes_on_at table a) a.start a.by t all h k) there.in_cone) in
    let rest = sat_rest values (sweep a t w) (followers a (t + 1) (next_of table w) ++ where_ (is_goal table w) (is (run_ended a (t + 1)))) clause there.is_true in
    ⊎_elim (λ some. inl (followers_any values a (t + 1) (next_of table w) some))
    (λ goal. let (is_one, holds) = sat_where values (is_goal table w) (is (run_ended a (t + 1))) goal in inr (is_one, true_value values (run_ended a (t + 1)) holds))
    (sat_append values (followers a (t + 1) (next_of table w)) (where_ (is_goal table w) (is (run_ended a (t + 1)))) rest)

pub gone_says : (values : List Bool) (a : CodedTrain) (t w : ℕ) → SatisfiesAll values (gone_clauses a) → a.start < t → t ≤ a.by → IsThere values a t w → value values (run_ended a t) ≡ true → ⊥
unfolding gone_clauses gone_at gone
gone_says values a t w all h k there over =
    sat_not_both values (run_ended a t) (sweep a t w) (sat_head values (gone a t w) [] (sat_each values (λ v. gone a t v ∷ []) (cone a t) w (sat_range values (gone_at a) (a.start + 1) (a.by + 1) t all (omega arith) (omega arith)) there.in_cone)) over there.is_true

-- the items from an item at a step on are those that are told: each is there, each may come after the one before, and the last
-- one is a goal, where the steps or the run end
unfoldable pub IsTold : List Bool → Table → CodedTrain → ℕ → SweepId → List SweepId → Type 0
IsTold values table a t w [] = IsThere values a t w.0 × (is_goal table w.0 ≡ true) × ((t ≡ a.by) ⊎ (value values (run_ended a (t + 1)) ≡ true))
IsTold values table a t w (v ∷ vs) = IsThere values a t w.0 × Contains (next_of table w.0) v × IsTold values table a (t + 1) v vs

-- what the clauses of a train say as far as a chain needs it
pub record Guides (values : List Bool) (table : Table) (a : CodedTrain) : Type 0 where
  pub go_on : SatisfiesAll values (go_on_clauses table a)
  pub gone : SatisfiesAll values (gone_clauses a)
  pub last : (w : ℕ) → Contains (cone a a.by) w → is_goal table w ≡ true

same_number : (x y : ℕ) → nat_eq x y ≡ true → x ≡ y
same_number x y h = ⊎_elim (λ e. e.1) (λ e. absurd (false≢true (sym e.0 ∙ h))) (eqb_tells x y)

pub test_true : (b c : Bool) → (b && c) ≡ true → (b ≡ true) × (c ≡ true)
test_true true c h = (refl, h)
test_true false c h = absurd (false≢true h)

pub found_there : (values : List Bool) (a : CodedTrain) (t v : ℕ) → is_told values a t v ≡ true → IsThere values a t v
unfolding is_told
found_there values a t v h =
    let both = test_true (list_any (nat_eq v) (cone a t)) (value values (sweep a t v)) h in
    record { in_cone = Contains-from_any same_number v (cone a t) both.0; is_true = both.1 }

pub follow_told : (values : List Bool) (table : Table) (a : CodedTrain) (more t : ℕ) (w : SweepId) → Guides values table a → t + more ≡ a.by → a.start ≤ t → IsThere values a t w.0 → IsTold values table a t w (follow values table a more t w)
unfolding IsTold GoesOn
follow_told values table a zero t w guides sum h there =
    let now : t ≡ a.by = omega arith in
    (there, guides.last w.0 (subst (λ u. Contains (cone a u) w.0) now there.in_cone), inl now)
follow_told values table a (suc more) t w guides sum h there =
    let goes = go_on_says values table a t w.0 guides.go_on h (omega arith) there in
    ⊎_elim
    (λ over. let o : value values (run_ended a (t + 1)) ≡ true = over in
    rw o (⊎_elim
    (λ next. let (v, inside, test) = next in absurd (gone_says values a (t + 1) v.0 guides.gone (omega arith) (omega arith) (found_there values a (t + 1) v.0 test) o))
    (λ goal. (there, goal.0, inr o)) goes))
    (λ on. let o : value values (run_ended a (t + 1)) ≡ false = on in
    rw o (⊎_elim
    (λ next. let (v, inside, test) = next in
    let first = first_passes (λ (u : SweepId). is_told values a (t + 1) u.0) (next_of table w.0) v no_item inside test in
    (there, first.0, follow_told values table a more (t + 1) (first_told values a (t + 1) (next_of table w.0)) guides (omega arith) (omega arith) (found_there values a (t + 1) (first_told values a (t + 1) (next_of table w.0)).0 first.1)))
    (λ goal. absurd (false≢true (sym o ∙ goal.1))) goes))
    (cases_Bool (value values (run_ended a (t + 1))))
