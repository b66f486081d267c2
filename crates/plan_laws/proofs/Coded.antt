-- The numbers of an instance's trains.
use Rattle.std.proofs.Common.{◌≡◌, ℕ, zero, suc, ◌+◌, ◌-◌, ◌<◌, ◌≤◌, true, List, [], ◌∷◌, length, get_or, filter, refl, sym, ap, ◌∙◌, subst, arith, Some}
use Rattle.std.specs.Prelude.{All, Contains, slice_get}
use Rattle.std.proofs.lemmas.List.{get_or-map}
use Rattle.std.proofs.lemmas.List.Elements.{All-filter, All-weaker}
use Rattle.std.proofs.lemmas.Option.{same_Some, none-some}
use Rattle.cell_net.specs.Rules.{IsGoodStop, IsGoodTrain, IsInstance}
use Rattle.cell_net.specs.declared.trains.StopSpec.{StopSpec}
use Rattle.cell_net.specs.declared.trains.TrainSpec.{TrainSpec}
use Rattle.cell_net.specs.declared.parts.InstanceParts.{InstanceParts}
use Rattle.sweep_table.specs.Tables.{Table, is_goal}
use Rattle.clause_list.specs.Ranges.{below}
use Rattle.clause_list.specs.Cones.{is_marked, is_in_both, ahead, home, cone_at}
use Rattle.clause_list.specs.Coding.{coded, coded_from}
use Rattle.clause_list.specs.Numbers.{cone, behind_train}
use Rattle.clause_list.specs.WholeList.{table_at, train_at}
use Rattle.clause_list.proofs.ListLaws.{at_below, filter_is, length-below}
use Rattle.plan_laws.specs.Satisfied.{IsCoded}
use Rattle.plan_laws.proofs.Following.{test_true}

-- the train of a place has the table and the numbers of that place
pub train_is : (p : InstanceParts) (first : ℕ) (tables : List Table) (trains : List TrainSpec) (i : ℕ) (train : TrainSpec) → slice_get trains i ≡ Some train → i < length tables → (f : ℕ) × (train_at (coded_from p first tables trains) i ≡ coded p f (table_at tables i) train)
train_is p first [] trains i train is within = absurd (omega arith)
train_is p first (t ∷ ts) [] i train is within = absurd (none-some train is)
train_is p first (t ∷ ts) (r ∷ rs) zero train is within = (first, ap (coded p first t) (same_Some r train is))
train_is p first (t ∷ ts) (r ∷ rs) (suc i) train is within = train_is p (behind_train (coded p first t r)) ts rs i train is (omega arith)

pub length-coded : (p : InstanceParts) (first : ℕ) (tables : List Table) (trains : List TrainSpec) → length tables ≡ length trains → length (coded_from p first tables trains) ≡ length trains
length-coded p first [] [] same = refl
length-coded p first [] (r ∷ rs) same = absurd (omega arith)
length-coded p first (t ∷ ts) [] same = absurd (omega arith)
length-coded p first (t ∷ ts) (r ∷ rs) same =
    let rest : length (coded_from p (behind_train (coded p first t r)) ts rs) ≡ length rs = length-coded p (behind_train (coded p first t r)) ts rs (omega arith) in
    omega arith

-- the cone of the last step holds goals alone
last_cone : (p : InstanceParts) (first : ℕ) (table : Table) (train : TrainSpec) (w : ℕ) → Contains (cone (coded p first table train) train.by) w → is_goal table w ≡ true
unfolding cone_at is_in_both
last_cone p first table train w inside =
    let last : ℕ = train.by - train.start in
    let window : ℕ = train.latest - train.start in
    let at : get_or (below (last + 1)) last 0 ≡ last = at_below (last + 1) last 0 (omega arith) in
    let is : cone (coded p first table train) train.by ≡ cone_at table window last last = get_or-map (cone_at table window last) (below (last + 1)) last 0 [] (let size : length (below (last + 1)) ≡ last + 1 = length-below (last + 1) in omega arith) ∙ ap (cone_at table window last) at in
    let there : Contains (filter (is_in_both (ahead table window last) (home table (last - last))) (below (length table.cells))) w = subst (λ xs. Contains xs w) is inside in
    let both = filter_is (is_in_both (ahead table window last) (home table (last - last))) (below (length table.cells)) w there in
    let marked = test_true (is_marked (ahead table window last) w) (is_marked (home table (last - last)) w) both.0 in
    let none : last - last ≡ 0 = omega arith in
    subst (λ k. is_marked (home table k) w ≡ true) none marked.1

pub is_coded : (p : InstanceParts) (first : ℕ) (table : Table) (i : ℕ) (train : TrainSpec) → IsInstance p → slice_get p.trains i ≡ Some train → IsCoded table train (coded p first table train)
is_coded p first table i train rules is =
    let good : IsGoodTrain p i train = rules.trains.at_each i train is in
    record {
      start = refl;
      latest = refl;
      by = refl;
      stops = refl;
      window = good.window;
      in_order = good.in_order;
      last = last_cone p first table train;
      dwell = All-weaker (IsGoodStop p) (λ (s : StopSpec). 0 < s.dwell) (λ s fine. fine.stands) train.stops good.stops;
    }

-- the items of a cone are items of the table
pub cones_inside : (p : InstanceParts) (first : ℕ) (table : Table) (train : TrainSpec) (t : ℕ) → train.start ≤ t → t ≤ train.by → All (λ w. w < length table.cells) (cone (coded p first table train) t)
unfolding cone_at
cones_inside p first table train t h k =
    let last : ℕ = train.by - train.start in
    let window : ℕ = train.latest - train.start in
    let at : get_or (below (last + 1)) (t - train.start) 0 ≡ t - train.start = at_below (last + 1) (t - train.start) 0 (omega arith) in
    let is : cone (coded p first table train) t ≡ cone_at table window last (t - train.start) = get_or-map (cone_at table window last) (below (last + 1)) (t - train.start) 0 [] (let size : length (below (last + 1)) ≡ last + 1 = length-below (last + 1) in omega arith) ∙ ap (cone_at table window last) at in
    subst (All (λ w. w < length table.cells)) (sym is) (All-filter (is_in_both (ahead table window (t - train.start)) (home table (last - (t - train.start)))) (λ w. w < length table.cells) (below (length table.cells)) (λ j d within.
    let size : length (below (length table.cells)) ≡ length table.cells = length-below (length table.cells) in
    let number : get_or (below (length table.cells)) j d ≡ j = at_below (length table.cells) j d (omega arith) in
    omega arith))
