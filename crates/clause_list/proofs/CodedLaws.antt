-- The numbers of an instance's network and trains are in order, and so are the candidates on its walks.
use Rattle.std.proofs.Common.{◌≡◌, ℕ, zero, suc, ◌+◌, ◌-◌, ◌<◌, ◌≤◌, List, [], ◌∷◌, length, get_or, refl, sym, ap, ◌∙◌, subst, ⊎_elim, arith}
use Rattle.std.specs.Prelude.{All, AllPairs}
use Rattle.std.proofs.lemmas.Bool.{cases_lt}
use Rattle.std.proofs.lemmas.List.{length-map, get_or-map}
use Rattle.std.proofs.lemmas.Option.{slice_get-get_or}
use Rattle.std.proofs.lemmas.List.Elements.{All-nil}
use Rattle.std.proofs.lemmas.List.Kept.{AllPairs-filter}
use Rattle.cell_net.specs.Rules.{IsInstance, IsGoodTrain}
use Rattle.cell_net.specs.declared.cells.DirCell.{DirCell}
use Rattle.cell_net.specs.declared.cells.End.TheVariants.{Low}
use Rattle.cell_net.specs.declared.parts.InstanceParts.{InstanceParts}
use Rattle.cell_net.specs.declared.trains.TrainSpec.{TrainSpec}
use Rattle.sweep_table.specs.declared.ids.SweepId.{SweepId}
use Rattle.sweep_table.specs.Tables.{Table, IsTable, Rises, next_of}
use Rattle.clause_list.specs.Ranges.{below}
use Rattle.clause_list.specs.Numbers.{CodedTrain, cone, behind_train, first_of_trains}
use Rattle.clause_list.specs.Cones.{ahead, home, is_in_both, cone_at}
use Rattle.clause_list.specs.WholeList.{table_at, train_at, no_table}
use Rattle.clause_list.specs.Coding.{network_of, coded, coded_from, trains_of, behind_all, first_of_count}
use Rattle.clause_list.specs.Orders.{IsNumbered, FitsTable, AreOver, AreAllNumbered}
use Rattle.clause_list.proofs.ListLaws.{length-below, at_below, range_rises}

-- each number is below all later ones, where each is below the next
adjacent_rise : (ids : List SweepId) → Rises ids → (i j : ℕ) (d : SweepId) → i < j → j < length ids → (get_or ids i d).0 < (get_or ids j d).0
adjacent_rise ids rises i zero d less within = absurd (omega arith)
adjacent_rise ids rises i (suc j) d less within =
    let last : (get_or ids j d).0 < (get_or ids (j + 1) d).0 = rises j d (omega arith) in
    let number : j + 1 ≡ suc j = omega arith in
    let step : (get_or ids j d).0 < (get_or ids (suc j) d).0 = subst (λ n. (get_or ids j d).0 < (get_or ids n d).0) number last in
    ⊎_elim
    (λ before. let front : (get_or ids i d).0 < (get_or ids j d).0 = adjacent_rise ids rises i j d before (omega arith) in omega arith)
    (λ here. let same : i ≡ j = omega arith in subst (λ n. (get_or ids n d).0 < (get_or ids (suc j) d).0) (sym same) step)
    (cases_lt i j)

-- a list of a table, or the empty list where there is none
pub one_of : {X : Type 0} (P : List X → Type 0) (lists : List (List X)) (w : ℕ) → All P lists → P [] → P (get_or lists w [])
one_of P [] w all none = none
one_of P (xs ∷ lists) zero all none = all 0 xs (omega arith)
one_of P (xs ∷ lists) (suc w) all none = one_of P lists w (λ k d within. all (suc k) d (omega arith)) none

cone_rises : (table : Table) (window last k : ℕ) → AllPairs (λ x y. x < y) (cone_at table window last k)
unfolding cone_at
cone_rises table window last k = AllPairs-filter (λ x y. x < y) (is_in_both (ahead table window k) (home table (last - k))) (below (length table.cells)) (range_rises 0 (length table.cells))

-- the cone of a step of the train
pub cone_is : (p : InstanceParts) (first : ℕ) (table : Table) (train : TrainSpec) (t : ℕ) → train.start ≤ t → t ≤ train.by → cone (coded p first table train) t ≡ cone_at table (train.latest - train.start) (train.by - train.start) (t - train.start)
cone_is p first table train t h k =
    let last : ℕ = train.by - train.start in
    let this = cone_at table (train.latest - train.start) last in
    get_or-map this (below (last + 1)) (t - train.start) 0 [] (omega (arith, length-below (last + 1))) ∙ ap this (at_below (last + 1) (t - train.start) 0 (omega arith))

coded_is_numbered : (p : InstanceParts) (vars first place : ℕ) (table : Table) (train : TrainSpec) → 1 ≤ first → IsGoodTrain p place train → behind_train (coded p first table train) ≤ vars + 1 → IsNumbered vars (coded p first table train)
coded_is_numbered p vars first place table train one good last =
    let window : train.start ≤ train.latest = good.window in
    let order : train.latest ≤ train.by = good.in_order in
    record {
      from_one = one;
      may_enter = window;
      enters_in_time = order;
      for_each_step = length-map (below (train.by - train.start + 1)) (cone_at table (train.latest - train.start) (train.by - train.start)) ∙ length-below (train.by - train.start + 1) ∙ omega arith;
      cones_rise = λ t h k. subst (AllPairs (λ x y. x < y)) (sym (cone_is p first table train t h k)) (cone_rises table (train.latest - train.start) (train.by - train.start) (t - train.start));
      within = last;
    }

coded_fits : (p : InstanceParts) (first : ℕ) (table : Table) (train : TrainSpec) → IsTable p table → FitsTable table (coded p first table train)
coded_fits p first table train is = record {
  next_rise = λ w i j d less within. adjacent_rise (next_of table w) (one_of Rises table.next w is.next_rise (λ k d few. absurd (omega arith))) i j d less within;
  cells = λ t w inside. one_of (All (λ (d : DirCell). d.cell.0 < length p.cells)) table.cells w is.cells (All-nil (λ (d : DirCell). d.cell.0 < length p.cells));
}

-- a train's numbers stand behind those of the trains before it
pub behind_grows : (p : InstanceParts) (first : ℕ) (tables : List Table) (trains : List TrainSpec) → first ≤ behind_all first (coded_from p first tables trains)
behind_grows p first [] trains = omega arith
behind_grows p first (table ∷ tables) [] = omega arith
behind_grows p first (table ∷ tables) (train ∷ trains) = let others = behind_grows p (behind_train (coded p first table train)) tables trains in omega arith

pub length-coded_from : (p : InstanceParts) (first : ℕ) (tables : List Table) (trains : List TrainSpec) → length tables ≡ length trains → length (coded_from p first tables trains) ≡ length trains
length-coded_from p first [] [] same = refl
length-coded_from p first [] (train ∷ trains) same = absurd (omega arith)
length-coded_from p first (table ∷ tables) [] same = absurd (omega arith)
length-coded_from p first (table ∷ tables) (train ∷ trains) same = ap suc (length-coded_from p (behind_train (coded p first table train)) tables trains (omega arith))

-- where a train is numbered from, and what its numbers stand between
pub record IsCodedAt (p : InstanceParts) (first : ℕ) (tables : List Table) (trains : List TrainSpec) (i : ℕ) (d : TrainSpec) : Type 0 where
  pub from : ℕ
  pub is : train_at (coded_from p first tables trains) i ≡ coded p from (table_at tables i) (get_or trains i d)
  pub after : first ≤ from
  pub before : behind_train (train_at (coded_from p first tables trains) i) ≤ behind_all first (coded_from p first tables trains)

pub coded_at : (p : InstanceParts) (first : ℕ) (tables : List Table) (trains : List TrainSpec) (i : ℕ) (d : TrainSpec) → length tables ≡ length trains → i < length trains → IsCodedAt p first tables trains i d
coded_at p first [] trains i d same within = absurd (omega arith)
coded_at p first (table ∷ tables) [] i d same within = absurd (omega arith)
coded_at p first (table ∷ tables) (train ∷ trains) zero d same within = record { from = first; is = refl; after = omega arith; before = behind_grows p (behind_train (coded p first table train)) tables trains }
coded_at p first (table ∷ tables) (train ∷ trains) (suc i) d same within =
    let others = coded_at p (behind_train (coded p first table train)) tables trains i d (omega arith) (omega arith) in
    let later : behind_train (coded p first table train) ≤ others.from = others.after in
    record { from = others.from; is = others.is; after = omega arith; before = others.before }

in_order : (p : InstanceParts) (first : ℕ) (tables : List Table) (trains : List TrainSpec) (i j : ℕ) → length tables ≡ length trains → i < j → j < length trains → behind_train (train_at (coded_from p first tables trains) i) ≤ (train_at (coded_from p first tables trains) j).first
in_order p first [] trains i j same less within = absurd (omega arith)
in_order p first (table ∷ tables) [] i j same less within = absurd (omega arith)
in_order p first (table ∷ tables) (train ∷ trains) i zero same less within = absurd (omega arith)
in_order p first (table ∷ tables) (train ∷ trains) zero (suc j) same less within =
    let other = coded_at p (behind_train (coded p first table train)) tables trains j train (omega arith) (omega arith) in
    let later : behind_train (coded p first table train) ≤ other.from = other.after in
    let first_is : (train_at (coded_from p (behind_train (coded p first table train)) tables trains) j).first ≡ other.from = ap (λ a. a.first) other.is in
    omega arith
in_order p first (table ∷ tables) (train ∷ trains) (suc i) (suc j) same less within = in_order p (behind_train (coded p first table train)) tables trains i j (omega arith) (omega arith) (omega arith)

pub kept_over : (p : InstanceParts) → IsInstance p → AreOver (network_of p) p.kept
kept_over p rules k d within = (rules.kept.at_each k (get_or p.kept k d) (slice_get-get_or p.kept k d within)).in_range

-- the numbers of an instance's trains are in order
pub coded_are_numbered : (p : InstanceParts) (tables : List Table) (vars : ℕ) → IsInstance p → length tables ≡ length p.trains → All (IsTable p) tables → first_of_count p tables ≤ vars + 1 → AreAllNumbered vars (network_of p) tables (trains_of p tables)
coded_are_numbered p tables vars rules same are last =
    let first : ℕ = first_of_trains (network_of p) in
    let trains : List CodedTrain = trains_of p tables in
    let count : length trains ≡ length p.trains = length-coded_from p first tables p.trains same in
    let some : TrainSpec = record { length = 0; advance = 0; entry = record { cell = record { 0 = 0 }; end = Low }; goal = record { cell = record { 0 = 0 }; end = Low }; start = 0; latest = 0; by = 0; stops = [] } in
    let from_one : 1 ≤ first = omega arith in
    let more : first ≤ first_of_count p tables = behind_grows p first tables p.trains in
    record {
      borders = omega arith;
      kept = kept_over p rules;
      each = λ i within.
          let at = coded_at p first tables p.trains i some same (omega arith) in
          let after : first ≤ at.from = at.after in
          let end : behind_train (train_at trains i) ≤ first_of_count p tables = at.before in
          let good : IsGoodTrain p i (get_or p.trains i some) = rules.trains.at_each i (get_or p.trains i some) (slice_get-get_or p.trains i some (omega arith)) in
          let this_end : behind_train (coded p at.from (table_at tables i) (get_or p.trains i some)) ≤ vars + 1 = subst (λ a. behind_train a ≤ vars + 1) at.is (omega arith) in
          subst (IsNumbered vars) (sym at.is) (coded_is_numbered p vars at.from i (table_at tables i) (get_or p.trains i some) (omega arith) good this_end);
      fit = λ i within.
          let at = coded_at p first tables p.trains i some same (omega arith) in
          subst (FitsTable (table_at tables i)) (sym at.is) (coded_fits p at.from (table_at tables i) (get_or p.trains i some) (are i no_table (omega arith)));
      cells = λ i within.
          let at = coded_at p first tables p.trains i some same (omega arith) in
          ap (λ a. a.cells) at.is ∙ sym (length-map p.cells (λ c. c.section.0));
      behind_borders = λ i within.
          let at = coded_at p first tables p.trains i some same (omega arith) in
          let after : first ≤ at.from = at.after in
          let first_is : (train_at trains i).first ≡ at.from = ap (λ a. a.first) at.is in
          omega arith;
      behind_others = λ i j less within. in_order p first tables p.trains i j same less (omega arith);
    }
