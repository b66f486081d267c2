-- The numbers of an instance's trains fit their tables.
use Rattle.std.proofs.Common.{◌≡◌, ◌∙◌, ℕ, ◌+◌, ◌-◌, ◌<◌, ◌≤◌, List, [], ◌∷◌, length, get_or, take, refl, sym, ap, subst, arith}
use Rattle.std.specs.Prelude.{All}
use Rattle.std.proofs.lemmas.List.{get_or-map, length-map, take_more}
use Rattle.std.proofs.lemmas.List.Elements.{All-append, All-cons, All-nil, All-filter}
use Rattle.std.proofs.lemmas.Option.{slice_get-get_or}
use Rattle.cell_net.specs.Rules.{IsInstance, IsGoodTrain}
use Rattle.cell_net.specs.declared.cells.End.TheVariants.{Low}
use Rattle.cell_net.specs.declared.parts.InstanceParts.{InstanceParts}
use Rattle.cell_net.specs.declared.trains.TrainSpec.{TrainSpec}
use Rattle.sweep_table.specs.Tables.{Table}
use Rattle.clause_list.specs.Ranges.{below}
use Rattle.clause_list.specs.Numbers.{CodedTrain, behind_train, first_of_trains}
use Rattle.clause_list.specs.Cones.{ahead, home, is_in_both, cone_at}
use Rattle.clause_list.specs.WholeList.{table_at, train_at, no_table}
use Rattle.clause_list.specs.Coding.{coded, network_of, trains_of, first_of_count}
use Rattle.clause_list.proofs.ListLaws.{length-below, at_below}
use Rattle.clause_list.proofs.CodedLaws.{coded_at, cone_is, length-coded_from}
use Rattle.clause_encoder.specs.TrainStore.{IsKeptTrain}
use Rattle.clause_encoder.specs.Fitting.{Fits}
use Rattle.clause_encoder.specs.TableLists.{IsKnown, IsKnownBy, table_over, tables_of}
use Rattle.clause_encoder.specs.Families.{FitsWhole, AllFit}
use Rattle.clause_encoder.proofs.BuildLemmas.{cones_rise, cone_count}

-- one table more
pub known_more : {X : Type 0} (items : X → ℕ) (table : X → InstanceParts → Table) (p : InstanceParts) (tables : List X) (i : ℕ) (x : X) → All (IsKnownBy items table p) (take i tables) → i < length tables → get_or tables i x ≡ x → IsKnownBy items table p x → All (IsKnownBy items table p) (take (i + 1) tables)
known_more items table p tables i x before within at this =
    let P = IsKnownBy items table p in
    subst (All P) (sym (take_more tables i x within)) (All-append P (take i tables) (get_or tables i x ∷ []) before (All-cons P (get_or tables i x) [] (subst P (sym at) this) (All-nil P)))

-- the items of a cone are items of the table
cone_items : (table : Table) (window last k : ℕ) → All (λ w. w < length table.cells) (cone_at table window last k)
unfolding cone_at
cone_items table window last k =
    All-filter (is_in_both (ahead table window k) (home table (last - k))) (λ w. w < length table.cells) (below (length table.cells))
    (λ j d within. let few : j < length table.cells = subst (λ n. j < n) (length-below (length table.cells)) within in subst (λ n. n < length table.cells) (sym (at_below (length table.cells) j d few)) few)

-- the numbers of a train are kept, where they are not too many
coded_kept : (p : InstanceParts) (from place : ℕ) (table : Table) (train : TrainSpec) → IsInstance p → IsGoodTrain p place train → behind_train (coded p from table train) ≤ 2000001 → IsKeptTrain (coded p from table train)
coded_kept p from place table train rules good few =
    let window : train.start ≤ train.latest = good.window in
    let order : train.latest ≤ train.by = good.in_order in
    let time : train.by < p.steps = good.in_time in
    let steps : p.steps ≤ 400 = rules.steps.few in
    let cones = cones_rise table (train.latest - train.start) (train.by - train.start) _ refl in
    record {
      window = window;
      in_order = order;
      few_steps = omega arith;
      for_each_step = omega (arith, cone_count table (train.latest - train.start) (train.by - train.start) _ refl);
      rising = cones;
      few = omega arith;
    }

coded_fits_table : (count : ℕ) (p : InstanceParts) (from place : ℕ) (table : Table) (train : TrainSpec) → IsInstance p → IsGoodTrain p place train → behind_train (coded p from table train) ≤ 2000001 → IsKnown count p table → Fits count table (coded p from table train)
coded_fits_table count p from place table train rules good few known = record {
  kept = coded_kept p from place table train rules good few;
  items = λ t after before. subst (All (λ w. w < count)) (sym (cone_is p from table train t after before)) (subst (λ n. All (λ w. w < n) (cone_at table (train.latest - train.start) (train.by - train.start) (t - train.start))) known.size (cone_items table (train.latest - train.start) (train.by - train.start) (t - train.start)));
  cells = λ w within. known.rules.cells w [] (subst (λ n. w < n) (sym known.size) within);
}

-- the numbers of all trains fit
pub all_fit : {X : Type 0} (items : X → ℕ) (table : X → InstanceParts → Table) (p : InstanceParts) (tables : List X) (trains : List CodedTrain) → IsInstance p → length tables ≡ length p.trains → All (IsKnownBy items table p) tables → trains ≡ trains_of p (tables_of table p tables) → first_of_count p (tables_of table p tables) ≤ 2000001 → AllFit items table p tables trains
all_fit items table p tables trains rules same known are few =
    let first : ℕ = first_of_trains (network_of p) in
    let all : List Table = tables_of table p tables in
    let size : length all ≡ length p.trains = length-map tables (table_over table p) ∙ same in
    let count : length trains ≡ length p.trains = ap length are ∙ length-coded_from p first all p.trains size in
    let some : TrainSpec = record { length = 0; advance = 0; entry = record { cell = record { 0 = 0 }; end = Low }; goal = record { cell = record { 0 = 0 }; end = Low }; start = 0; latest = 0; by = 0; stops = [] } in
    let few_trains : length p.trains ≤ 32 = rules.few_trains in
    record {
      few = omega arith;
      for_each = omega arith;
      each = λ i d within.
          let place : i < length p.trains = omega arith in
          let at = coded_at p first all p.trains i some size place in
          let spec : TrainSpec = get_or p.trains i some in
          let good : IsGoodTrain p i spec = rules.trains.at_each i spec (slice_get-get_or p.trains i some place) in
          let tab : table_at all i ≡ table (get_or tables i d) p = get_or-map (table_over table p) tables i d no_table within in
          let is : train_at trains i ≡ coded p at.from (table (get_or tables i d) p) spec = ap (λ ts. train_at ts i) are ∙ at.is ∙ ap (λ t. coded p at.from t spec) tab in
          let end : behind_train (train_at trains i) ≤ first_of_count p all = subst (λ ts. behind_train (train_at ts i) ≤ first_of_count p all) (sym are) at.before in
          let last : behind_train (coded p at.from (table (get_or tables i d) p) spec) ≤ 2000001 = subst (λ a. behind_train a ≤ 2000001) is (omega arith) in
          subst (FitsWhole (items (get_or tables i d)) p (table (get_or tables i d) p)) (sym is) (record {
            fits = coded_fits_table (items (get_or tables i d)) p at.from i (table (get_or tables i d) p) spec rules good last (known i d within);
            stations = λ k e inside. (good.stops k e inside).station;
            few_stops = rules.few_stops i some place;
          });
    }
