-- The plan that a valuation tells is one of chains, any two apart.
use Rattle.std.proofs.Common.{◌≡◌, ℕ, ◌+◌, ◌-◌, ◌<◌, ◌≤◌, Bool, List, [], length, get_or, map, refl, sym, ap, ◌∙◌, subst, arith, Some}
use Rattle.std.specs.Prelude.{All, Contains, slice_get}
use Rattle.std.proofs.lemmas.List.{get_or-map, length-map}
use Rattle.std.proofs.lemmas.List.Elements.{All-contains}
use Rattle.std.proofs.lemmas.Option.{slice_get_within, slice_get-get_or, get_or_from_slice_get}
use Rattle.sat_core.specs.declared.literal.Lit.{Lit}
use Rattle.sat_core.specs.Clauses.{SatisfiesAll}
use Rattle.cell_net.specs.Borders.{IsLayout}
use Rattle.cell_net.specs.Plans.{AreApart}
use Rattle.cell_net.specs.Rules.{IsInstance}
use Rattle.cell_net.specs.Runs.{IsSweepAt}
use Rattle.cell_net.specs.declared.cells.DirCell.{DirCell}
use Rattle.cell_net.specs.declared.cells.End.TheVariants.{Low}
use Rattle.cell_net.specs.declared.ids.CandidateId.{CandidateId}
use Rattle.cell_net.specs.declared.plans.Sweep.{Sweep}
use Rattle.cell_net.specs.declared.plans.TrainRun.{TrainRun}
use Rattle.cell_net.specs.declared.parts.InstanceParts.{InstanceParts}
use Rattle.cell_net.specs.declared.trains.TrainSpec.{TrainSpec}
use Rattle.gap_clauses.specs.Gaps.{AreGaps}
use Rattle.gap_clauses.specs.Laws.{CandidatesSeparate}
use Rattle.sweep_table.specs.declared.ids.SweepId.{SweepId}
use Rattle.sweep_table.specs.Tables.{Table, IsTable, cells_of}
use Rattle.clause_list.specs.Ranges.{below}
use Rattle.clause_list.specs.Coding.{network_of, walks_in, coded, trains_of}
use Rattle.clause_list.specs.Numbers.{CodedTrain, Network, cone, first_of_trains}
use Rattle.clause_list.specs.RunClauses.{enter_clauses, go_on_clauses, stay_ended_clauses, gone_clauses, touch_clauses}
use Rattle.clause_list.specs.PairClauses.{apart_clauses}
use Rattle.clause_list.specs.StopClauses.{stop_met_clauses, stop_in_run_clauses, stand_clauses, stop_after_entry_clauses}
use Rattle.clause_list.specs.BorderClauses.{gap_clauses}
use Rattle.clause_list.specs.WholeList.{no_table, table_at, train_at, of_train, of_each_train, by_train, by_each_train, apart_of_two, apart_of, apart_of_all, plan_families, whole}
use Rattle.clause_list.proofs.ListLaws.{at_below, length-below}
use Rattle.clause_list.proofs.ReadingLaws.{sat_each, sat_range}
use Rattle.plan_laws.specs.Chains.{IsChainRun, AreChains, sweep_of}
use Rattle.plan_laws.specs.Satisfied.{IsCoded, IsSatisfied, AreTables}
use Rattle.plan_laws.specs.Telling.{IsInside, no_item, told_step, told_entry, told_items, told_run, told_run_of, told_plan, told_layout}
use Rattle.plan_laws.proofs.Following.{IsThere}
use Rattle.plan_laws.proofs.Telling.{told_first, told_entry_is, told_is_told, told_is_chain, there_at}
use Rattle.plan_laws.proofs.Coded.{train_is, length-coded, is_coded, cones_inside}
use Rattle.plan_laws.proofs.Apart.{touch_says, touched_separated, cells_of_item}

-- what is told at a step of the run: the item that is there, and its cells
record IsToldAt (values : List Bool) (table : Table) (a : CodedTrain) (t : ℕ) (w : Sweep) : Type 0 where
  after : a.start ≤ t
  before : t ≤ a.by
  item : SweepId
  there : IsThere values a t item.0
  cells : w.cells ≡ cells_of table item.0

told_at : (values : List Bool) (table : Table) (train : TrainSpec) (a : CodedTrain) (t : ℕ) (w : Sweep) → IsSatisfied values table a → IsCoded table train a → IsSweepAt (told_run values table a) t w → IsToldAt values table a t w
told_at values table train a t w sat coded at =
    let x : ℕ = told_step values a in
    let items : List SweepId = told_items values table a in
    let k : ℕ = t - x in
    let begun : x ≤ t = at.begun in
    let first = told_first values table train a coded in
    let low : a.start ≤ x = first.not_before in
    let chain = told_is_chain values table train a sat coded in
    let final : a.by ≡ train.by = coded.by in
    let long : x + length items ≤ train.by + 1 = chain.in_time in
    let inside : k < length items = subst (λ n. k < n) (length-map items (sweep_of table)) (slice_get_within (map (sweep_of table) items) k w at.is_there) in
    let same : sweep_of table (get_or items k no_item) ≡ w = sym (get_or-map (sweep_of table) items k no_item w inside) ∙ get_or_from_slice_get (map (sweep_of table) items) k w w at.is_there in
    let now : x + k ≡ t = omega arith in
    record {
      after = omega arith;
      before = omega arith;
      item = get_or items k no_item;
      there = subst (λ u. IsThere values a u (get_or items k no_item).0) now (there_at values table a x _ _ k (told_is_told values table train a sat coded) (omega arith));
      cells = sym (ap (λ (s : Sweep). s.cells) same);
    }

-- the runs of two trains are apart
runs_apart : (values : List Bool) (p : InstanceParts) (gaps : List (List (List (List CandidateId)))) (one other : Table) (r s : TrainSpec) (a b : CodedTrain) → CandidatesSeparate p (told_layout values (length p.candidates)) gaps → AreGaps p gaps → SatisfiesAll values (gap_clauses (walks_in gaps) (network_of p)) → SatisfiesAll values (apart_clauses (network_of p) a b) → IsTable p one → IsTable p other → IsSatisfied values one a → IsSatisfied values other b → IsCoded one r a → IsCoded other s b → AreApart p (told_layout values (length p.candidates)) (told_run values one a) (told_run values other b)
runs_apart values p gaps one other r s a b law are gap_all apart_all rules_a rules_b sat_a sat_b coded_a coded_b t w v at_a at_b c d in_w in_v =
    let first = told_at values one r a t w sat_a coded_a at_a in
    let second = told_at values other s b t v sat_b coded_b at_b in
    let in_one = subst (λ cells. Contains cells c) first.cells in_w in
    let in_other = subst (λ cells. Contains cells d) second.cells in_v in
    touched_separated values p gaps a b t c.cell d.cell law are gap_all apart_all first.after first.before second.after second.before
    (cells_of_item p one first.item.0 c rules_a in_one) (cells_of_item p other second.item.0 d rules_b in_other)
    (touch_says values one a t first.item.0 c sat_a.touch first.after first.before first.there in_one)
    (touch_says values other b t second.item.0 d sat_b.touch second.after second.before second.there in_other)

-- a family of all trains says its clauses of each
of_one : (values : List Bool) (family : Table → CodedTrain → List (List Lit)) (tables : List Table) (trains : List CodedTrain) (i : ℕ) → SatisfiesAll values (of_each_train family tables trains) → i < length trains → SatisfiesAll values (family (table_at tables i) (train_at trains i))
unfolding of_each_train of_train
of_one values family tables trains i all within = sat_range values (of_train family tables trains) 0 (length trains) i all (omega arith) within

by_one : (values : List Bool) (family : CodedTrain → List (List Lit)) (trains : List CodedTrain) (i : ℕ) → SatisfiesAll values (by_each_train family trains) → i < length trains → SatisfiesAll values (family (train_at trains i))
unfolding by_each_train by_train
by_one values family trains i all within = sat_range values (by_train family trains) 0 (length trains) i all (omega arith) within

of_pair : (values : List Bool) (net : Network) (trains : List CodedTrain) (i j : ℕ) → SatisfiesAll values (apart_of_all net trains) → i < j → j < length trains → SatisfiesAll values (apart_clauses net (train_at trains i) (train_at trains j))
unfolding apart_of_all apart_of apart_of_two
of_pair values net trains i j all h k = sat_range values (apart_of_two net trains i) (i + 1) (length trains) j (sat_range values (apart_of net trains) 0 (length trains) i all (omega arith) (omega arith)) (omega arith) k

-- all clauses of the families of gaps and trains, family by family
record SatisfiesPlan (values : List Bool) (walks : ℕ → ℕ → List (List CandidateId)) (net : Network) (tables : List Table) (trains : List CodedTrain) : Type 0 where
  gap : SatisfiesAll values (gap_clauses walks net)
  apart : SatisfiesAll values (apart_of_all net trains)
  each : (i : ℕ) → i < length trains → IsSatisfied values (table_at tables i) (train_at trains i)

by_family : (values : List Bool) (walks : ℕ → ℕ → List (List CandidateId)) (net : Network) (tables : List Table) (trains : List CodedTrain) → SatisfiesAll values (whole (plan_families walks net tables trains)) → SatisfiesPlan values walks net tables trains
by_family values walks net tables trains all =
    let families : List (List (List Lit)) = plan_families walks net tables trains in
    let family : (k : ℕ) (f : List (List Lit)) → k < length families → get_or families k f ≡ f → SatisfiesAll values f = λ k f within same. sat_each values (λ g. g) families f all (k, within, same) in
    record {
      gap = family 0 (gap_clauses walks net) (omega arith) refl;
      apart = family 6 (apart_of_all net trains) (omega arith) refl;
      each = λ i within. record {
        enter = of_one values enter_clauses tables trains i (family 1 _ (omega arith) refl) within;
        go_on = of_one values go_on_clauses tables trains i (family 2 _ (omega arith) refl) within;
        stay_ended = by_one values stay_ended_clauses trains i (family 3 _ (omega arith) refl) within;
        gone = by_one values gone_clauses trains i (family 4 _ (omega arith) refl) within;
        touch = of_one values touch_clauses tables trains i (family 5 _ (omega arith) refl) within;
        stop_met = by_one values stop_met_clauses trains i (family 7 _ (omega arith) refl) within;
        stop_in_run = by_one values stop_in_run_clauses trains i (family 8 _ (omega arith) refl) within;
        stand = of_one values stand_clauses tables trains i (family 9 _ (omega arith) refl) within;
        stop_after_entry = by_one values stop_after_entry_clauses trains i (family 10 _ (omega arith) refl) within;
      };
    }

-- the numbers of a train, by its place
record IsOne (p : InstanceParts) (tables : List Table) (i : ℕ) (train : TrainSpec) : Type 0 where
  coded : IsCoded (table_at tables i) train (train_at (trains_of p tables) i)
  cones : (t : ℕ) → (train_at (trains_of p tables) i).start ≤ t → t ≤ (train_at (trains_of p tables) i).by → All (λ w. w < length (table_at tables i).cells) (cone (train_at (trains_of p tables) i) t)
  rules : IsTable p (table_at tables i)

one_of : (p : InstanceParts) (tables : List Table) (i : ℕ) (train : TrainSpec) → IsInstance p → AreTables p tables → slice_get p.trains i ≡ Some train → IsOne p tables i train
one_of p tables i train rules are is =
    let size : length tables ≡ length p.trains = are.for_each in
    let within : i < length tables = (let h : i < length p.trains = slice_get_within p.trains i train is in omega arith) in
    let (first, same) = train_is p (first_of_trains (network_of p)) tables p.trains i train is within in
    record {
      coded = subst (IsCoded (table_at tables i) train) (sym same) (is_coded p first (table_at tables i) i train rules is);
      cones = subst (λ (a : CodedTrain). (t : ℕ) → a.start ≤ t → t ≤ a.by → All (λ w. w < length (table_at tables i).cells) (cone a t)) (sym same) (cones_inside p first (table_at tables i) train);
      rules = are.each i no_table within;
    }

runs_are : (values : List Bool) (tables : List Table) (trains : List CodedTrain) (i : ℕ) (r : TrainRun) → i < length trains → get_or (told_plan values tables trains).runs i r ≡ told_run values (table_at tables i) (train_at trains i)
unfolding told_run_of
runs_are values tables trains i r within =
    let size : length (below (length trains)) ≡ length trains = length-below (length trains) in
    let at : get_or (below (length trains)) i 0 ≡ i = at_below (length trains) i 0 within in
    get_or-map (told_run_of values tables trains) (below (length trains)) i 0 r (omega arith) ∙ ap (told_run_of values tables trains) at

run_count : (values : List Bool) (tables : List Table) (trains : List CodedTrain) → length (told_plan values tables trains).runs ≡ length trains
run_count values tables trains = length-map (below (length trains)) (told_run_of values tables trains) ∙ length-below (length trains)

-- stand for a directed cell and a train where there is none
abbrev no_cell : DirCell
no_cell = record { cell = record { 0 = 0 }; end = Low }

abbrev no_spec : TrainSpec
no_spec = record { length = 0; advance = 0; entry = no_cell; goal = no_cell; start = 0; latest = 0; by = 0; stops = [] }

-- the theorem
pub plan_of_chains : (values : List Bool) (p : InstanceParts) (gaps : List (List (List (List CandidateId)))) (tables : List Table) → CandidatesSeparate p (told_layout values (length p.candidates)) gaps → IsInstance p → AreGaps p gaps → AreTables p tables → IsLayout p (told_layout values (length p.candidates)) → SatisfiesAll values (whole (plan_families (walks_in gaps) (network_of p) tables (trains_of p tables))) → AreChains p (told_layout values (length p.candidates)) tables (told_plan values tables (trains_of p tables))
plan_of_chains values p gaps tables law rules are_gaps are layout all =
    let trains : List CodedTrain = trains_of p tables in
    let sat = by_family values (walks_in gaps) (network_of p) tables trains all in
    let count : length trains ≡ length p.trains = length-coded p (first_of_trains (network_of p)) tables p.trains are.for_each in
    let runs : length (told_plan values tables trains).runs ≡ length trains = run_count values tables trains in
    record {
      layout = layout;
      for_each = runs ∙ count;
      each = λ i train r is at.
          let within : i < length trains = (let h : i < length p.trains = slice_get_within p.trains i train is in omega arith) in
          let one = one_of p tables i train rules are is in
          let same : told_run values (table_at tables i) (train_at trains i) ≡ r = sym (runs_are values tables trains i r within) ∙ get_or_from_slice_get (told_plan values tables trains).runs i r r at in
          subst (IsChainRun (table_at tables i) train) same (record {
            items = told_items values (table_at tables i) (train_at trains i);
            chain = told_is_chain values (table_at tables i) train (train_at trains i) (sat.each i within) one.coded;
            touches = refl;
          });
      apart = λ i j d h k.
          let later : j < length trains = omega arith in
          let first : i < length trains = omega arith in
          let r : TrainSpec = get_or p.trains i no_spec in
          let s : TrainSpec = get_or p.trains j no_spec in
          let is_r : slice_get p.trains i ≡ Some r = slice_get-get_or p.trains i no_spec (omega arith) in
          let is_s : slice_get p.trains j ≡ Some s = slice_get-get_or p.trains j no_spec (omega arith) in
          let one = one_of p tables i r rules are is_r in
          let other = one_of p tables j s rules are is_s in
          let both : AreApart p (told_layout values (length p.candidates)) (told_run values (table_at tables i) (train_at trains i)) (told_run values (table_at tables j) (train_at trains j)) = runs_apart values p gaps (table_at tables i) (table_at tables j) r s (train_at trains i) (train_at trains j) law are_gaps sat.gap (of_pair values (network_of p) trains i j sat.apart h later) one.rules other.rules (sat.each i first) (sat.each j later) one.coded other.coded in
          subst (λ v. AreApart p (told_layout values (length p.candidates)) v (get_or (told_plan values tables trains).runs j d)) (sym (runs_are values tables trains i d first))
          (subst (λ v. AreApart p (told_layout values (length p.candidates)) (told_run values (table_at tables i) (train_at trains i)) v) (sym (runs_are values tables trains j d later)) both);
    }

-- what is told is of the tables
pub plan_inside : (values : List Bool) (p : InstanceParts) (gaps : List (List (List (List CandidateId)))) (tables : List Table) → IsInstance p → AreTables p tables → SatisfiesAll values (whole (plan_families (walks_in gaps) (network_of p) tables (trains_of p tables))) → (i : ℕ) → i < length p.trains → IsInside values (table_at tables i) (train_at (trains_of p tables) i)
plan_inside values p gaps tables rules are all i within =
    let trains : List CodedTrain = trains_of p tables in
    let a : CodedTrain = train_at trains i in
    let table : Table = table_at tables i in
    let train : TrainSpec = get_or p.trains i no_spec in
    let sat = by_family values (walks_in gaps) (network_of p) tables trains all in
    let count : length trains ≡ length p.trains = length-coded p (first_of_trains (network_of p)) tables p.trains are.for_each in
    let one = one_of p tables i train rules are (slice_get-get_or p.trains i no_spec within) in
    let first = told_first values table train a one.coded in
    let low : a.start ≤ told_step values a = first.not_before in
    let high : told_step values a ≤ a.latest = first.not_after in
    let window : a.latest ≤ a.by = one.coded.in_order in
    record {
      entry = All-contains (λ w. w < length table.cells) (cone a (told_step values a)) (told_entry values table a).0 (one.cones (told_step values a) low (omega arith)) (told_entry_is values table train a (sat.each i (omega arith)) one.coded).0.in_cone;
      cones = one.cones;
    }
