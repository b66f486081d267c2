-- The values of chains that are apart satisfy the clauses of a task.
use Rattle.std.proofs.Common.{◌≡◌, ℕ, zero, suc, ◌+◌, ◌-◌, ◌<◌, Bool, List, [], ◌∷◌, ◌++◌, length, get_or, refl, sym, ap, ◌∙◌, subst, arith, Some, length-append}
use Rattle.std.specs.Prelude.{AllPairs, slice_get}
use Rattle.std.specs.List.{flat_map}
use Rattle.std.proofs.lemmas.List.Elements.{All-nil, All-append}
use Rattle.std.proofs.lemmas.Option.{slice_get-get_or, get_or_from_slice_get, slice_get_within}
use Rattle.sat_core.specs.declared.literal.Lit.{Lit}
use Rattle.sat_core.specs.Clauses.{Satisfies, SatisfiesAll}
use Rattle.cell_net.specs.Plans.{AreApart}
use Rattle.cell_net.specs.Rules.{IsInstance, IsGoodTrain}
use Rattle.cell_net.specs.declared.cells.End.TheVariants.{Low}
use Rattle.cell_net.specs.declared.ids.CandidateId.{CandidateId}
use Rattle.cell_net.specs.declared.parts.InstanceParts.{InstanceParts}
use Rattle.cell_net.specs.declared.plans.Plan.{Plan}
use Rattle.cell_net.specs.declared.plans.TrainRun.{TrainRun}
use Rattle.cell_net.specs.declared.trains.TrainSpec.{TrainSpec}
use Rattle.gap_clauses.specs.Gaps.{AreGaps}
use Rattle.gap_clauses.specs.Laws.{CandidatesSeparate}
use Rattle.sweep_table.specs.Tables.{Table, IsTable}
use Rattle.clause_list.specs.Ranges.{below, from_below}
use Rattle.clause_list.specs.Numbers.{CodedTrain, Network, first_of_trains, touch}
use Rattle.clause_list.specs.Coding.{network_of, coded, trains_of, first_of_count, walks_in}
use Rattle.clause_list.specs.RunClauses.{enter_clauses, go_on_clauses, stay_ended_clauses, gone_clauses, touch_clauses}
use Rattle.clause_list.specs.StopClauses.{stop_at, no_stop, stop_met_clauses, stop_in_run_clauses, stand_clauses, stop_after_entry_clauses}
use Rattle.clause_list.specs.BorderClauses.{kept_clauses, given_clauses, gap_clauses}
use Rattle.clause_list.specs.PairClauses.{apart_clauses}
use Rattle.clause_list.specs.WholeList.{no_table, table_at, train_at, of_train, of_each_train, by_train, by_each_train, apart_of_two, apart_of, apart_of_all, plan_families, base_families, given_families, whole}
use Rattle.clause_list.specs.Orders.{IsNumbered, FitsTable, AreAllNumbered, AreWalksOver}
use Rattle.clause_list.proofs.ListLaws.{in_range_is}
use Rattle.clause_list.proofs.CodedLaws.{coded_at, coded_are_numbered, length-coded_from}
use Rattle.clause_list.proofs.WalkLaws.{walks_are_over}
use Rattle.plan_laws.specs.Chains.{IsChainRun, AreChains}
use Rattle.plan_laws.specs.Satisfied.{AreTables}
use Rattle.plan_values.specs.Values.{ChainItems, chain_at, touches, border_values, gap_values, values_of_trains, base_values, given_values}
use Rattle.plan_values.specs.Meanings.{Is, Means, BordersMean, AllMean, IsChainOf, IsChainOfRun, AreChainsOfRuns}
use Rattle.plan_values.specs.Laws.{RunsHaveChains}
use Rattle.plan_values.proofs.Making.{make_each}
use Rattle.plan_values.proofs.PartLaws.{IsPart, front_part, back_part, part_at}
use Rattle.plan_values.proofs.TrainMeaning.{train_means}
use Rattle.plan_values.proofs.Running.{enter_holds, go_on_holds, stay_ended_holds, gone_holds, touch_holds}
use Rattle.plan_values.proofs.Stopping.{stop_met_holds, stop_in_run_holds, stand_holds, stop_after_entry_holds}
use Rattle.plan_values.proofs.Bordering.{borders_mean, kept_holds, given_holds, gap_holds, apart_holds}
use Rattle.plan_values.proofs.Choosing.{numbers_of, chain_of}
use Rattle.plan_values.proofs.Placing.{length-border_values, length-gap_values, train_part, length-values_of_trains}
use Rattle.plan_values.proofs.Parting.{keep_apart}

-- stands for a train where there is none
some_train : TrainSpec
some_train = record { length = 0; advance = 0; entry = record { cell = record { 0 = 0 }; end = Low }; goal = record { cell = record { 0 = 0 }; end = Low }; start = 0; latest = 0; by = 0; stops = [] }

-- the chain of the run of a place
record IsChosen (table : Table) (train : TrainSpec) (runs : List TrainRun) (i : ℕ) (c : ChainItems) : Type 0 where
  run : TrainRun
  at : slice_get runs i ≡ Some run
  of : IsChainOfRun table train run c

-- chains for so many places
record AreChosen (n : ℕ) (fits : ℕ → ChainItems → Type 0) : Type 0 where
  chains : List ChainItems
  count : length chains ≡ n
  each : (i : ℕ) → i < n → fits i (chain_at chains i)

one_more : (fits : ℕ → ChainItems → Type 0) (n : ℕ) (c : ChainItems) (chains : List ChainItems) → fits 0 c → ((i : ℕ) → i < n → fits (suc i) (chain_at chains i)) → (i : ℕ) → i < suc n → fits i (chain_at (c ∷ chains) i)
one_more fits n c chains here rest zero within = here
one_more fits n c chains here rest (suc i) within = rest i (omega arith)

choose : (n : ℕ) (fits : ℕ → ChainItems → Type 0) → ((i : ℕ) → i < n → (c : ChainItems) × fits i c) → AreChosen n fits
choose zero fits each = record { chains = []; count = refl; each = λ i within. absurd (omega arith) }
choose (suc n) fits each =
    let (c, here) = each 0 (omega arith) in
    let others = choose n (λ i. fits (suc i)) (λ i within. each (suc i) (omega arith)) in
    record { chains = c ∷ others.chains; count = ap suc others.count; each = one_more fits n c others.chains here others.each }

-- what each train has: numbers in order, values of its meanings, and a chain
record IsReady (values : List Bool) (vars : ℕ) (table : Table) (a : CodedTrain) (c : ChainItems) : Type 0 where
  numbered : IsNumbered vars a
  fits : FitsTable table a
  means : Means values table a c.from c.items
  chain : IsChainOf table a c.from c.items
  dwells : (i : ℕ) → i < length a.stops → 0 < (stop_at a i).dwell

each_train_holds : (values : List Bool) (family : Table → CodedTrain → List (List Lit)) (tables : List Table) (trains : List CodedTrain) → ((i : ℕ) → i < length trains → SatisfiesAll values (family (table_at tables i) (train_at trains i))) → SatisfiesAll values (of_each_train family tables trains)
unfolding of_each_train of_train
each_train_holds values family tables trains each = make_each values (of_train family tables trains) (below (length trains)) (λ i inside. each i (in_range_is 0 (length trains) i inside).1)

each_numbers_hold : (values : List Bool) (family : CodedTrain → List (List Lit)) (trains : List CodedTrain) → ((i : ℕ) → i < length trains → SatisfiesAll values (family (train_at trains i))) → SatisfiesAll values (by_each_train family trains)
unfolding by_each_train by_train
each_numbers_hold values family trains each = make_each values (by_train family trains) (below (length trains)) (λ i inside. each i (in_range_is 0 (length trains) i inside).1)

all_apart_hold : (values : List Bool) (net : Network) (trains : List CodedTrain) → ((i j : ℕ) → i < j → j < length trains → SatisfiesAll values (apart_clauses net (train_at trains i) (train_at trains j))) → SatisfiesAll values (apart_of_all net trains)
unfolding apart_of_all apart_of apart_of_two
all_apart_hold values net trains each =
    make_each values (apart_of net trains) (below (length trains)) (λ i one.
    make_each values (apart_of_two net trains i) (from_below (i + 1) (length trains)) (λ j other. let (after, within) = in_range_is (i + 1) (length trains) j other in each i j (omega arith) within))

both : (values : List Bool) (family : List (List Lit)) (families : List (List (List Lit))) → SatisfiesAll values family → SatisfiesAll values (flat_map (λ each. each) families) → SatisfiesAll values (flat_map (λ each. each) (family ∷ families))
both values family families one others = All-append (Satisfies values) family (flat_map (λ each. each) families) one others

-- the families of gaps and trains hold, where the trains are ready
plan_holds : (values : List Bool) (vars : ℕ) (walks : ℕ → ℕ → List (List CandidateId)) (net : Network) (tables : List Table) (trains : List CodedTrain) (borders : List CandidateId) (chains : List ChainItems) → BordersMean values walks net borders → AreWalksOver net walks → ((i : ℕ) → i < length trains → IsReady values vars (table_at tables i) (train_at trains i) (chain_at chains i)) → ((i j : ℕ) → i < j → j < length trains → SatisfiesAll values (apart_clauses net (train_at trains i) (train_at trains j))) → SatisfiesAll values (whole (plan_families walks net tables trains))
plan_holds values vars walks net tables trains borders chains mean over ready apart =
    let from_after_entry : List (List (List Lit)) = by_each_train stop_after_entry_clauses trains ∷ [] in
    let from_stands : List (List (List Lit)) = of_each_train stand_clauses tables trains ∷ from_after_entry in
    let from_in_runs : List (List (List Lit)) = by_each_train stop_in_run_clauses trains ∷ from_stands in
    let from_mets : List (List (List Lit)) = by_each_train stop_met_clauses trains ∷ from_in_runs in
    let from_aparts : List (List (List Lit)) = apart_of_all net trains ∷ from_mets in
    let from_touched : List (List (List Lit)) = of_each_train touch_clauses tables trains ∷ from_aparts in
    let from_gones : List (List (List Lit)) = by_each_train gone_clauses trains ∷ from_touched in
    let from_stays : List (List (List Lit)) = by_each_train stay_ended_clauses trains ∷ from_gones in
    let from_goes : List (List (List Lit)) = of_each_train go_on_clauses tables trains ∷ from_stays in
    let from_enters : List (List (List Lit)) = of_each_train enter_clauses tables trains ∷ from_goes in
    both values (gap_clauses walks net) from_enters (gap_holds values walks net borders mean over)
    (both values (of_each_train enter_clauses tables trains) from_goes (each_train_holds values enter_clauses tables trains (λ i within. let r = ready i within in enter_holds values (table_at tables i) (train_at trains i) (chain_at chains i).from (chain_at chains i).items r.means r.chain r.numbered.enters_in_time))
    (both values (of_each_train go_on_clauses tables trains) from_stays (each_train_holds values go_on_clauses tables trains (λ i within. let r = ready i within in go_on_holds values (table_at tables i) (train_at trains i) (chain_at chains i).from (chain_at chains i).items r.means r.chain))
    (both values (by_each_train stay_ended_clauses trains) from_gones (each_numbers_hold values stay_ended_clauses trains (λ i within. stay_ended_holds values (table_at tables i) (train_at trains i) (chain_at chains i).from (chain_at chains i).items (ready i within).means))
    (both values (by_each_train gone_clauses trains) from_touched (each_numbers_hold values gone_clauses trains (λ i within. gone_holds values (table_at tables i) (train_at trains i) (chain_at chains i).from (chain_at chains i).items (ready i within).means))
    (both values (of_each_train touch_clauses tables trains) from_aparts (each_train_holds values touch_clauses tables trains (λ i within. let r = ready i within in touch_holds values (table_at tables i) (train_at trains i) (chain_at chains i).from (chain_at chains i).items r.means r.fits))
    (both values (apart_of_all net trains) from_mets (all_apart_hold values net trains apart)
    (both values (by_each_train stop_met_clauses trains) from_in_runs (each_numbers_hold values stop_met_clauses trains (λ i within. let r = ready i within in stop_met_holds values (table_at tables i) (train_at trains i) (chain_at chains i).from (chain_at chains i).items r.means r.chain r.dwells))
    (both values (by_each_train stop_in_run_clauses trains) from_stands (each_numbers_hold values stop_in_run_clauses trains (λ i within. let r = ready i within in stop_in_run_holds values (table_at tables i) (train_at trains i) (chain_at chains i).from (chain_at chains i).items r.means r.dwells))
    (both values (of_each_train stand_clauses tables trains) from_after_entry (each_train_holds values stand_clauses tables trains (λ i within. stand_holds values (table_at tables i) (train_at trains i) (chain_at chains i).from (chain_at chains i).items (ready i within).means))
    (both values (by_each_train stop_after_entry_clauses trains) [] (each_numbers_hold values stop_after_entry_clauses trains (λ i within. let r = ready i within in stop_after_entry_holds values (table_at tables i) (train_at trains i) (chain_at chains i).from (chain_at chains i).items r.means r.dwells))
    (All-nil (Satisfies values))))))))))))

-- a train with its chain is ready, where its values stand in the valuation
ready_of : (p : InstanceParts) (values : List Bool) (vars : ℕ) (tables : List Table) (chains : List ChainItems) (runs : List TrainRun) (i : ℕ) → IsInstance p → AreTables p tables → AreAllNumbered vars (network_of p) tables (trains_of p tables) → length chains ≡ length p.trains → IsPart values (first_of_trains (network_of p)) (values_of_trains tables (trains_of p tables) chains) → i < length p.trains → IsChosen (table_at tables i) (get_or p.trains i some_train) runs i (chain_at chains i) → IsReady values vars (table_at tables i) (train_at (trains_of p tables) i) (chain_at chains i)
ready_of p values vars tables chains runs i rules are numbered count part within chosen =
    let trains : List CodedTrain = trains_of p tables in
    let size : length trains ≡ length p.trains = length-coded_from p (first_of_trains (network_of p)) tables p.trains are.for_each in
    let at = coded_at p (first_of_trains (network_of p)) tables p.trains i some_train are.for_each within in
    let table : Table = table_at tables i in
    let train : TrainSpec = get_or p.trains i some_train in
    let good : IsGoodTrain p i train = rules.trains.at_each i train (slice_get-get_or p.trains i some_train within) in
    let table_rules : IsTable p table = are.each i no_table (omega (arith, are.for_each)) in
    let chain : IsChainOf table (coded p at.from table train) chosen.run.start (numbers_of chosen.of.ids) = chain_of p at.from table train chosen.run.start chosen.of.ids table_rules chosen.of.chain in
    let moved : IsChainOf table (coded p at.from table train) (chain_at chains i).from (chain_at chains i).items = subst (λ (c : ChainItems). IsChainOf table (coded p at.from table train) c.from c.items) (sym chosen.of.is) chain in
    record {
      numbered = numbered.each i (omega arith);
      fits = numbered.fit i (omega arith);
      means = train_means values table (train_at trains i) (chain_at chains i).from (chain_at chains i).items vars (numbered.each i (omega arith)) (train_part p values (first_of_trains (network_of p)) vars tables p.trains chains i are.for_each count (λ k inside. numbered.each k (omega arith)) part within);
      chain = subst (λ a. IsChainOf table a (chain_at chains i).from (chain_at chains i).items) (sym at.is) moved;
      dwells = subst (λ (a : CodedTrain). (k : ℕ) → k < length a.stops → 0 < (stop_at a k).dwell) (sym at.is) (λ k inside. (good.stops k no_stop inside).stands);
    }

-- where the values of a task stand
record AreTaskParts (values : List Bool) (p : InstanceParts) (gaps : List (List (List (List CandidateId)))) (tables : List Table) (borders : List CandidateId) (chains : List ChainItems) : Type 0 where
  borders_at : IsPart values 1 (border_values (network_of p) borders)
  gaps_at : IsPart values ((network_of p).candidates + 1) (gap_values (walks_in gaps) (network_of p) borders)
  trains_at : IsPart values (first_of_trains (network_of p)) (values_of_trains tables (trains_of p tables) chains)

task_parts : (values : List Bool) (p : InstanceParts) (gaps : List (List (List (List CandidateId)))) (tables : List Table) (borders : List CandidateId) (chains : List ChainItems) → IsPart values 1 (base_values (walks_in gaps) (network_of p) tables (trains_of p tables) borders chains) → AreTaskParts values p gaps tables borders chains
task_parts values p gaps tables borders chains part =
    let net : Network = network_of p in
    let of_borders : List Bool = border_values net borders in
    let of_gaps : List Bool = gap_values (walks_in gaps) net borders in
    let of_trains : List Bool = values_of_trains tables (trains_of p tables) chains in
    let behind_borders : IsPart values (net.candidates + 1) (of_gaps ++ of_trains) = part_at values (1 + length of_borders) (net.candidates + 1) (of_gaps ++ of_trains) (omega (arith, length-border_values net borders)) (back_part values 1 of_borders (of_gaps ++ of_trains) part) in
    record {
      borders_at = front_part values 1 of_borders (of_gaps ++ of_trains) part;
      gaps_at = front_part values (net.candidates + 1) of_gaps of_trains behind_borders;
      trains_at = part_at values (net.candidates + 1 + length of_gaps) (first_of_trains net) of_trains (omega (arith, length-gap_values (walks_in gaps) net borders)) (back_part values (net.candidates + 1) of_gaps of_trains behind_borders);
    }

-- how many values there are
pub length-base_values : (p : InstanceParts) (gaps : List (List (List (List CandidateId)))) (tables : List Table) (borders : List CandidateId) (chains : List ChainItems) (vars : ℕ) → AreTables p tables → AreAllNumbered vars (network_of p) tables (trains_of p tables) → length chains ≡ length p.trains → length (base_values (walks_in gaps) (network_of p) tables (trains_of p tables) borders chains) ≡ first_of_count p tables - 1
length-base_values p gaps tables borders chains vars are numbered count =
    let net : Network = network_of p in
    let first : ℕ = first_of_trains net in
    let size : length (trains_of p tables) ≡ length p.trains = length-coded_from p first tables p.trains are.for_each in
    let of_borders : List Bool = border_values net borders in
    let of_gaps : List Bool = gap_values (walks_in gaps) net borders in
    let of_trains : List Bool = values_of_trains tables (trains_of p tables) chains in
    let all : first + length of_trains ≡ first_of_count p tables = length-values_of_trains p first vars tables p.trains chains are.for_each count (λ k inside. numbered.each k (omega arith)) in
    omega (arith, length-append of_borders (of_gaps ++ of_trains), length-append of_gaps of_trains, length-border_values net borders, length-gap_values (walks_in gaps) net borders)

-- the runs of chains have chains
pub runs_have_chains : (p : InstanceParts) (tables : List Table) (borders : List CandidateId) (plan : Plan) → RunsHaveChains p tables borders plan
runs_have_chains p tables borders plan chains =
    let no_run : TrainRun = record { start = 0; sweeps = [] } in
    let chosen = choose (length p.trains) (λ i c. IsChosen (table_at tables i) (get_or p.trains i some_train) plan.runs i c) (λ i within.
    let train : TrainSpec = get_or p.trains i some_train in
    let run : TrainRun = get_or plan.runs i no_run in
    let there : slice_get plan.runs i ≡ Some run = slice_get-get_or plan.runs i no_run (omega (arith, chains.for_each)) in
    let of : IsChainRun (table_at tables i) train run = chains.each i train run (slice_get-get_or p.trains i some_train within) there in
    (record { from = run.start; items = numbers_of of.items }, record { run = run; at = there; of = record { ids = of.items; chain = of.chain; touches = of.touches; is = refl } })) in (
      chosen.chains,
      record {
        for_each = chosen.count;
        each = λ i train r is_train is_run.
            let this = chosen.each i (slice_get_within p.trains i train is_train) in
            let same_run : this.run ≡ r = sym (get_or_from_slice_get plan.runs i this.run no_run this.at) ∙ get_or_from_slice_get plan.runs i r no_run is_run in
            subst (λ s. IsChainOfRun (table_at tables i) s r (chain_at chosen.chains i)) (get_or_from_slice_get p.trains i train some_train is_train)
            (subst (λ s. IsChainOfRun (table_at tables i) (get_or p.trains i some_train) s (chain_at chosen.chains i)) same_run this.of);
      },
    )

-- the chain of a place is that of the run there
chosen_at : (p : InstanceParts) (borders : List CandidateId) (tables : List Table) (plan : Plan) (chains : List ChainItems) (i : ℕ) → AreChains p borders tables plan → AreChainsOfRuns p tables plan chains → i < length p.trains → IsChosen (table_at tables i) (get_or p.trains i some_train) plan.runs i (chain_at chains i)
chosen_at p borders tables plan chains i are of_runs within =
    let run : TrainRun = get_or plan.runs i (record { start = 0; sweeps = [] }) in
    let there : slice_get plan.runs i ≡ Some run = slice_get-get_or plan.runs i (record { start = 0; sweeps = [] }) (omega (arith, are.for_each)) in
    record { run = run; at = there; of = of_runs.each i (get_or p.trains i some_train) run (slice_get-get_or p.trains i some_train within) there }

-- two trains' clauses hold, where their runs are apart
pair_holds : (p : InstanceParts) (values : List Bool) (vars : ℕ) (gaps : List (List (List (List CandidateId)))) (tables : List Table) (borders : List CandidateId) (chains : List ChainItems) (runs : List TrainRun) (i j : ℕ) → BordersMean values (walks_in gaps) (network_of p) borders → CandidatesSeparate p borders gaps → AllPairs (AreApart p borders) runs → AreAllNumbered vars (network_of p) tables (trains_of p tables) → i < j → j < length (trains_of p tables) → j < length runs → IsReady values vars (table_at tables i) (train_at (trains_of p tables) i) (chain_at chains i) → IsReady values vars (table_at tables j) (train_at (trains_of p tables) j) (chain_at chains j) → IsChosen (table_at tables i) (get_or p.trains i some_train) runs i (chain_at chains i) → IsChosen (table_at tables j) (get_or p.trains j some_train) runs j (chain_at chains j) → SatisfiesAll values (apart_clauses (network_of p) (train_at (trains_of p tables) i) (train_at (trains_of p tables) j))
pair_holds p values vars gaps tables borders chains runs i j mean law pairs numbered less within in_runs one other chosen chosen_too =
    let a : CodedTrain = train_at (trains_of p tables) i in
    let b : CodedTrain = train_at (trains_of p tables) j in
    let first_run : get_or runs i chosen.run ≡ chosen.run = get_or_from_slice_get runs i chosen.run chosen.run chosen.at in
    let second_run : get_or runs j chosen.run ≡ chosen_too.run = get_or_from_slice_get runs j chosen_too.run chosen.run chosen_too.at in
    let are_apart : AreApart p borders chosen.run chosen_too.run = subst (λ r. AreApart p borders r chosen_too.run) first_run (subst (AreApart p borders (get_or runs i chosen.run)) second_run (pairs i j chosen.run less in_runs)) in
    let keep = keep_apart p borders gaps (table_at tables i) (table_at tables j) chosen.run chosen_too.run chosen.of.ids chosen_too.of.ids law are_apart chosen.of.touches chosen_too.of.touches in
    let cells : a.cells ≡ length (network_of p).sections = numbered.cells i (omega arith) in
    let cells_too : b.cells ≡ length (network_of p).sections = numbered.cells j within in
    apart_holds values (walks_in gaps) (network_of p) borders a b (touches (table_at tables i) chosen.run.start (numbers_of chosen.of.ids)) (touches (table_at tables j) chosen_too.run.start (numbers_of chosen_too.of.ids)) mean
    (λ t e h k few. subst (λ (c : ChainItems). Is values (touch a t e) (touches (table_at tables i) c.from c.items t e)) chosen.of.is (one.means.touch t e h k (omega arith)))
    (λ t e h k few. subst (λ (c : ChainItems). Is values (touch b t e) (touches (table_at tables j) c.from c.items t e)) chosen_too.of.is (other.means.touch t e h k (omega arith)))
    keep

-- what the values of chains do, in each valuation that begins with them
pub record AreSatisfying (p : InstanceParts) (gaps : List (List (List (List CandidateId)))) (tables : List Table) (borders : List CandidateId) (chains : List ChainItems) : Type 0 where
  pub size : length (given_values p gaps tables borders chains) ≡ first_of_count p tables - 1
  pub mean : (values : List Bool) → IsPart values 1 (given_values p gaps tables borders chains) → AllMean values p gaps tables borders chains
  pub given : (values : List Bool) → IsPart values 1 (given_values p gaps tables borders chains) → SatisfiesAll values (whole (given_families (walks_in gaps) (network_of p) tables (trains_of p tables) borders))
  pub free : (values : List Bool) → IsPart values 1 (given_values p gaps tables borders chains) → SatisfiesAll values (whole (base_families (walks_in gaps) (network_of p) tables (trains_of p tables)))

pub satisfied : (p : InstanceParts) (gaps : List (List (List (List CandidateId)))) (tables : List Table) (borders : List CandidateId) (plan : Plan) (chains : List ChainItems) → IsInstance p → AreGaps p gaps → AreTables p tables → AreChains p borders tables plan → AreChainsOfRuns p tables plan chains → CandidatesSeparate p borders gaps → AreSatisfying p gaps tables borders chains
satisfied p gaps tables borders plan chains rules gap_rules are are_chains of_runs law =
    let net : Network = network_of p in
    let walks : ℕ → ℕ → List (List CandidateId) = walks_in gaps in
    let trains : List CodedTrain = trains_of p tables in
    let vars : ℕ = first_of_count p tables in
    let numbered : AreAllNumbered vars net tables trains = coded_are_numbered p tables vars rules are.for_each are.each (omega arith) in
    let over : AreWalksOver net walks = walks_are_over p gaps gap_rules in
    let count : length trains ≡ length p.trains = length-coded_from p (first_of_trains net) tables p.trains are.for_each in
    let base : List Bool = given_values p gaps tables borders chains in
    let chosen = λ (i : ℕ) (within : i < length p.trains). chosen_at p borders tables plan chains i are_chains of_runs within in
    let ready = λ (values : List Bool) (part : IsPart values 1 base) (i : ℕ) (within : i < length trains). ready_of p values vars tables chains plan.runs i rules are numbered of_runs.for_each (task_parts values p gaps tables borders chains part).trains_at (omega arith) (chosen i (omega arith)) in
    let mean = λ (values : List Bool) (part : IsPart values 1 base). borders_mean values walks net borders (task_parts values p gaps tables borders chains part).borders_at (task_parts values p gaps tables borders chains part).gaps_at in
    let families = λ (values : List Bool) (part : IsPart values 1 base). plan_holds values vars walks net tables trains borders chains (mean values part) over (ready values part)
    (λ i j less within. pair_holds p values vars gaps tables borders chains plan.runs i j (mean values part) law are_chains.apart numbered less within (omega (arith, are_chains.for_each)) (ready values part i (omega arith)) (ready values part j within) (chosen i (omega arith)) (chosen j (omega arith))) in
    record {
      size = length-base_values p gaps tables borders chains vars are numbered of_runs.for_each;
      mean = λ values part. record { borders_mean = mean values part; trains_mean = λ i within. (ready values part i (omega arith)).means };
      given = λ values part. both values (given_clauses net borders) (plan_families walks net tables trains) (given_holds values walks net borders (mean values part)) (families values part);
      free = λ values part. both values (kept_clauses net) (plan_families walks net tables trains) (kept_holds values walks net borders (mean values part) numbered.kept are_chains.layout.holds_kept) (families values part);
    }
