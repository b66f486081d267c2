-- Steps of the loops over trains, and what the laws say of what is decoded.
use Rattle.std.proofs.Common.{◌≡◌, ℕ, ◌+◌, ◌-◌, ◌<◌, ◌≤◌, Bool, true, List, [], ◌∷◌, ◌++◌, length, get_or, map, refl, sym, ap, ◌∙◌, subst, ⊎_elim, arith}
use Rattle.std.specs.Prelude.{Contains, ◌↔◌}
use Rattle.std.proofs.lemmas.List.{get_or-map, length-map}
use Rattle.std.proofs.lemmas.List.FromFn.{map-range_with_len_more}
use Rattle.cell_net.specs.Rules.{IsInstance}
use Rattle.cell_net.specs.declared.ids.CandidateId.{CandidateId}
use Rattle.cell_net.specs.declared.plans.Plan.{Plan}
use Rattle.cell_net.specs.declared.plans.TrainRun.{TrainRun}
use Rattle.cell_net.specs.declared.parts.InstanceParts.{InstanceParts}
use Rattle.sweep_table.specs.Tables.{Table}
use Rattle.clause_list.specs.Coding.{trains_of}
use Rattle.clause_list.specs.Numbers.{CodedTrain, border}
use Rattle.clause_list.specs.Ranges.{from_below, below}
use Rattle.clause_list.specs.Values.{value}
use Rattle.clause_list.specs.WholeList.{no_table, table_at, train_at}
use Rattle.clause_list.proofs.ListLaws.{length-below}
use Rattle.clause_encoder.specs.TableLists.{table_over, tables_of}
use Rattle.plan_laws.specs.Chains.{AreChains}
use Rattle.plan_laws.specs.Laws.{CountTells, FreeTaskTells, GivenTaskTells, TellsChains}
use Rattle.plan_laws.specs.Satisfied.{AreTables}
use Rattle.plan_laws.specs.Telling.{IsInside, told_layout, told_plan, told_run, told_run_of}
use Rattle.plan_laws.proofs.LayoutLaws.{layout_has}
use Rattle.plan_decoder.specs.Decoding.{SatisfiesCount, SatisfiesFree, SatisfiesGiven, SatisfiesTask}

pub runs_none : (run : ℕ → TrainRun) → [] ≡ map run (from_below 0 0)
unfolding from_below
runs_none run = refl

pub runs_more : (run : ℕ → TrainRun) (n : ℕ) (old new : List TrainRun) (this : TrainRun) → old ≡ map run (from_below 0 n) → new ≡ old ++ this ∷ [] → this ≡ run n → new ≡ map run (from_below 0 (n + 1))
unfolding from_below
runs_more run n old new this before grown is =
    let e : n + 1 - 0 ≡ n + 1 = omega arith in let z : n - 0 ≡ n = omega arith in
    grown ∙ ap (λ xs. xs ++ this ∷ []) before ∙ ap (λ r. map run (from_below 0 n) ++ r ∷ []) is ∙ sym (rw (e, z) (map-range_with_len_more run 0 n n (omega arith)))

-- the table of a place
pub table_is : {X : Type 0} (table : X → InstanceParts → Table) (p : InstanceParts) (xs : List X) (i : ℕ) (x : X) → i < length xs → x ≡ get_or xs i x → table_at (tables_of table p xs) i ≡ table x p
table_is table p xs i x within is = get_or-map (table_over table p) xs i x no_table within ∙ ap (table_over table p) (sym is)

pub one_run : {X : Type 0} (table : X → InstanceParts → Table) (values : List Bool) (p : InstanceParts) (xs : List X) (trains : List CodedTrain) (i : ℕ) (x : X) (a : CodedTrain) (run : TrainRun) → i < length xs → x ≡ get_or xs i x → a ≡ train_at trains i → run ≡ told_run values (table x p) a → run ≡ told_run_of values (tables_of table p xs) trains i
unfolding told_run_of
one_run table values p xs trains i x a run within is numbers told =
    told ∙ ap (λ t. told_run values t a) (sym (table_is table p xs i x within is)) ∙ ap (told_run values (table_at (tables_of table p xs) i)) numbers

pub size_of : {X : Type 0} (table : X → InstanceParts → Table) (p : InstanceParts) (xs : List X) → length (tables_of table p xs) ≡ length xs
size_of table p xs = length-map xs (table_over table p)

-- what the laws say of a valuation that satisfies the clauses of one of the tasks
pub tells : (values : List Bool) (p : InstanceParts) (tables : List Table) → ((gaps : List (List (List (List CandidateId)))) → FreeTaskTells values p gaps tables) → ((gaps : List (List (List (List CandidateId)))) (layout : List CandidateId) → GivenTaskTells values p gaps tables layout) → IsInstance p → AreTables p tables → SatisfiesTask p tables values → TellsChains values p tables
tells values p tables free given rules are some = ⊎_elim
    (λ (sat : SatisfiesFree p tables values). free sat.gaps rules sat.are_gaps are sat.clauses)
    (λ (sat : (layout : List CandidateId) × SatisfiesGiven p tables layout values). (given sat.1.gaps sat.0 rules sat.1.are_gaps are sat.1.is_layout sat.1.clauses).0)
    some

-- there are numbers for each train
pub numbers_for_each : (values : List Bool) (p : InstanceParts) (tables : List Table) (trains : List CodedTrain) → TellsChains values p tables → trains ≡ trains_of p tables → length trains ≡ length p.trains
numbers_for_each values p tables trains told same =
    let runs : length (map (told_run_of values tables (trains_of p tables)) (below (length (trains_of p tables)))) ≡ length (below (length (trains_of p tables))) = length-map (below (length (trains_of p tables))) (told_run_of values tables (trains_of p tables)) in
    ap length same ∙ (sym (runs ∙ length-below (length (trains_of p tables))) ∙ told.chains.for_each)

-- what is decoded is what is told
pub inside_of : (values seen : List Bool) (p : InstanceParts) (tables : List Table) (trains : List CodedTrain) → TellsChains values p tables → seen ≡ values → trains ≡ trains_of p tables → (i : ℕ) → i < length p.trains → IsInside seen (table_at tables i) (train_at trains i)
inside_of values seen p tables trains told same numbers i within =
    subst (λ vs. IsInside vs (table_at tables i) (train_at trains i)) (sym same) (subst (λ ts. IsInside values (table_at tables i) (train_at ts i)) (sym numbers) (told.inside i within))

pub chains_of : (values seen : List Bool) (p : InstanceParts) (tables : List Table) (trains : List CodedTrain) (layout : List CandidateId) (plan : Plan) → TellsChains values p tables → seen ≡ values → trains ≡ trains_of p tables → layout ≡ told_layout seen (length p.candidates) → plan ≡ told_plan seen tables trains → AreChains p layout tables plan
chains_of values seen p tables trains layout plan told same numbers is_layout is_plan =
    subst (λ v. AreChains p layout tables v) (sym (is_plan ∙ ap (λ vs. told_plan vs tables trains) same ∙ ap (told_plan values tables) numbers))
    (subst (λ l. AreChains p l tables (told_plan values tables (trains_of p tables))) (sym (is_layout ∙ ap (λ vs. told_layout vs (length p.candidates)) same)) told.chains)

pub borders_are : (values seen : List Bool) (n : ℕ) (layout : List CandidateId) (c : CandidateId) → seen ≡ values → layout ≡ told_layout seen n → Contains layout c ↔ (c.0 < n) × (value values (border c.0) ≡ true)
borders_are values seen n layout c same is = subst (λ l. Contains l c ↔ (c.0 < n) × (value values (border c.0) ≡ true)) (sym (is ∙ ap (λ vs. told_layout vs n) same)) (layout_has values n c)

pub few_borders : (values seen : List Bool) (p : InstanceParts) (tables : List Table) (most : ℕ) (layout : List CandidateId) → CountTells values p tables most → seen ≡ values → layout ≡ told_layout seen (length p.candidates) → SatisfiesCount p tables most values → length layout ≤ most
few_borders values seen p tables most layout law same is sat = subst (λ l. length l ≤ most) (sym (is ∙ ap (λ vs. told_layout vs (length p.candidates)) same)) (law sat.variables sat.few sat.counter sat.bound)
