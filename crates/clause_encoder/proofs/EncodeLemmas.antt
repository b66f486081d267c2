-- The lists that are written are those of the task, and what is said of their sizes.
use Rattle.std.proofs.Common.{◌≡◌, ◌∙◌, ℕ, ◌+◌, ◌-◌, ◌<◌, ◌≤◌, List, [], ◌∷◌, ◌++◌, length, take, refl, sym, ap, subst, arith}
use Rattle.std.specs.Prelude.{All}
use Rattle.std.specs.List.{flat_map}
use Rattle.std.proofs.lemmas.List.{append-nil, get_or-map, length-map}
use Rattle.std.proofs.lemmas.List.Concat.{flat_map-append}
use Rattle.sat_core.specs.declared.literal.Lit.{Lit}
use Rattle.cell_net.specs.Rules.{IsInstance}
use Rattle.cell_net.specs.declared.ids.CandidateId.{CandidateId}
use Rattle.cell_net.specs.declared.parts.InstanceParts.{InstanceParts}
use Rattle.sweep_table.specs.Tables.{Table, IsTable}
use Rattle.gap_clauses.specs.Gaps.{AreGaps}
use Rattle.gap_clauses.specs.Crowds.{IsGapRefusal}
use Rattle.gap_clauses.specs.declared.refusal.GapRefusal.{GapRefusal}
use Rattle.gap_clauses.specs.declared.refusal.GapRefusal.TheVariants as why
use Rattle.border_counter.specs.Counter.{sum_to, counter_clauses}
use Rattle.clause_list.specs.Ranges.{from_below}
use Rattle.clause_list.specs.Numbers.{Network, CodedTrain, first_of_trains}
use Rattle.clause_list.specs.BorderClauses.{border_lits, most_clauses}
use Rattle.clause_list.specs.WholeList.{of_each_train, of_train, by_each_train, by_train, base_families, counted_families, whole}
use Rattle.clause_list.specs.Coding.{network_of, trains_of, coded_from, behind_all, first_of_count, walks_in, given_task, base_task, free_task}
use Rattle.clause_list.proofs.CodedLaws.{coded_are_numbered}
use Rattle.clause_list.proofs.WalkLaws.{walks_are_over}
use Rattle.clause_encoder.specs.declared.task.EncodeRefusal.{EncodeRefusal}
use Rattle.clause_encoder.specs.declared.task.EncodeRefusal.TheVariants.{TooManySweeps, TooManyWalks, TooManyVariables, TooManyClauses, TooManyLiterals, Memory}
use Rattle.clause_encoder.specs.TableLists.{IsKnownBy, table_over, tables_of}
use Rattle.clause_encoder.specs.Plans.{GapLists, counted_task, plan_family, plan_list, given_list, base_list, counted_list, free_list, HasFewWalks, AreNumbers, IsNumbersRefusal, gap_refusal}
use Rattle.clause_encoder.specs.PlanFits.{PlanFits, FitsGiven, FitsBase, FitsCount}
use Rattle.sat_core.specs.Clauses.{IsClause}
use Rattle.clause_list.specs.Orders.{AreAllNumbered}
use Rattle.clause_list.proofs.WholeLaws.{base_are_clauses, given_task_are_clauses}
use Rattle.clause_encoder.specs.Sizes.{IsSizeRefusal}
use Rattle.clause_encoder.specs.Writing.{literal_count}
use Rattle.clause_encoder.specs.Encoding.{IsListRefusal}
use Rattle.clause_encoder.proofs.BuildLemmas.{front_le}
use Rattle.clause_encoder.proofs.FitLemmas.{all_fit}

-- the families by their numbers are the families in their order
pub plan_is : (gaps : GapLists) (net : Network) (tables : List Table) (trains : List CodedTrain) → flat_map (plan_family gaps net tables trains) (from_below 0 11) ≡ plan_list gaps net tables trains
unfolding from_below plan_family plan_list of_each_train of_train by_each_train by_train
plan_is gaps net tables trains = refl

-- the lists that are written are those of the tasks
pub given_is : (p : InstanceParts) (tables : List Table) (net : Network) (gaps : GapLists) (trains : List CodedTrain) (behind : ℕ) (layout : List CandidateId) → AreNumbers p tables net gaps trains behind → given_list gaps net tables trains layout ≡ given_task p gaps tables layout
unfolding given_list plan_list
given_is p tables net gaps trains behind layout numbers = rw (numbers.net_is, numbers.trains_are) refl

pub base_is : (p : InstanceParts) (tables : List Table) (net : Network) (gaps : GapLists) (trains : List CodedTrain) (behind : ℕ) → AreNumbers p tables net gaps trains behind → base_list gaps net tables trains ≡ base_task p gaps tables
unfolding base_list plan_list
base_is p tables net gaps trains behind numbers = rw (numbers.net_is, numbers.trains_are) refl

one_more : (families : List (List (List Lit))) (last : List (List Lit)) → whole (families ++ last ∷ []) ≡ whole families ++ last
one_more families last = flat_map-append (λ family. family) families (last ∷ []) ∙ ap (λ xs. whole families ++ xs) (append-nil last)

pub counted_is : (p : InstanceParts) (tables : List Table) (net : Network) (gaps : GapLists) (trains : List CodedTrain) (behind : ℕ) → AreNumbers p tables net gaps trains behind → counted_list gaps net tables trains behind ≡ counted_task p gaps tables
unfolding counted_list base_list plan_list
counted_is p tables net gaps trains behind numbers =
    rw (numbers.behind_is, numbers.net_is, numbers.trains_are) (sym (one_more (base_families (walks_in gaps) (network_of p) tables (trains_of p tables)) (counter_clauses (border_lits (length p.candidates)) (first_of_count p tables) (length p.candidates))))

pub free_is : (p : InstanceParts) (tables : List Table) (net : Network) (gaps : GapLists) (trains : List CodedTrain) (behind most : ℕ) → AreNumbers p tables net gaps trains behind → free_list gaps net tables trains behind most ≡ free_task p gaps tables most
unfolding free_list
free_is p tables net gaps trains behind most numbers =
    ap (λ xs. xs ++ most_clauses behind net.candidates most) (counted_is p tables net gaps trains behind numbers)
    ∙ ap (λ n. counted_task p gaps tables ++ most_clauses n net.candidates most) numbers.behind_is
    ∙ ap (λ n. counted_task p gaps tables ++ most_clauses (first_of_count p tables) n most) (ap (λ n. n.candidates) numbers.net_is)
    ∙ sym (one_more (counted_families (walks_in gaps) (network_of p) tables (trains_of p tables) (first_of_count p tables)) (most_clauses (first_of_count p tables) (length p.candidates) most))

-- the numbers behind the trains are behind those of the borders
pub after_borders : (p : InstanceParts) (tables : List Table) → length p.candidates < first_of_count p tables
after_borders p tables =
    let first : ℕ = first_of_trains (network_of p) in
    let le : behind_all first (coded_from p first (take 0 tables) (take 0 p.trains)) ≤ first_of_count p tables = front_le p first tables p.trains 0 in
    omega arith

-- each of the tables is one
pub tables_are : {X : Type 0} (items : X → ℕ) (table : X → InstanceParts → Table) (p : InstanceParts) (tables : List X) → All (IsKnownBy items table p) tables → All (IsTable p) (tables_of table p tables)
tables_are items table p [] known i d within = absurd (omega arith)
tables_are items table p (x ∷ tables) known i d within =
    let place : i < length (x ∷ tables) = omega (arith, length-map (x ∷ tables) (table_over table p)) in
    subst (IsTable p) (sym (get_or-map (table_over table p) (x ∷ tables) i x d place)) (known i x place).rules

-- the numbers of an instance fit one another
pub plan_fits : {X : Type 0} (items : X → ℕ) (table : X → InstanceParts → Table) (p : InstanceParts) (tables : List X) (net : Network) (gaps : GapLists) (trains : List CodedTrain) (behind : ℕ) → IsInstance p → length tables ≡ length p.trains → All (IsKnownBy items table p) tables → AreNumbers p (tables_of table p tables) net gaps trains behind → PlanFits items table p tables net gaps trains
plan_fits items table p tables net gaps trains behind rules same known numbers =
    let all : List Table = tables_of table p tables in
    let few : first_of_count p all ≤ 2000001 = subst (λ n. n ≤ 2000001) numbers.behind_is numbers.few in
    let numbered = coded_are_numbered p all 2000000 rules (length-map tables (table_over table p) ∙ same) (tables_are items table p tables known) few in
    let fit = all_fit items table p tables trains rules same known numbers.trains_are few in
    record {
      fit = fit;
      cells = rw (numbers.net_is, numbers.trains_are) (record { few = (let n : length trains ≤ 32 = fit.few in subst (λ ts. length ts ≤ 32) numbers.trains_are n); cells = numbered.cells });
      over = rw numbers.net_is numbered.kept;
      walks = rw numbers.net_is (walks_are_over p gaps numbers.gaps_are);
    }

-- why there are no numbers is why there is no list
pub numbers_refused : (refusal : EncodeRefusal) (p : InstanceParts) (tables : List Table) (variables : ℕ) (clauses : GapLists → List (List Lit)) (units : ℕ) → first_of_count p tables ≤ variables + 1 → IsNumbersRefusal p tables refusal → IsListRefusal p variables clauses units refusal
numbers_refused (TooManySweeps train) p tables variables clauses units le cause = cause
numbers_refused (TooManyWalks section) p tables variables clauses units le cause = record { crowded = cause.0; first = cause.1 }
numbers_refused TooManyVariables p tables variables clauses units le cause = (cause.0, let many : 2000001 < first_of_count p tables = cause.1 in omega arith)
numbers_refused TooManyClauses p tables variables clauses units le cause = absurd cause
numbers_refused TooManyLiterals p tables variables clauses units le cause = absurd cause
numbers_refused Memory p tables variables clauses units le cause = tt

-- what is too much of the list that is counted is too much of the task's
pub size_refused : (refusal : EncodeRefusal) (p : InstanceParts) (variables : ℕ) (clauses : GapLists → List (List Lit)) (units : ℕ) (gaps : GapLists) (list : List (List Lit)) → AreGaps p gaps → HasFewWalks p → variables ≤ 2000000 → list ≡ clauses gaps → IsSizeRefusal list units refusal → IsListRefusal p variables clauses units refusal
size_refused (TooManySweeps train) p variables clauses units gaps list are few le same cause = cause
size_refused (TooManyWalks section) p variables clauses units gaps list are few le same cause = absurd cause
size_refused TooManyVariables p variables clauses units gaps list are few le same cause = absurd cause
size_refused TooManyClauses p variables clauses units gaps list are few le same cause = record { gaps = gaps; are_gaps = are; walks = few; few_variables = le; many = subst (λ xs. 8000000 < length xs + units) same cause }
size_refused TooManyLiterals p variables clauses units gaps list are few le same cause = record { gaps = gaps; are_gaps = are; walks = few; few_variables = le; few_clauses = subst (λ xs. length xs + units ≤ 8000000) same cause.0; many = subst (λ xs. 32000000 < literal_count xs + units) same cause.1 }
size_refused Memory p variables clauses units gaps list are few le same cause = tt

-- the numbers of an instance's trains are numbers of so many variables
numbered_over : {X : Type 0} (items : X → ℕ) (table : X → InstanceParts → Table) (p : InstanceParts) (tables : List X) (vars : ℕ) → IsInstance p → length tables ≡ length p.trains → All (IsKnownBy items table p) tables → first_of_count p (tables_of table p tables) ≤ vars + 1 → AreAllNumbered vars (network_of p) (tables_of table p tables) (trains_of p (tables_of table p tables))
numbered_over items table p tables vars rules same known last =
    coded_are_numbered p (tables_of table p tables) vars rules (length-map tables (table_over table p) ∙ same) (tables_are items table p tables known) last

-- the numbers fit the list of a layout's task, which is one of clauses
pub given_fit : {X : Type 0} (items : X → ℕ) (table : X → InstanceParts → Table) (p : InstanceParts) (tables : List X) (net : Network) (gaps : GapLists) (trains : List CodedTrain) (behind : ℕ) (layout : List CandidateId) → IsInstance p → length tables ≡ length p.trains → All (IsKnownBy items table p) tables → AreNumbers p (tables_of table p tables) net gaps trains behind → FitsGiven items table p tables net gaps trains layout (behind - 1)
given_fit items table p tables net gaps trains behind layout rules same known numbers =
    let last : first_of_count p (tables_of table p tables) ≤ behind - 1 + 1 = (let is : behind ≡ first_of_count p (tables_of table p tables) = numbers.behind_is in let after : net.candidates < behind = numbers.after in omega arith) in
    record {
      plan = plan_fits items table p tables net gaps trains behind rules same known numbers;
      clauses = record { each = subst (All (IsClause (behind - 1))) (sym (given_is p (tables_of table p tables) net gaps trains behind layout numbers)) (given_task_are_clauses (behind - 1) (walks_in gaps) (network_of p) (tables_of table p tables) (trains_of p (tables_of table p tables)) layout (numbered_over items table p tables (behind - 1) rules same known last) (walks_are_over p gaps numbers.gaps_are)) };
    }

-- and that of a free task without its counter
pub base_fit : {X : Type 0} (items : X → ℕ) (table : X → InstanceParts → Table) (p : InstanceParts) (tables : List X) (net : Network) (gaps : GapLists) (trains : List CodedTrain) (behind vars : ℕ) → IsInstance p → length tables ≡ length p.trains → All (IsKnownBy items table p) tables → AreNumbers p (tables_of table p tables) net gaps trains behind → behind ≤ vars + 1 → FitsBase items table p tables net gaps trains vars
base_fit items table p tables net gaps trains behind vars rules same known numbers within =
    let last : first_of_count p (tables_of table p tables) ≤ vars + 1 = subst (λ n. n ≤ vars + 1) numbers.behind_is within in
    record {
      plan = plan_fits items table p tables net gaps trains behind rules same known numbers;
      clauses = record { each = subst (All (IsClause vars)) (sym (base_is p (tables_of table p tables) net gaps trains behind numbers)) (base_are_clauses vars (walks_in gaps) (network_of p) (tables_of table p tables) (trains_of p (tables_of table p tables)) (numbered_over items table p tables vars rules same known last) (walks_are_over p gaps numbers.gaps_are)) };
    }

-- and with its counter
pub count_fit : {X : Type 0} (items : X → ℕ) (table : X → InstanceParts → Table) (p : InstanceParts) (tables : List X) (net : Network) (gaps : GapLists) (trains : List CodedTrain) (behind vars : ℕ) → IsInstance p → length tables ≡ length p.trains → All (IsKnownBy items table p) tables → AreNumbers p (tables_of table p tables) net gaps trains behind → behind + sum_to (length p.candidates) ≤ vars + 1 → FitsCount items table p tables net gaps trains behind vars
count_fit items table p tables net gaps trains behind vars rules same known numbers within = record {
  base = base_fit items table p tables net gaps trains behind vars rules same known numbers (omega arith);
  after = numbers.after;
  few = numbers.few;
  within = subst (λ n. behind + sum_to n.candidates ≤ vars + 1) (sym numbers.net_is) within;
}

-- the first number of trains is at most the one behind them
pub first_le : (p : InstanceParts) (tables : List Table) (net : Network) (first : ℕ) → net ≡ network_of p → first ≡ first_of_trains net → first ≤ first_of_count p tables
first_le p tables net first same is =
    let start : first ≡ first_of_trains (network_of p) = is ∙ ap first_of_trains same in
    let le : behind_all (first_of_trains (network_of p)) (coded_from p (first_of_trains (network_of p)) (take 0 tables) (take 0 p.trains)) ≤ first_of_count p tables = front_le p (first_of_trains (network_of p)) tables p.trains 0 in
    omega (arith, start, le)

-- what was made is the numbers of the instance
pub are_numbers : (p : InstanceParts) (tables : List Table) (net : Network) (gaps : GapLists) (trains : List CodedTrain) (first behind : ℕ) → net ≡ network_of p → AreGaps p gaps → HasFewWalks p → first ≡ first_of_trains net → trains ≡ coded_from p first tables p.trains → behind ≡ behind_all first trains → behind ≤ 2000001 → AreNumbers p tables net gaps trains behind
are_numbers p tables net gaps trains first behind same are walks is coded end few =
    let start : first ≡ first_of_trains (network_of p) = is ∙ ap first_of_trains same in
    let trains_are : trains ≡ trains_of p tables = coded ∙ ap (λ n. coded_from p n tables p.trains) start in
    let last : behind ≡ first_of_count p tables = end ∙ ap (λ n. behind_all n trains) start ∙ ap (behind_all (first_of_trains (network_of p))) trains_are in
    let borders : length p.candidates < first_of_count p tables = after_borders p tables in
    let count : net.candidates ≡ length p.candidates = ap (λ n. n.candidates) same in
    record { net_is = same; gaps_are = are; few_walks = walks; trains_are = trains_are; behind_is = last; after = omega (arith, last, borders, count); few = few }

-- why there are no gaps is why there are no numbers
pub gaps_refused : (fault : GapRefusal) (p : InstanceParts) (tables : List Table) (refusal : EncodeRefusal) → IsGapRefusal p fault → refusal ≡ gap_refusal fault → IsNumbersRefusal p tables refusal
gaps_refused (why.TooManyWalks section) p tables refusal cause same = subst (IsNumbersRefusal p tables) (sym same) cause
gaps_refused why.Memory p tables refusal cause same = subst (IsNumbersRefusal p tables) (sym same) tt
