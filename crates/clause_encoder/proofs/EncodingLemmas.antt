-- What is written is an encoding of the task.
use Rattle.std.proofs.Common.{◌≡◌, ◌∙◌, ℕ, ◌+◌, ◌-◌, ◌≤◌, Bool, true, false, List, [], ◌∷◌, ◌++◌, length, refl, sym, ap, subst, arith, length-append, Some}
use Rattle.std.specs.Prelude.{nat_lt, slice_get}
use Rattle.sat_core.specs.declared.literal.Lit.{Lit}
use Rattle.sat_core.specs.Storage.{FormulaParts}
use Rattle.cell_net.specs.declared.ids.CandidateId.{CandidateId}
use Rattle.cell_net.specs.declared.parts.InstanceParts.{InstanceParts}
use Rattle.sweep_table.specs.Tables.{Table}
use Rattle.border_counter.specs.Counter.{sum_to, at_least_lit, not_at_least_lit, gates_of, order_clauses}
use Rattle.clause_list.specs.Numbers.{Network, CodedTrain}
use Rattle.clause_list.specs.BorderClauses.{border_lits, most_clauses}
use Rattle.clause_list.specs.Coding.{given_task, base_task, given_variables, first_of_count}
use Rattle.clause_encoder.specs.declared.task.Task.TheVariants.{Given, Free}
use Rattle.clause_encoder.specs.Maps.{MapParts}
use Rattle.clause_encoder.specs.Plans.{GapLists, counted_task, given_list, base_list, counted_list, free_list, AreNumbers}
use Rattle.clause_encoder.specs.Sizes.{HasFewClauses}
use Rattle.clause_encoder.specs.Encoding.{IsEncoding, IsBaseEncoding}
use Rattle.clause_encoder.proofs.CountLemmas.{order_count, order_stands}
use Rattle.clause_encoder.proofs.EncodeLemmas.{given_is, base_is, counted_is, free_is}

-- of the task of a layout
pub given_encoding : (p : InstanceParts) (tables : List Table) (net : Network) (gaps : GapLists) (trains : List CodedTrain) (behind : ℕ) (layout : List CandidateId) (bound : ℕ) (f : FormulaParts) (m : MapParts) → AreNumbers p tables net gaps trains behind → f.vars ≡ behind - 1 → f.clauses ≡ given_list gaps net tables trains layout → HasFewClauses (given_list gaps net tables trains layout) 0 → m.candidates ≡ length p.candidates → m.trains ≡ trains → m.counts ≡ false → IsEncoding p tables (Given layout) bound f m
given_encoding p tables net gaps trains behind layout bound f m numbers vars clauses few candidates same counts =
    let is : given_list gaps net tables trains layout ≡ given_task p gaps tables layout = given_is p tables net gaps trains behind layout numbers in
    let end : behind ≡ first_of_count p tables = numbers.behind_is in
    let most : behind ≤ 2000001 = numbers.few in
    let sizes : HasFewClauses (given_task p gaps tables layout) 0 = subst (λ xs. HasFewClauses xs 0) is few in
    record {
      gaps = gaps;
      are_gaps = numbers.gaps_are;
      variables = vars ∙ ap (λ n. n - 1) end;
      clauses = clauses ∙ is;
      map = record { candidates = candidates; trains = same ∙ numbers.trains_are };
      counter = counts;
      few = record { walks = numbers.few_walks; few_variables = omega arith; few_clauses = sizes.few; few_literals = sizes.few_literals };
    }

-- the bound is one clause or none, whatever its variable
most_size : (first candidates n bound : ℕ) → candidates ≡ n → length (most_clauses first candidates bound) ≡ length (most_clauses 0 n bound)
most_size first candidates n bound same = by_test (nat_lt bound candidates) refl
  where
    by_test : (b : Bool) → nat_lt bound candidates ≡ b → length (most_clauses first candidates bound) ≡ length (most_clauses 0 n bound)
    by_test true test = let other : nat_lt bound n ≡ true = ap (nat_lt bound) (sym same) ∙ test in rw (test, other) refl
    by_test false test = let other : nat_lt bound n ≡ false = ap (nat_lt bound) (sym same) ∙ test in rw (test, other) refl

-- where the clauses of the order begin
order_place : (base gates most bound whole : List (List Lit)) (first candidates n place : ℕ) → whole ≡ (base ++ (gates ++ order_clauses first candidates)) ++ most → candidates ≡ n → length most ≡ length bound → place ≡ length whole - length bound - (n - 1) → place ≡ length base + length gates
order_place base gates most bound whole first candidates n place same few sizes at =
    let orders : List (List Lit) = order_clauses first candidates in
    let count : length orders ≡ candidates - 1 = order_count first candidates in
    let all : length whole ≡ length (base ++ (gates ++ orders)) + length most = ap length same ∙ length-append (base ++ (gates ++ orders)) most in
    let front : length (base ++ (gates ++ orders)) ≡ length base + length (gates ++ orders) = length-append base (gates ++ orders) in
    let inner : length (gates ++ orders) ≡ length gates + length orders = length-append gates orders in
    omega arith

-- of a free task
pub free_encoding : (p : InstanceParts) (tables : List Table) (net : Network) (gaps : GapLists) (trains : List CodedTrain) (behind bound vars : ℕ) (f : FormulaParts) (m : MapParts) → AreNumbers p tables net gaps trains behind → vars ≡ behind - 1 + sum_to (length p.candidates) → vars ≤ 2000000 → f.vars ≡ vars → f.clauses ≡ free_list gaps net tables trains behind bound → HasFewClauses (counted_list gaps net tables trains behind) 1 → m.candidates ≡ length p.candidates → m.trains ≡ trains → m.counts ≡ true → m.first_of_count ≡ behind → m.before_order ≡ length f.clauses - length (most_clauses 0 (length p.candidates) bound) - (length p.candidates - 1) → IsEncoding p tables Free bound f m
unfolding free_list counted_list
free_encoding p tables net gaps trains behind bound vars f m numbers total few_vars is_vars clauses few candidates same counts first before =
    let n : ℕ = length p.candidates in
    let net_n : net.candidates ≡ n = ap (λ x. x.candidates) numbers.net_is in
    let end : behind ≡ first_of_count p tables = numbers.behind_is in
    let base : List (List Lit) = base_list gaps net tables trains in
    let gates : List (List Lit) = gates_of (border_lits net.candidates) behind net.candidates in
    let most : List (List Lit) = most_clauses behind net.candidates bound in
    let sizes : HasFewClauses (counted_task p gaps tables) 1 = subst (λ xs. HasFewClauses xs 1) (counted_is p tables net gaps trains behind numbers) few in
    record {
      gaps = gaps;
      are_gaps = numbers.gaps_are;
      variables = is_vars ∙ total ∙ ap (λ k. k - 1 + sum_to n) end;
      clauses = clauses ∙ free_is p tables net gaps trains behind bound numbers;
      map = record { candidates = candidates; trains = same ∙ numbers.trains_are };
      counter = record {
        counts = counts;
        first = first ∙ end;
        order = λ j some less.
            let place : m.before_order ≡ length base + length gates = order_place base gates most (most_clauses 0 n bound) f.clauses behind net.candidates n m.before_order clauses net_n (most_size behind net.candidates n bound net_n) before in
            subst (λ k. slice_get f.clauses (m.before_order + j - 1) ≡ Some (not_at_least_lit m.first_of_count k (j + 1) ∷ at_least_lit m.first_of_count k j ∷ [])) net_n
            (subst (λ k. slice_get f.clauses (m.before_order + j - 1) ≡ Some (not_at_least_lit k net.candidates (j + 1) ∷ at_least_lit k net.candidates j ∷ [])) (sym first)
            (order_stands base gates most f.clauses behind net.candidates j m.before_order clauses place some (omega (arith, net_n, less))));
      };
      few = record { walks = numbers.few_walks; few_variables = subst (λ k. k ≤ 2000000) (total ∙ ap (λ k. k - 1 + sum_to n) end) few_vars; few_clauses = sizes.few; few_literals = sizes.few_literals };
    }

-- how many variables a task has is within the limit
pub few_given : (p : InstanceParts) (tables : List Table) (net : Network) (gaps : GapLists) (trains : List CodedTrain) (behind : ℕ) → AreNumbers p tables net gaps trains behind → given_variables p tables ≤ 2000000
few_given p tables net gaps trains behind numbers = let end : behind ≡ first_of_count p tables = numbers.behind_is in let most : behind ≤ 2000001 = numbers.few in omega arith

-- the bound and the order are clauses of the list
pub order_fits : (gaps : GapLists) (net : Network) (tables : List Table) (trains : List CodedTrain) (behind bound n : ℕ) (clauses : List (List Lit)) → clauses ≡ free_list gaps net tables trains behind bound → n ≡ net.candidates → length (most_clauses 0 n bound) + (n - 1) ≤ length clauses
unfolding free_list counted_list
order_fits gaps net tables trains behind bound n clauses same few =
    let base : List (List Lit) = base_list gaps net tables trains in
    let gates : List (List Lit) = gates_of (border_lits net.candidates) behind net.candidates in
    let orders : List (List Lit) = order_clauses behind net.candidates in
    let most : List (List Lit) = most_clauses behind net.candidates bound in
    let size : length most ≡ length (most_clauses 0 n bound) = most_size behind net.candidates n bound (sym few) in
    let count : length orders ≡ net.candidates - 1 = order_count behind net.candidates in
    let all : length clauses ≡ length (base ++ (gates ++ orders)) + length most = ap length same ∙ length-append (base ++ (gates ++ orders)) most in
    let front : length (base ++ (gates ++ orders)) ≡ length base + length (gates ++ orders) = length-append base (gates ++ orders) in
    let inner : length (gates ++ orders) ≡ length gates + length orders = length-append gates orders in
    omega arith

-- few clauses stand before the order
pub order_few : (gaps : GapLists) (net : Network) (tables : List Table) (trains : List CodedTrain) (behind bound n place : ℕ) (clauses : List (List Lit)) → clauses ≡ free_list gaps net tables trains behind bound → n ≡ net.candidates → HasFewClauses (counted_list gaps net tables trains behind) 1 → place ≡ length clauses - length (most_clauses 0 n bound) - (n - 1) → place ≤ 8000000
unfolding free_list
order_few gaps net tables trains behind bound n place clauses same few sizes at =
    let most : List (List Lit) = most_clauses behind net.candidates bound in
    let size : length most ≡ length (most_clauses 0 n bound) = most_size behind net.candidates n bound (sym few) in
    let all : length clauses ≡ length (counted_list gaps net tables trains behind) + length most = ap length same ∙ length-append (counted_list gaps net tables trains behind) most in
    let least : length (counted_list gaps net tables trains behind) + 1 ≤ 8000000 = sizes.few in
    omega arith

-- of the list of a free task without its counter and its bound
pub base_encoding : (p : InstanceParts) (tables : List Table) (net : Network) (gaps : GapLists) (trains : List CodedTrain) (behind more : ℕ) (f : FormulaParts) (m : MapParts) → AreNumbers p tables net gaps trains behind → behind - 1 + more ≤ 2000000 → f.vars ≡ behind - 1 + more → f.clauses ≡ base_list gaps net tables trains → HasFewClauses (base_list gaps net tables trains) 0 → m.candidates ≡ length p.candidates → m.trains ≡ trains → m.counts ≡ false → IsBaseEncoding p tables more f m
base_encoding p tables net gaps trains behind more f m numbers most vars clauses few candidates same counts =
    let is : base_list gaps net tables trains ≡ base_task p gaps tables = base_is p tables net gaps trains behind numbers in
    let end : behind ≡ first_of_count p tables = numbers.behind_is in
    let sizes : HasFewClauses (base_task p gaps tables) 0 = subst (λ xs. HasFewClauses xs 0) is few in
    record {
      gaps = gaps;
      are_gaps = numbers.gaps_are;
      variables = vars ∙ ap (λ n. n - 1 + more) end;
      clauses = clauses ∙ is;
      map = record { candidates = candidates; trains = same ∙ numbers.trains_are };
      counter = counts;
      few = record { walks = numbers.few_walks; few_variables = omega (arith, end, most); few_clauses = sizes.few; few_literals = sizes.few_literals };
    }
