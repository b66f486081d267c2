-- The counter of the encoder's map, and what a valuation says of the number of borders.
use Rattle.std.proofs.Common.{◌≡◌, ◌∙◌, ℕ, zero, suc, ◌+◌, ◌-◌, ◌<◌, ◌≤◌, nat_lt, Bool, true, false, cond, List, [], ◌∷◌, ◌++◌, length, refl, sym, ap, subst, arith, Some}
use Rattle.std.specs.Prelude.{slice_get}
use Rattle.std.proofs.lemmas.Bool.Decides.{nat_tests}
use Rattle.std.proofs.lemmas.List.{append-nil}
use Rattle.std.proofs.lemmas.List.Elements.{All-cons, All-nil}
use Rattle.sat_core.specs.declared.literal.Lit.{Lit}
use Rattle.sat_core.specs.Clauses.{IsOver, IsTrueIn, Satisfies, SatisfiesAll}
use Rattle.sat_core.specs.Storage.{FormulaParts}
use Rattle.border_counter.specs.Counter.{sum_to, at_least_var, at_least_lit, not_at_least_lit}
use Rattle.cell_net.specs.Plans.{IsLawful}
use Rattle.cell_net.specs.Rules.{IsInstance}
use Rattle.cell_net.specs.declared.ids.CandidateId.{CandidateId}
use Rattle.cell_net.specs.declared.parts.InstanceParts.{InstanceParts}
use Rattle.cell_net.specs.declared.plans.Plan.{Plan}
use Rattle.clause_list.specs.BorderClauses.{most_clauses}
use Rattle.clause_list.specs.Coding.{first_of_count, network_of}
use Rattle.clause_list.specs.Numbers.{first_of_trains}
use Rattle.clause_list.proofs.CodedLaws.{behind_grows}
use Rattle.clause_encoder.specs.Maps.{MapParts}
use Rattle.derivation_log.specs.declared.step.Bound.TheVariants.{AtMost}
use Rattle.plan_decoder.specs.Decoding.{kept_tables, SatisfiesCount}
use Rattle.task_driver.specs.Encodings.{IsBoundEncoding}
use Rattle.task_driver.specs.Outcomes.{formula_of}
use Rattle.task_driver.specs.Questions.{Formulas}
use Rattle.task_driver.specs.Underway.{HasCounter}
use Rattle.task_driver.proofs.EncodingLemmas.{FreeFormulasSay, clauses_are, formulas_in}
use Rattle.task_driver.proofs.TableLemmas.{tables_in}
use Rattle.task_driver.proofs.Truth.{layout_counts}

-- the formula of all candidates has no unit
pub no_unit : (f : Formulas) (p : InstanceParts) → formula_of f p (AtMost (length p.candidates)) ≡ f.free
no_unit f p =
    let test : nat_lt (length p.candidates) (length p.candidates) ≡ false = grind (arith, nat_tests) in
    ap (λ (b : Bool). f.free ++ cond b ((f.unit (length p.candidates) ∷ []) ∷ []) []) test ∙ append-nil f.free

sum_more : (n : ℕ) → sum_to (suc n) ≡ sum_to n + suc n
unfolding sum_to
sum_more n = omega arith

-- the last row of the counter
sum_last : (n : ℕ) → 0 < n → sum_to n ≡ sum_to (n - 1) + n
sum_last zero some = absurd (omega arith)
sum_last (suc n) some = let before : suc n - 1 ≡ n = omega arith in sum_more n ∙ ap (λ (k : ℕ). sum_to k + suc n) (sym before)

pub counter_in : (p : InstanceParts) (f : FormulaParts) (m : MapParts) (e : IsBoundEncoding p (AtMost (length p.candidates)) f m) → HasCounter p (formulas_in p (AtMost (length p.candidates)) f m e) m
counter_in p f m e =
    let n : ℕ = length p.candidates in
    let first : m.first_of_count ≡ first_of_count p (tables_in p m.tables) = e.encoding.counter.first in
    let count : m.candidates ≡ n = e.encoding.map.candidates in
    let some : first_of_trains (network_of p) ≤ first_of_count p (tables_in p m.tables) = behind_grows p (first_of_trains (network_of p)) (tables_in p m.tables) p.trains in
    let free : f.clauses ≡ (formulas_in p (AtMost n) f m e).free = clauses_are p (AtMost n) f m e ∙ no_unit (formulas_in p (AtMost n) f m e) p in
    record {
      counts = e.encoding.counter.counts;
      candidates = count;
      unit = λ k. ap (λ (v : ℕ). not_at_least_lit v n (k + 1)) (sym first) ∙ ap (λ (c : ℕ). not_at_least_lit m.first_of_count c (k + 1)) (sym count);
      after = omega (arith, some, first);
      before = λ k below. omega (arith, first, some, sum_last n (omega arith), ap (λ (c : ℕ). sum_to (c - 1)) count);
      order = λ j from to.
          subst (λ (cs : List (List Lit)). slice_get cs (m.before_order + j - 1) ≡ Some (not_at_least_lit m.first_of_count m.candidates (j + 1) ∷ at_least_lit m.first_of_count m.candidates j ∷ [])) free
          (subst (λ (c : ℕ). slice_get f.clauses (m.before_order + j - 1) ≡ Some (not_at_least_lit m.first_of_count c (j + 1) ∷ at_least_lit m.first_of_count c j ∷ [])) (sym count) (e.encoding.counter.order j from to));
    }

-- the literal of a bound is over the variables
pub literal_over : (p : InstanceParts) (f : Formulas) (m : MapParts) (k : ℕ) → HasCounter p f m → k < length p.candidates → IsOver f.free_vars (not_at_least_lit m.first_of_count m.candidates (k + 1))
literal_over p f m k counter below = (omega (arith, counter.after), counter.before k below)

one_true : (values : List Bool) (lit : Lit) → IsTrueIn values lit → Satisfies values (lit ∷ [])
unfolding Satisfies
one_true values lit is = (0, lit, omega arith, refl, is)

-- where the unit of a bound is true, its clause is satisfied
unit_satisfied : (values : List Bool) (first n k : ℕ) → k < n → IsTrueIn values (record { var = record { 0 = at_least_var first n (k + 1) }; positive = false }) → SatisfiesAll values (most_clauses first n k)
unit_satisfied values first n k below is =
    let lit : Lit = record { var = record { 0 = at_least_var first n (k + 1) }; positive = false } in
    let test : nat_lt k n ≡ true = grind (arith, nat_tests) in
    subst (λ (b : Bool). SatisfiesAll values (cond b ((lit ∷ []) ∷ []) [])) (sym test) (All-cons (Satisfies values) (lit ∷ []) [] (one_true values lit is) (All-nil (Satisfies values)))

-- what is known of a layout that was decoded from a valuation of the formula
pub record IsCounted (p : InstanceParts) (f : Formulas) (values : List Bool) (layout : List CandidateId) : Type 0 where
  pub below : (k : ℕ) → k < length p.candidates → IsTrueIn values (f.unit k) → length layout ≤ k
  pub most : length layout ≤ length p.candidates
  pub least : length p.kept ≤ length layout

pub counted_layout : (p : InstanceParts) (f : FormulaParts) (m : MapParts) (e : IsBoundEncoding p (AtMost (length p.candidates)) f m) (values : List Bool) (layout : List CandidateId) (plan : Plan)
    → FreeFormulasSay → IsInstance p → length values ≡ f.vars → SatisfiesAll values f.clauses → IsLawful p layout plan
    → ((most : ℕ) → SatisfiesCount p (kept_tables p m) most values → length layout ≤ most) → IsCounted p (formulas_in p (AtMost (length p.candidates)) f m e) values layout
counted_layout p f m e values layout plan say rules size sat lawful count =
    let n : ℕ = length p.candidates in
    let all : SatisfiesCount p (tables_in p m.tables) n values =
    (say values p e.encoding.gaps (tables_in p m.tables) n e.encoding.are_gaps (size ∙ e.encoding.variables) (omega (arith, e.encoding.few.few_variables, e.encoding.variables)) (subst (SatisfiesAll values) e.encoding.clauses sat)).1 in
    record {
      below = λ k less is. count k (record { variables = all.variables; few = all.few; counter = all.counter; bound = unit_satisfied values (first_of_count p (tables_in p m.tables)) n k less is });
      most = count n all;
      least = (layout_counts p rules layout lawful.layout).0;
    }
