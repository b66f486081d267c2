-- Why `add_counter` does what its contract says.
use Rattle.std.proofs.Common.{◌≡◌, ◌<◌, ◌≤◌, ℕ, ◌+◌, ◌-◌, ◌^◌, ◌++◌, List, Bool, true, length, arith}
use Rattle.std.specs.Prelude.{◌↔◌, All, count_by}
use Rattle.sat_core.specs.declared.literal.Lit.{Lit}
use Rattle.sat_core.specs.Clauses.{IsOver, SatisfiesAll}
use Rattle.gate_tables.specs.Wiring.{is_true_in}
use Rattle.border_counter.specs.Counter.{sum_to, at_least_lit, counter_clauses, Counts, counted}
use Rattle.border_counter.specs.Fitting.{FitsCounter}
use Rattle.border_counter.proofs.AddingLemmas.{front_behind, on_err}
use Rattle.border_counter.proofs.OrderLemmas.{few_inputs}
use Rattle.border_counter.proofs.CountingLaws.{counter_law, counter_tells}
use Rattle.border_counter.proofs.ExtendingLaws.{extends}
use Rattle.border_counter.proofs.counter.add_counter.Goals as goal

-- the conditions, of a number of variables by any name
fit : (vars other : ℕ) (inputs : List Lit) (first : ℕ) → All (IsOver (first - 1)) inputs → first + sum_to (length inputs) ≤ vars + 1 → vars < 2 ^ 32 → other ≡ vars → FitsCounter other inputs first
fit vars other inputs first before within numbers same = record { inputs_before = before; within = omega arith; numbers = omega arith }

all_rows : (vars : ℕ) (inputs : List Lit) (first : ℕ) → All (IsOver (first - 1)) inputs → first + sum_to (length inputs) ≤ vars + 1 → vars < 2 ^ 32 → (values : List Bool) → length values ≡ vars → SatisfiesAll values (counter_clauses inputs first (length inputs)) ↔ Counts values inputs first (length inputs)
all_rows vars inputs first before within numbers values total = counter_law values inputs first (fit vars (length values) inputs first before within numbers total)

at_least : (vars : ℕ) (inputs : List Lit) (first : ℕ) → All (IsOver (first - 1)) inputs → first + sum_to (length inputs) ≤ vars + 1 → vars < 2 ^ 32 → (values : List Bool) → length values ≡ vars → SatisfiesAll values (counter_clauses inputs first (length inputs)) → (j : ℕ) → 1 ≤ j → j ≤ length inputs → (is_true_in values (at_least_lit first (length inputs) j) ≡ true) ↔ (j ≤ count_by (is_true_in values) inputs)
at_least vars inputs first before within numbers values total = counter_tells values inputs first (fit vars (length values) inputs first before within numbers total)

extended : (vars : ℕ) (inputs : List Lit) (first : ℕ) → All (IsOver (first - 1)) inputs → first + sum_to (length inputs) ≤ vars + 1 → vars < 2 ^ 32 → (front more : List Bool) → length front ≡ first - 1 → length (front ++ counted front inputs (length inputs) ++ more) ≡ vars → SatisfiesAll (front ++ counted front inputs (length inputs) ++ more) (counter_clauses inputs first (length inputs))
extended vars inputs first before within numbers front more begins total = extends front more inputs first begins (fit vars _ inputs first before within numbers total)

pub add_gates-requires-clause-few : goal.add_gates-requires-clause-few
add_gates-requires-clause-few c = few_inputs c.args.formula.now.vars c.args.inputs.now c.args.first_var (record { inputs_before = c.requires.inputs; within = c.requires.variables; numbers = omega arith })

pub add_order-requires-clause-few : goal.add_order-requires-clause-few
add_order-requires-clause-few c = few_inputs c.args.formula.now.vars c.args.inputs.now c.args.first_var (record { inputs_before = c.requires.inputs; within = c.requires.variables; numbers = omega arith })

pub overflow_cast-result : goal.overflow_cast-result
overflow_cast-result c = let few = few_inputs c.args.formula.now.vars c.args.inputs.now c.args.first_var (record { inputs_before = c.requires.inputs; within = c.requires.variables; numbers = omega arith }) in omega (arith, few)

pub returns-in_err-add_order-clause-err : goal.returns-in_err-add_order-clause-err
returns-in_err-add_order-clause-err c = on_err c.from_residual-in_err-add_order.result (front_behind _ _ _ _ _ c.in_ok-add_gates.ensures.ok c.in_err-add_order.ensures.err).front

pub returns-in_err-add_gates-clause-all_rows : goal.returns-in_err-add_gates-clause-all_rows
returns-in_err-add_gates-clause-all_rows c = all_rows c.args.formula.now.vars c.args.inputs.now c.args.first_var c.requires.inputs c.requires.variables (omega arith)

pub returns-in_err-add_gates-clause-at_least : goal.returns-in_err-add_gates-clause-at_least
returns-in_err-add_gates-clause-at_least c = at_least c.args.formula.now.vars c.args.inputs.now c.args.first_var c.requires.inputs c.requires.variables (omega arith)

pub returns-in_err-add_gates-clause-extends : goal.returns-in_err-add_gates-clause-extends
returns-in_err-add_gates-clause-extends c = extended c.args.formula.now.vars c.args.inputs.now c.args.first_var c.requires.inputs c.requires.variables (omega arith)

pub returns-in_err-add_order-clause-all_rows : goal.returns-in_err-add_order-clause-all_rows
returns-in_err-add_order-clause-all_rows c = all_rows c.args.formula.now.vars c.args.inputs.now c.args.first_var c.requires.inputs c.requires.variables (omega arith)

pub returns-in_err-add_order-clause-at_least : goal.returns-in_err-add_order-clause-at_least
returns-in_err-add_order-clause-at_least c = at_least c.args.formula.now.vars c.args.inputs.now c.args.first_var c.requires.inputs c.requires.variables (omega arith)

pub returns-in_err-add_order-clause-extends : goal.returns-in_err-add_order-clause-extends
returns-in_err-add_order-clause-extends c = extended c.args.formula.now.vars c.args.inputs.now c.args.first_var c.requires.inputs c.requires.variables (omega arith)

pub returns-clause-all_rows : goal.returns-clause-all_rows
returns-clause-all_rows c = all_rows c.args.formula.now.vars c.args.inputs.now c.args.first_var c.requires.inputs c.requires.variables (omega arith)

pub returns-clause-at_least : goal.returns-clause-at_least
returns-clause-at_least c = at_least c.args.formula.now.vars c.args.inputs.now c.args.first_var c.requires.inputs c.requires.variables (omega arith)

pub returns-clause-extends : goal.returns-clause-extends
returns-clause-extends c = extended c.args.formula.now.vars c.args.inputs.now c.args.first_var c.requires.inputs c.requires.variables (omega arith)
