-- Why `add_row` does what its contract says.
use Rattle.std.proofs.Common.{◌≡◌, ◌+◌, ◌^◌, refl, subst, arith}
use Rattle.std.specs.Prelude.{IsOk}
use Rattle.std.specs.List.{flat_map, range_with_len}
use Rattle.std.proofs.lemmas.Bool.{false≢true}
use Rattle.border_counter.specs.Adding.{AddsAll}
use Rattle.border_counter.specs.Counter.{gate_at, row_clauses}
use Rattle.border_counter.proofs.AddingLemmas.{adds_none, adds_more, front_more, room_more, few_more, on_err}
use Rattle.border_counter.proofs.rows.add_row.Goals as goal

pub loop-before-init : goal.loop-before-init
loop-before-init c = adds_none c.args.formula.now

pub add_gate-requires-clause-numbered : goal.add_gate-requires-clause-numbered
unfolding row_clauses
add_gate-requires-clause-numbered c = few_more (gate_at c.args.inputs.now c.args.first_var c.args.row) c.args.row c.loop-before.before (c.loop-before.before + 1) (2 ^ 32) _ _ (omega arith) refl c.loop-before.invariant c.requires.numbered

pub returns-in_err-add_gate-clause-err : goal.returns-in_err-add_gate-clause-err
unfolding row_clauses
returns-in_err-add_gate-clause-err c = on_err c.from_residual.result (front_more (gate_at c.args.inputs.now c.args.first_var c.args.row) c.args.row c.loop-before.before (c.loop-before.before + 1) _ _ _ (omega arith) refl c.loop-before.invariant c.in_err-add_gate.ensures.err)

pub returns-in_err-add_gate-clause-within_room : goal.returns-in_err-add_gate-clause-within_room
unfolding row_clauses
returns-in_err-add_gate-clause-within_room c = λ room. absurd (false≢true (subst IsOk c.in_err-add_gate.was (c.add_gate.ensures.within_room (room_more (gate_at c.args.inputs.now c.args.first_var c.args.row) c.args.row c.loop-before.before (c.loop-before.before + 1) _ _ (omega arith) refl c.loop-before.invariant room))))

pub loop-before-preserved : goal.loop-before-preserved
loop-before-preserved c = adds_more (gate_at c.args.inputs.now c.args.first_var c.args.row) c.loop-before.before (c.loop-before.before + 1) _ _ _ refl c.loop-before.invariant c.in_ok-add_gate.ensures.ok

pub returns-clause-ok : goal.returns-clause-ok
unfolding row_clauses
returns-clause-ok c = let all : c.loop-before.before ≡ c.args.row = omega arith in subst (λ k. AddsAll c.args.formula.now (flat_map (gate_at c.args.inputs.now c.args.first_var c.args.row) (range_with_len 1 k)) c.loop-before.formula) all c.loop-before.invariant
