-- Why `add_gates` does what its contract says.
use Rattle.std.proofs.Common.{◌≡◌, ◌+◌, ◌^◌, length, refl, subst, arith}
use Rattle.std.specs.Prelude.{IsOk}
use Rattle.std.specs.List.{flat_map, range_with_len}
use Rattle.std.proofs.lemmas.Bool.{false≢true}
use Rattle.border_counter.specs.Adding.{AddsAll}
use Rattle.border_counter.specs.Counter.{row_clauses, gates_of}
use Rattle.border_counter.proofs.AddingLemmas.{adds_none, adds_more, front_more, room_more, few_more, on_err}
use Rattle.border_counter.proofs.rows.add_gates.Goals as goal

pub loop-before-init : goal.loop-before-init
loop-before-init c = adds_none c.args.formula.now

pub add_row-requires-clause-numbered : goal.add_row-requires-clause-numbered
unfolding gates_of
add_row-requires-clause-numbered c = few_more (row_clauses c.args.inputs.now c.args.first_var) (length c.args.inputs.now) c.loop-before.before (c.loop-before.before + 1) (2 ^ 32) _ _ (omega arith) refl c.loop-before.invariant c.requires.numbered

pub returns-in_err-add_row-clause-err : goal.returns-in_err-add_row-clause-err
unfolding gates_of
returns-in_err-add_row-clause-err c = on_err c.from_residual.result (front_more (row_clauses c.args.inputs.now c.args.first_var) (length c.args.inputs.now) c.loop-before.before (c.loop-before.before + 1) _ _ _ (omega arith) refl c.loop-before.invariant c.in_err-add_row.ensures.err)

pub returns-in_err-add_row-clause-within_room : goal.returns-in_err-add_row-clause-within_room
unfolding gates_of
returns-in_err-add_row-clause-within_room c = λ room. absurd (false≢true (subst IsOk c.in_err-add_row.was (c.add_row.ensures.within_room (room_more (row_clauses c.args.inputs.now c.args.first_var) (length c.args.inputs.now) c.loop-before.before (c.loop-before.before + 1) _ _ (omega arith) refl c.loop-before.invariant room))))

pub loop-before-preserved : goal.loop-before-preserved
loop-before-preserved c = adds_more (row_clauses c.args.inputs.now c.args.first_var) c.loop-before.before (c.loop-before.before + 1) _ _ _ refl c.loop-before.invariant c.in_ok-add_row.ensures.ok

pub returns-clause-ok : goal.returns-clause-ok
unfolding gates_of
returns-clause-ok c = let all : c.loop-before.before ≡ (length c.args.inputs.now) = omega arith in subst (λ k. AddsAll c.args.formula.now (flat_map (row_clauses c.args.inputs.now c.args.first_var) (range_with_len 1 k)) c.loop-before.formula) all c.loop-before.invariant
