-- Why `ClauseWriter::take_counter` does what its contract says.
use Rattle.std.proofs.Common.{◌*◌, ◌^◌, ◌≤◌, length, sym, arith}
use Rattle.border_counter.specs.Counter.{counter_clauses}
use Rattle.clause_encoder.proofs.CounterLemmas.{counter_few, writer_counted}
use Rattle.clause_encoder.proofs.writer.ClauseWriter.take_counter.Goals as goal

pub overflow_add-lits : goal.overflow_add-lits
overflow_add-lits c =
    let few = counter_few c.args.inputs.now c.args.first (length c.args.inputs.now) in
    let count = c.counter_size-size.ensures.clauses c.args.inputs.now c.args.first in
    let lits = c.counter_size-size.ensures.lits c.args.inputs.now c.args.first in
    let before : c.self.inside.lits ≤ c.self.inside.count * 2 ^ 32 = c.self.invariant.few_lits in
    omega (arith, few, count, lits, before, c.self.invariant.few, c.self.invariant.within)

pub invariant_of-self-2 : goal.invariant_of-self-2
invariant_of-self-2 c =
    let few = counter_few c.args.inputs.now c.args.first (length c.args.inputs.now) in
    let count = c.counter_size-size.ensures.clauses c.args.inputs.now c.args.first in
    let lits = c.counter_size-size.ensures.lits c.args.inputs.now c.args.first in
    writer_counted _ _ _ _ _ _ _ _ (counter_clauses c.args.inputs.now c.args.first (length c.args.inputs.now)) c.self.invariant (omega (arith, c.self.invariant.within)) (sym count) (omega (arith, few, count, lits)) c.in-Ok.ensures.kept
