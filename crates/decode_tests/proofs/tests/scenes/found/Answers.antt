-- Why `found` does what its contract says.
use Rattle.decode_tests.proofs.FoundLemmas.{keeps_tables, satisfies_task}
use Rattle.decode_tests.proofs.tests.scenes.found.Goals as goal

pub decode-requires-clause-kept : goal.decode-requires-clause-kept
decode-requires-clause-kept g c = keeps_tables c.args.inst.now c.args.task.now c.args.bound c.in_ok-encoded.encoded.formula c.in_ok-encoded.encoded.map c.in_ok-encoded.ensures.ok

pub decode-requires-clause-satisfied : goal.decode-requires-clause-satisfied
decode-requires-clause-satisfied g c =
    let of = rw c.in-Some.is at c.in_ok-solution.ensures in
    satisfies_task c.args.inst.now c.args.task.now c.args.bound c.in_ok-encoded.encoded.formula c.in_ok-encoded.encoded.map c.in-Some.valuation.values c.free_formulas_say.ensures c.requires.task c.in_ok-encoded.ensures.ok of
