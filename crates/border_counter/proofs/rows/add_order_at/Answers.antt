-- Why `add_order_at` does what its contract says.
use Rattle.std.proofs.Common.{◌+◌, length, ap, ◌∙◌, lit<, arith}
use Rattle.sat_core.specs.Clauses.{negated}
use Rattle.border_counter.proofs.OrderLemmas.{order_numbers, order_clause, order_added, order_size}
use Rattle.border_counter.proofs.rows.add_order_at.Goals as goal

pub at_least-more-requires-clause-within : goal.at_least-more-requires-clause-within
at_least-more-requires-clause-within c =
    let last = order_numbers _ _ _ (c.args.place + 1) c.requires.fits (omega arith) (omega arith) in
    let few = c.requires.fits.numbers in
    omega (arith, last, few)

pub push_fixed-requires : goal.push_fixed-requires
push_fixed-requires c =
    let size = order_size c.args.first_var (length c.args.inputs.now) c.args.place in
    let few = c.requires.numbered in
    (lit< tt, (order_clause _ _ _ c.args.place _ _ c.requires.fits c.requires.place.0 c.requires.place.1 (c.negated.ensures ∙ ap negated c.at_least-more.ensures) c.at_least-fewer.ensures, omega (arith, size, few)))

pub returns : goal.returns
returns c =
    let e = c.push_fixed.ensures in
    let added = order_added c.args.inputs.now c.args.first_var c.args.place _ _ _ _ c.push_fixed.result (c.negated.ensures ∙ ap negated c.at_least-more.ensures) c.at_least-fewer.ensures (record { vars = e.vars; ok = e.ok; err = e.err; within_room = e.within_room; room_for_clauses = e.room_for_clauses; room_for_lits = e.room_for_lits }) in
    record { ok = added.ok; err = added.err; within_room = added.within_room }
