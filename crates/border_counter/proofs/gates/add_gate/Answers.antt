-- Why `add_gate` does what its contract says.
use Rattle.std.proofs.Common.{refl, sym, lit<, arith}
use Rattle.gate_tables.specs.Gates.{eq_clauses, or2_clauses, and2_clauses, cell_clauses}
use Rattle.border_counter.proofs.GateLemmas.{numbers_of, first_wired, lowest_wired, highest_wired, between_wired, gate_added, gate_size, earlier_below}
use Rattle.border_counter.proofs.gates.add_gate.Goals as goal

pub at_least-s-requires-clause-within : goal.at_least-s-requires-clause-within
at_least-s-requires-clause-within c = let numbers = numbers_of _ _ _ _ _ c.requires.fits c.requires.row.0 c.requires.row.1 c.requires.row.2 in let few = c.requires.fits.numbers in omega (arith, numbers.last, few)

pub emit-requires : goal.emit-requires
emit-requires c =
    let wires = first_wired _ _ _ c.args.row c.args.place _ _ (numbers_of _ _ _ _ _ c.requires.fits c.requires.row.0 c.requires.row.1 c.requires.row.2) refl c.at_least-s.ensures c.if-row-eq1.true in
    let size = gate_size _ _ _ eq_clauses wires in
    let few = c.requires.numbered in
    (lit< tt, (lit< tt, (c.eq.ensures.sound, (wires.clause, omega (arith, size, few)))))

pub returns-then-row-eq1 : goal.returns-then-row-eq1
returns-then-row-eq1 c =
    let wires = first_wired _ _ _ c.args.row c.args.place _ _ (numbers_of _ _ _ _ _ c.requires.fits c.requires.row.0 c.requires.row.1 c.requires.row.2) refl c.at_least-s.ensures c.if-row-eq1.true in
    let e = c.emit.ensures in
    let added = gate_added _ _ _ _ _ eq_clauses 2 _ c.emit.result c.eq.ensures.clauses wires refl (record { vars = e.vars; ok = e.ok; err = e.err; within_room = e.within_room; room_for_clauses = e.room_for_clauses; room_for_lits = e.room_for_lits }) in
    record { ok = added.ok; err = added.err; within_room = added.within_room }

pub at_least-p-requires-clause-within : goal.at_least-p-requires-clause-within
at_least-p-requires-clause-within c = let more = c.if-row-eq1.false in earlier_below _ _ _ c.args.row c.args.place _ (numbers_of _ _ _ _ _ c.requires.fits c.requires.row.0 c.requires.row.1 c.requires.row.2) c.requires.fits.numbers (omega (arith, more)) (omega (arith, more))

pub emit-requires-then-place-eq1 : goal.emit-requires-then-place-eq1
emit-requires-then-place-eq1 c =
    let more = c.if-row-eq1.false in
    let wires = lowest_wired _ _ _ c.args.row c.args.place _ _ _ (numbers_of _ _ _ _ _ c.requires.fits c.requires.row.0 c.requires.row.1 c.requires.row.2) c.at_least-p.ensures refl c.at_least-s.ensures (omega (arith, more)) c.if-place-eq1.true in
    let size = gate_size _ _ _ or2_clauses wires in
    let few = c.requires.numbered in
    (lit< tt, (lit< tt, (c.or2.ensures.sound, (wires.clause, omega (arith, size, few)))))

pub returns-then-place-eq1 : goal.returns-then-place-eq1
returns-then-place-eq1 c =
    let more = c.if-row-eq1.false in
    let wires = lowest_wired _ _ _ c.args.row c.args.place _ _ _ (numbers_of _ _ _ _ _ c.requires.fits c.requires.row.0 c.requires.row.1 c.requires.row.2) c.at_least-p.ensures refl c.at_least-s.ensures (omega (arith, more)) c.if-place-eq1.true in
    let e = c.emit-then-place-eq1.ensures in
    let added = gate_added _ _ _ _ _ or2_clauses 3 _ c.emit-then-place-eq1.result c.or2.ensures.clauses wires refl (record { vars = e.vars; ok = e.ok; err = e.err; within_room = e.within_room; room_for_clauses = e.room_for_clauses; room_for_lits = e.room_for_lits }) in
    record { ok = added.ok; err = added.err; within_room = added.within_room }

pub at_least-q-requires-clause-within : goal.at_least-q-requires-clause-within
at_least-q-requires-clause-within c = let more = c.if-row-eq1.false in earlier_below _ _ _ c.args.row c.args.place _ (numbers_of _ _ _ _ _ c.requires.fits c.requires.row.0 c.requires.row.1 c.requires.row.2) c.requires.fits.numbers (omega (arith, more)) (omega (arith, more))

pub emit-requires-then-place-row : goal.emit-requires-then-place-row
emit-requires-then-place-row c =
    let above = c.if-place-eq1.false in
    let wires = highest_wired _ _ _ c.args.row c.args.place _ _ _ (numbers_of _ _ _ _ _ c.requires.fits c.requires.row.0 c.requires.row.1 c.requires.row.2) refl c.at_least-q.ensures c.at_least-s.ensures (omega (arith, above)) (sym c.if-place-row.true) in
    let size = gate_size _ _ _ and2_clauses wires in
    let few = c.requires.numbered in
    (lit< tt, (lit< tt, (c.and2.ensures.sound, (wires.clause, omega (arith, size, few)))))

pub returns-then-place-row : goal.returns-then-place-row
returns-then-place-row c =
    let above = c.if-place-eq1.false in
    let wires = highest_wired _ _ _ c.args.row c.args.place _ _ _ (numbers_of _ _ _ _ _ c.requires.fits c.requires.row.0 c.requires.row.1 c.requires.row.2) refl c.at_least-q.ensures c.at_least-s.ensures (omega (arith, above)) (sym c.if-place-row.true) in
    let e = c.emit-then-place-row.ensures in
    let added = gate_added _ _ _ _ _ and2_clauses 3 _ c.emit-then-place-row.result c.and2.ensures.clauses wires refl (record { vars = e.vars; ok = e.ok; err = e.err; within_room = e.within_room; room_for_clauses = e.room_for_clauses; room_for_lits = e.room_for_lits }) in
    record { ok = added.ok; err = added.err; within_room = added.within_room }

pub at_least-p-requires-2-clause-within : goal.at_least-p-requires-2-clause-within
at_least-p-requires-2-clause-within c = let more = c.if-row-eq1.false in let below = c.if-place-row.false in earlier_below _ _ _ c.args.row c.args.place _ (numbers_of _ _ _ _ _ c.requires.fits c.requires.row.0 c.requires.row.1 c.requires.row.2) c.requires.fits.numbers (omega (arith, more)) (omega (arith, more, below, c.requires.row.1))

pub emit-requires-2 : goal.emit-requires-2
emit-requires-2 c =
    let above = c.if-place-eq1.false in let below = c.if-place-row.false in
    let wires = between_wired _ _ _ c.args.row c.args.place _ _ _ _ (numbers_of _ _ _ _ _ c.requires.fits c.requires.row.0 c.requires.row.1 c.requires.row.2) c.at_least-p-2.ensures refl c.at_least-q.ensures c.at_least-s.ensures (omega (arith, above)) (omega (arith, below)) in
    let size = gate_size _ _ _ cell_clauses wires in
    let few = c.requires.numbered in
    (lit< tt, (lit< tt, (c.cell.ensures.sound, (wires.clause, omega (arith, size, few)))))

pub returns : goal.returns
returns c =
    let above = c.if-place-eq1.false in let below = c.if-place-row.false in
    let wires = between_wired _ _ _ c.args.row c.args.place _ _ _ _ (numbers_of _ _ _ _ _ c.requires.fits c.requires.row.0 c.requires.row.1 c.requires.row.2) c.at_least-p-2.ensures refl c.at_least-q.ensures c.at_least-s.ensures (omega (arith, above)) (omega (arith, below)) in
    let e = c.emit-2.ensures in
    let added = gate_added _ _ _ _ _ cell_clauses 4 _ c.emit-2.result c.cell.ensures.clauses wires refl (record { vars = e.vars; ok = e.ok; err = e.err; within_room = e.within_room; room_for_clauses = e.room_for_clauses; room_for_lits = e.room_for_lits }) in
    record { ok = added.ok; err = added.err; within_room = added.within_room }
