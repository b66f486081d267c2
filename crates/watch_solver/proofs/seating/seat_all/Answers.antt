-- Why `seat_all` does what its contract says.
use Rattle.std.proofs.Common.{◌+◌, ◌<◌, refl, arith}
use Rattle.watch_solver.proofs.SeatLemmas.{IsSeatingTo, seating_more, seating_none, seating_end}
use Rattle.watch_solver.proofs.seating.seat_all.Goals.{in-Some+else-seat, in-None}
use Rattle.watch_solver.proofs.seating.seat_all.Goals as goal

pub clauses-preserved : goal.clauses-preserved
clauses-preserved c = elim c.match-lits.branch [
  | in-Some+else-seat w ↦ rw (w.trail-is) (seating_more c.args.store.now c.args.trail.now c.clauses.trail w.seat.new.trail c.clauses.number (record { 0 = c.clauses.number }) _ refl c.clauses.auto.number w.in-Some.ensures w.seat.ensures.fits w.seat.ensures.grows (w.seat.ensures.seated w.if-seat.false) c.clauses.invariant)
  | in-None w ↦ rw (w.trail-is) (seating_none c.args.store.now c.args.trail.now c.clauses.trail c.clauses.number c.args.count (record { 0 = c.clauses.number }) refl c.clauses.auto.number c.clauses-test.true w.in-None.ensures c.requires.all c.clauses.invariant)
]

pub returns-after-lits-clause-grows : goal.returns-after-lits-clause-grows
returns-after-lits-clause-grows c =
    let next : IsSeatingTo c.args.store.now c.args.trail.now c.match-lits.trail (c.clauses.number + 1) = (elim c.match-lits.branch [
      | in-Some+else-seat w ↦ rw (w.trail-is) (seating_more c.args.store.now c.args.trail.now c.clauses.trail w.seat.new.trail c.clauses.number (record { 0 = c.clauses.number }) _ refl c.clauses.auto.number w.in-Some.ensures w.seat.ensures.fits w.seat.ensures.grows (w.seat.ensures.seated w.if-seat.false) c.clauses.invariant)
      | in-None w ↦ rw (w.trail-is) (seating_none c.args.store.now c.args.trail.now c.clauses.trail c.clauses.number c.args.count (record { 0 = c.clauses.number }) refl c.clauses.auto.number c.clauses-test.true w.in-None.ensures c.requires.all c.clauses.invariant)
    ]) in
    next.grows

pub returns-after-lits-clause-short : goal.returns-after-lits-clause-short
returns-after-lits-clause-short c =
    let next : IsSeatingTo c.args.store.now c.args.trail.now c.match-lits.trail (c.clauses.number + 1) = (elim c.match-lits.branch [
      | in-Some+else-seat w ↦ rw (w.trail-is) (seating_more c.args.store.now c.args.trail.now c.clauses.trail w.seat.new.trail c.clauses.number (record { 0 = c.clauses.number }) _ refl c.clauses.auto.number w.in-Some.ensures w.seat.ensures.fits w.seat.ensures.grows (w.seat.ensures.seated w.if-seat.false) c.clauses.invariant)
      | in-None w ↦ rw (w.trail-is) (seating_none c.args.store.now c.args.trail.now c.clauses.trail c.clauses.number c.args.count (record { 0 = c.clauses.number }) refl c.clauses.auto.number c.clauses-test.true w.in-None.ensures c.requires.all c.clauses.invariant)
    ]) in
    let past : c.args.count < c.clauses.number + 1 = omega arith in
    seating_end c.args.store.now c.args.trail.now c.match-lits.trail (c.clauses.number + 1) c.args.count c.requires.all past next
