-- Why `seat` does what its contract says.
use Rattle.std.proofs.Common.{arith}
use Rattle.std.proofs.lemmas.List.{get_or_default}
use Rattle.watch_solver.proofs.SeatLemmas.{lit_over, seated_true, seat_fits, seat_open}
use Rattle.watch_solver.proofs.seating.seat.Goals as goal

pub value-requires : goal.value-requires
value-requires c = record { in_range = lit_over c.args.store.now c.args.trail.now c.args.id c.args.lits.now _ c.requires.fits c.requires.stands (omega (arith, c.if-lits-eq0.false)) }

pub assign-requires-clause-in_range : goal.assign-requires-clause-in_range
assign-requires-clause-in_range c = lit_over c.args.store.now c.args.trail.now c.args.id c.args.lits.now _ c.requires.fits c.requires.stands (omega (arith, c.if-lits-eq0.false))

pub returns-in-Yes-clause-seated : goal.returns-in-Yes-clause-seated
returns-in-Yes-clause-seated c = λ same few. seated_true c.args.trail.now c.args.lits.now _ c.requires.fits.laws c.requires.bottom (omega (arith, c.if-lits-eq0.false)) (get_or_default c.args.lits.now 0 _ _ (omega (arith, c.if-lits-eq0.false))) c.in-Yes.ensures.value

pub returns-in-Open-clause-fits : goal.returns-in-Open-clause-fits
returns-in-Open-clause-fits c = seat_fits c.args.store.now c.args.trail.now c.assign.new.self c.args.id c.args.lits.now _ c.requires.fits c.requires.stands (omega (arith, c.if-lits-eq0.false)) (omega (arith, c.if-lits-gt1.false)) c.in-Open.ensures.value c.assign.ensures.one_more

pub returns-in-Open-clause-seated : goal.returns-in-Open-clause-seated
returns-in-Open-clause-seated c = λ same few. seat_open c.args.store.now c.args.trail.now c.assign.new.self c.args.id c.args.lits.now _
    (seat_fits c.args.store.now c.args.trail.now c.assign.new.self c.args.id c.args.lits.now _ c.requires.fits c.requires.stands (omega (arith, c.if-lits-eq0.false)) (omega (arith, c.if-lits-gt1.false)) c.in-Open.ensures.value c.assign.ensures.one_more)
    c.requires.bottom (omega (arith, c.if-lits-eq0.false)) c.assign.ensures.one_more
