-- What the loop of `seat_all` keeps from turn to turn.
use Rattle.watch_solver.proofs.SeatLemmas.{IsSeatingTo}
use Rattle.watch_solver.proofs.seating.seat_all.Given as goal

abbrev pub invariant-clauses : goal.invariant-clauses
invariant-clauses l = IsSeatingTo l.store l.initial.trail l.trail l.number
