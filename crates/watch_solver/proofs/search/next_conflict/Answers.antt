-- Why `next_conflict` does what its contract says.
use Rattle.std.proofs.Common.{refl, sym, subst}
use Rattle.search_trail.specs.Trails.{known_of}
use Rattle.sat_core.specs.Fresh.{IsClosed}
use Rattle.activity_order.proofs.WaitLaws.{wait_grown}
use Rattle.watch_store.specs.Fits.{AreShortTrue}
use Rattle.watch_solver.specs.Running.{IsSeenAlike}
use Rattle.watch_solver.proofs.SeatLemmas.{short_grown}
use Rattle.watch_solver.proofs.StateLemmas.{alike_state, alike_running, clash_grown, short_of_none, if_none}
use Rattle.watch_solver.proofs.search.next_conflict.Goals as goal

pub returns-in-None-clause-state : goal.returns-in-None-clause-state
returns-in-None-clause-state g c =
    let run = c.requires.state.running c.requires.open in
    let grows = c.propagate.ensures.grows in
    let alike : IsSeenAlike c.args.state.now (record { alloc = c.args.state.now.alloc; store = c.propagate.new.self; given = c.args.state.now.given; last = c.args.state.now.last; history = c.args.state.now.history; trail = c.propagate.new.trail; space = c.args.state.now.space; order = c.args.state.now.order; stamps = c.args.state.now.stamps; met = c.args.state.now.met; pace = c.args.state.now.pace; drop_at = c.args.state.now.drop_at; valuation = c.args.state.now.valuation; found = c.args.state.now.found; refuted = c.args.state.now.refuted; clash = c.args.state.now.clash }) = record { vars = c.propagate.ensures.same.vars; live = c.propagate.ensures.same.live; given = refl; last = refl; history = refl; refuted = refl } in
    alike_state c.args.state.now (record { alloc = c.args.state.now.alloc; store = c.propagate.new.self; given = c.args.state.now.given; last = c.args.state.now.last; history = c.args.state.now.history; trail = c.propagate.new.trail; space = c.args.state.now.space; order = c.args.state.now.order; stamps = c.args.state.now.stamps; met = c.args.state.now.met; pace = c.args.state.now.pace; drop_at = c.args.state.now.drop_at; valuation = c.args.state.now.valuation; found = c.args.state.now.found; refuted = c.args.state.now.refuted; clash = c.args.state.now.clash }) c.requires.state alike c.requires.state.drop_place
    (λ open_yet. alike_running c.args.state.now (record { alloc = c.args.state.now.alloc; store = c.propagate.new.self; given = c.args.state.now.given; last = c.args.state.now.last; history = c.args.state.now.history; trail = c.propagate.new.trail; space = c.args.state.now.space; order = c.args.state.now.order; stamps = c.args.state.now.stamps; met = c.args.state.now.met; pace = c.args.state.now.pace; drop_at = c.args.state.now.drop_at; valuation = c.args.state.now.valuation; found = c.args.state.now.found; refuted = c.args.state.now.refuted; clash = c.args.state.now.clash }) alike run c.propagate.ensures.fits
    (wait_grown c.args.state.now.order c.args.state.now.trail c.propagate.new.trail grows.more grows.vars grows.entries run.waiting) refl refl refl
    (clash_grown c.args.state.now.clash c.args.state.now.store.live c.propagate.new.self.live c.args.state.now.trail c.propagate.new.trail grows.more c.in-None.is c.propagate.ensures.same.live grows.entries run.clash))

pub returns-in-None-clause-closed : goal.returns-in-None-clause-closed
returns-in-None-clause-closed g c =
    let run = c.requires.state.running c.requires.open in
    let grows = c.propagate.ensures.grows in
    if_none c.propagate.result (AreShortTrue c.args.state.now.store.live c.propagate.new.trail → IsClosed (known_of c.propagate.new.trail.entries) c.args.state.now.store.live) (IsClosed (known_of c.propagate.new.trail.entries) c.propagate.new.self.live)
    (λ make. subst (IsClosed (known_of c.propagate.new.trail.entries)) (sym c.propagate.ensures.same.live) (make (short_grown c.args.state.now.store.live c.args.state.now.trail c.propagate.new.trail grows.more grows.entries (short_of_none c.args.state.now.clash c.args.state.now.store.live c.args.state.now.trail c.in-None.is run.clash))))
    c.propagate.ensures.closed
