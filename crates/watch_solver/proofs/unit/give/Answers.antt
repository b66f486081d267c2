-- Why `give` does what its contract says.
use Rattle.std.proofs.Common.{◌+◌, refl}
use Rattle.watch_solver.proofs.StateLemmas.{given_refuted}
use Rattle.watch_solver.proofs.unit.give.Goals as goal

pub returns-then-state-clause-state : goal.returns-then-state-clause-state
returns-then-state-clause-state c = given_refuted c.args.state.now _ c.args.lit c.requires.state c.if-state.true c.requires.over refl refl refl c.in_ok-give.ensures.ok refl refl

pub returns-then-state-clause-sound : goal.returns-then-state-clause-sound
returns-then-state-clause-sound c = (given_refuted c.args.state.now (record { alloc = c.args.state.now.alloc; store = c.args.state.now.store; given = c.args.state.now.given; last = (c.args.state.now.last + 1); history = c.give.new.self; trail = c.args.state.now.trail; space = c.args.state.now.space; order = c.args.state.now.order; stamps = c.args.state.now.stamps; met = c.args.state.now.met; pace = c.args.state.now.pace; drop_at = c.args.state.now.drop_at; valuation = c.args.state.now.valuation; found = c.args.state.now.found; refuted = c.args.state.now.refuted; clash = c.args.state.now.clash }) c.args.lit c.requires.state c.if-state.true c.requires.over refl refl refl c.in_ok-give.ensures.ok refl refl).sound
