-- Why `refute` does what its contract says.
use Rattle.std.proofs.Common.{◌+◌, true, refl}
use Rattle.watch_solver.proofs.LearnedLemmas.{refuted_state}
use Rattle.watch_solver.proofs.conflict.refute.Goals as goal

pub returns-clause-state : goal.returns-clause-state
returns-clause-state c = (refuted_state c.args.state.now (record { alloc = c.args.state.now.alloc; store = c.args.state.now.store; given = c.args.state.now.given; last = (c.args.state.now.last + 1); history = c.add.new.self; trail = c.args.state.now.trail; space = c.args.state.now.space; order = c.args.state.now.order; stamps = c.args.state.now.stamps; met = c.args.state.now.met; pace = c.args.state.now.pace; drop_at = c.args.state.now.drop_at; valuation = c.args.state.now.valuation; found = c.args.state.now.found; refuted = true; clash = c.args.state.now.clash }) (record { 0 = c.args.state.now.last + 1 }) c.args.lits c.args.hints c.requires.learned.0 c.requires.state c.requires.open refl c.requires.empty c.requires.learned.1 refl refl refl c.in_ok-add.ensures.ok refl refl).0

pub returns-clause-met : goal.returns-clause-met
returns-clause-met c = (refuted_state c.args.state.now (record { alloc = c.args.state.now.alloc; store = c.args.state.now.store; given = c.args.state.now.given; last = (c.args.state.now.last + 1); history = c.add.new.self; trail = c.args.state.now.trail; space = c.args.state.now.space; order = c.args.state.now.order; stamps = c.args.state.now.stamps; met = c.args.state.now.met; pace = c.args.state.now.pace; drop_at = c.args.state.now.drop_at; valuation = c.args.state.now.valuation; found = c.args.state.now.found; refuted = true; clash = c.args.state.now.clash }) (record { 0 = c.args.state.now.last + 1 }) c.args.lits c.args.hints c.requires.learned.0 c.requires.state c.requires.open refl c.requires.empty c.requires.learned.1 refl refl refl c.in_ok-add.ensures.ok refl refl).1
