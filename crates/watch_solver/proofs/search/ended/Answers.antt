-- Why `ended` does what its contract says.
use Rattle.std.proofs.Common.{refl, arith}
use Rattle.watch_solver.specs.Running.{IsSeenAlike}
use Rattle.watch_solver.proofs.StateLemmas.{alike_state, alike_running, fits_back, clash_back}
use Rattle.watch_solver.proofs.search.ended.Goals as goal

pub returns-then-count-clause-state : goal.returns-then-count-clause-state
returns-then-count-clause-state c =
    let run = c.requires.state.running c.if-state.false in
    let alike : IsSeenAlike c.args.state.now (record { alloc = c.args.state.now.alloc; store = c.args.state.now.store; given = c.args.state.now.given; last = c.args.state.now.last; history = c.args.state.now.history; trail = c.go_back.new.trail; space = c.args.state.now.space; order = c.go_back.new.order; stamps = c.args.state.now.stamps; met = c.args.state.now.met; pace = c.count.new.self; drop_at = c.args.state.now.drop_at; valuation = c.args.state.now.valuation; found = c.args.state.now.found; refuted = c.args.state.now.refuted; clash = c.args.state.now.clash }) = record { vars = refl; live = refl; given = refl; last = refl; history = refl; refuted = refl } in
    alike_state c.args.state.now (record { alloc = c.args.state.now.alloc; store = c.args.state.now.store; given = c.args.state.now.given; last = c.args.state.now.last; history = c.args.state.now.history; trail = c.go_back.new.trail; space = c.args.state.now.space; order = c.go_back.new.order; stamps = c.args.state.now.stamps; met = c.args.state.now.met; pace = c.count.new.self; drop_at = c.args.state.now.drop_at; valuation = c.args.state.now.valuation; found = c.args.state.now.found; refuted = c.args.state.now.refuted; clash = c.args.state.now.clash }) c.requires.state alike c.requires.state.drop_place
    (λ open_yet. alike_running c.args.state.now (record { alloc = c.args.state.now.alloc; store = c.args.state.now.store; given = c.args.state.now.given; last = c.args.state.now.last; history = c.args.state.now.history; trail = c.go_back.new.trail; space = c.args.state.now.space; order = c.go_back.new.order; stamps = c.args.state.now.stamps; met = c.args.state.now.met; pace = c.count.new.self; drop_at = c.args.state.now.drop_at; valuation = c.args.state.now.valuation; found = c.args.state.now.found; refuted = c.args.state.now.refuted; clash = c.args.state.now.clash }) alike run
    (fits_back c.args.state.now.store c.args.state.now.trail c.go_back.new.trail 0 (omega arith) c.go_back.ensures.vars c.go_back.ensures.cut c.go_back.ensures.read c.go_back.ensures.now run.fits)
    c.go_back.ensures.waiting refl refl refl
    (clash_back c.args.state.now.clash c.args.state.now.store.live c.args.state.now.trail c.go_back.new.trail run.fits.laws c.go_back.ensures.cut c.go_back.ensures.now run.clash))
