-- Why `give_live` does what its contract says.
use Rattle.std.proofs.Common.{◌≡◌, ◌+◌, ◌<◌, false, length, refl, ap, sym, subst, ◌∙◌, arith}
use Rattle.std.specs.Prelude.{Some}
use Rattle.watch_store.specs.Places.{IsInserted}
use Rattle.watch_store.proofs.LiveLaws.{clause_of-itself}
use Rattle.watch_solver.proofs.LiveLemmas.{new_number}
use Rattle.watch_solver.proofs.SeatLemmas.{IsSeated}
use Rattle.watch_solver.proofs.StateLemmas.{fits_back, formula_grown, sound_grown, given_state}
use Rattle.watch_solver.proofs.unit.give_live.Goals as goal

pub add-requires-clause-new_number : goal.add-requires-clause-new_number
add-requires-clause-new_number c = new_number c.args.state.now.store.live c.args.state.now.last _ (c.requires.state.running c.requires.open).live.numbered (omega arith)

pub add-requires-clause-fits : goal.add-requires-clause-fits
add-requires-clause-fits c = fits_back c.args.state.now.store c.args.state.now.trail c.go_back.new.trail 0 (omega arith) c.go_back.ensures.vars c.go_back.ensures.cut c.go_back.ensures.read c.go_back.ensures.now (c.requires.state.running c.requires.open).fits

pub returns-in_err-give-clause-sound : goal.returns-in_err-give-clause-sound
returns-in_err-give-clause-sound c = sound_grown c.args.state.now (record { alloc = c.args.state.now.alloc; store = c.add.new.self; given = c.args.state.now.given; last = c.args.state.now.last; history = c.give.new.self; trail = c.go_back.new.trail; space = c.args.state.now.space; order = c.go_back.new.order; stamps = c.args.state.now.stamps; met = c.push.new.self; pace = c.args.state.now.pace; drop_at = c.args.state.now.drop_at; valuation = c.args.state.now.valuation; found = c.args.state.now.found; refuted = c.args.state.now.refuted; clash = c.args.state.now.clash }) _ _ c.requires.state c.requires.open refl c.add.ensures.vars c.in_ok-add.ensures.live refl c.in_err-give.ensures.err

pub returns-in_err-give-clause-formula : goal.returns-in_err-give-clause-formula
returns-in_err-give-clause-formula c = formula_grown c.args.state.now (record { alloc = c.args.state.now.alloc; store = c.add.new.self; given = c.args.state.now.given; last = c.args.state.now.last; history = c.give.new.self; trail = c.go_back.new.trail; space = c.args.state.now.space; order = c.go_back.new.order; stamps = c.args.state.now.stamps; met = c.push.new.self; pace = c.args.state.now.pace; drop_at = c.args.state.now.drop_at; valuation = c.args.state.now.valuation; found = c.args.state.now.found; refuted = c.args.state.now.refuted; clash = c.args.state.now.clash }) _ _ (c.requires.state.running c.requires.open) refl c.in_ok-add.ensures.live refl

pub seat-clash-requires-clause-stands : goal.seat-clash-requires-clause-stands
seat-clash-requires-clause-stands c = clause_of-itself _ _ c.args.state.now.store.live c.add.new.self.live c.in_ok-add.ensures.live ∙ ap (λ ls. Some ls) (c.as_slice.ensures ∙ sym c.as_slice-2.ensures)

pub returns-clause-state : goal.returns-clause-state
returns-clause-state c =
    given_state c.args.state.now (record { alloc = c.args.state.now.alloc; store = c.add.new.self; given = c.args.state.now.given; last = (c.args.state.now.last + 1); history = c.give.new.self; trail = c.seat-clash.new.trail; space = c.args.state.now.space; order = c.go_back.new.order; stamps = c.args.state.now.stamps; met = c.push.new.self; pace = c.args.state.now.pace; drop_at = c.args.state.now.drop_at; valuation = c.args.state.now.valuation; found = c.args.state.now.found; refuted = c.args.state.now.refuted; clash = c.first_clash-state.result }) c.args.lit (record { 0 = c.args.state.now.last + 1 }) c.go_back.new.trail c.seat-clash.result c.requires.state c.requires.open c.requires.over refl
    c.add.ensures.vars (subst (λ ls. IsInserted (record { 0 = c.args.state.now.last + 1 }) ls c.args.state.now.store.live c.add.new.self.live) c.as_slice.ensures c.in_ok-add.ensures.live) refl refl c.in_ok-give.ensures.ok refl refl
    refl refl refl c.seat-clash.ensures.fits c.go_back.ensures.waiting c.go_back.ensures.cut c.go_back.ensures.now c.seat-clash.ensures.grows
    c.seat-clash.ensures.clash (subst (λ ls. c.seat-clash.result ≡ false → length ls < 2 → IsSeated c.seat-clash.new.trail.entries ls) c.as_slice-2.ensures c.seat-clash.ensures.seated)
    c.first_clash-state.ensures.stays c.first_clash-state.ensures.none c.first_clash-state.ensures.new

pub returns-clause-sound : goal.returns-clause-sound
returns-clause-sound c =
    (given_state c.args.state.now (record { alloc = c.args.state.now.alloc; store = c.add.new.self; given = c.args.state.now.given; last = (c.args.state.now.last + 1); history = c.give.new.self; trail = c.seat-clash.new.trail; space = c.args.state.now.space; order = c.go_back.new.order; stamps = c.args.state.now.stamps; met = c.push.new.self; pace = c.args.state.now.pace; drop_at = c.args.state.now.drop_at; valuation = c.args.state.now.valuation; found = c.args.state.now.found; refuted = c.args.state.now.refuted; clash = c.first_clash-state.result }) c.args.lit (record { 0 = c.args.state.now.last + 1 }) c.go_back.new.trail c.seat-clash.result c.requires.state c.requires.open c.requires.over refl
    c.add.ensures.vars (subst (λ ls. IsInserted (record { 0 = c.args.state.now.last + 1 }) ls c.args.state.now.store.live c.add.new.self.live) c.as_slice.ensures c.in_ok-add.ensures.live) refl refl c.in_ok-give.ensures.ok refl refl
    refl refl refl c.seat-clash.ensures.fits c.go_back.ensures.waiting c.go_back.ensures.cut c.go_back.ensures.now c.seat-clash.ensures.grows
    c.seat-clash.ensures.clash (subst (λ ls. c.seat-clash.result ≡ false → length ls < 2 → IsSeated c.seat-clash.new.trail.entries ls) c.as_slice-2.ensures c.seat-clash.ensures.seated)
    c.first_clash-state.ensures.stays c.first_clash-state.ensures.none c.first_clash-state.ensures.new).sound

pub returns-clause-formula : goal.returns-clause-formula
returns-clause-formula c = formula_grown c.args.state.now (record { alloc = c.args.state.now.alloc; store = c.add.new.self; given = c.args.state.now.given; last = (c.args.state.now.last + 1); history = c.give.new.self; trail = c.seat-clash.new.trail; space = c.args.state.now.space; order = c.go_back.new.order; stamps = c.args.state.now.stamps; met = c.push.new.self; pace = c.args.state.now.pace; drop_at = c.args.state.now.drop_at; valuation = c.args.state.now.valuation; found = c.args.state.now.found; refuted = c.args.state.now.refuted; clash = c.first_clash-state.result }) _ _ (c.requires.state.running c.requires.open) refl c.in_ok-add.ensures.live refl
