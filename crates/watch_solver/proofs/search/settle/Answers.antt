-- Why `settle` does what its contract says.
use Rattle.std.proofs.Common.{◌≡◌, true, refl, ap, subst}
use Rattle.std.specs.Prelude.{length}
use Rattle.search_trail.specs.Trails.{TrailParts, known_of}
use Rattle.trail_values.specs.Full.{AreTruths}
use Rattle.watch_solver.specs.Running.{IsSeenAlike}
use Rattle.watch_solver.proofs.SolutionLemmas.{solution}
use Rattle.watch_solver.proofs.StateLemmas.{alike_state, alike_running, fits_decided, clash_grown}
use Rattle.watch_solver.proofs.search.settle.Goals as goal

pub returns-in-Some-clause-state : goal.returns-in-Some-clause-state
returns-in-Some-clause-state c =
    let run = c.requires.state.running c.requires.open in
    let is = c.in-Some.ensures.value.1 in
    let alike : IsSeenAlike c.args.state.now (record { alloc = c.args.state.now.alloc; store = c.args.state.now.store; given = c.args.state.now.given; last = c.args.state.now.last; history = c.args.state.now.history; trail = c.decide_next.new.trail; space = c.args.state.now.space; order = c.decide_next.new.order; stamps = c.args.state.now.stamps; met = c.args.state.now.met; pace = c.args.state.now.pace; drop_at = c.args.state.now.drop_at; valuation = c.args.state.now.valuation; found = c.args.state.now.found; refuted = c.args.state.now.refuted; clash = c.args.state.now.clash }) = record { vars = refl; live = refl; given = refl; last = refl; history = refl; refuted = refl } in
    alike_state c.args.state.now (record { alloc = c.args.state.now.alloc; store = c.args.state.now.store; given = c.args.state.now.given; last = c.args.state.now.last; history = c.args.state.now.history; trail = c.decide_next.new.trail; space = c.args.state.now.space; order = c.decide_next.new.order; stamps = c.args.state.now.stamps; met = c.args.state.now.met; pace = c.args.state.now.pace; drop_at = c.args.state.now.drop_at; valuation = c.args.state.now.valuation; found = c.args.state.now.found; refuted = c.args.state.now.refuted; clash = c.args.state.now.clash }) c.requires.state alike c.requires.state.drop_place
    (λ open_yet. alike_running c.args.state.now (record { alloc = c.args.state.now.alloc; store = c.args.state.now.store; given = c.args.state.now.given; last = c.args.state.now.last; history = c.args.state.now.history; trail = c.decide_next.new.trail; space = c.args.state.now.space; order = c.decide_next.new.order; stamps = c.args.state.now.stamps; met = c.args.state.now.met; pace = c.args.state.now.pace; drop_at = c.args.state.now.drop_at; valuation = c.args.state.now.valuation; found = c.args.state.now.found; refuted = c.args.state.now.refuted; clash = c.args.state.now.clash }) alike run
    (fits_decided c.args.state.now.store c.args.state.now.trail c.decide_next.new.trail c.args.state.now.order.scores c.in-Some.field-0 c.requires.read c.in-Some.ensures.value.0 is run.fits)
    c.decide_next.ensures.waiting refl refl refl
    (clash_grown c.args.state.now.clash c.args.state.now.store.live c.args.state.now.store.live c.args.state.now.trail c.decide_next.new.trail _ c.requires.no_clash refl (ap (λ (t : TrailParts). t.entries) is) run.clash))

pub returns-in-None-clause-answer : goal.returns-in-None-clause-answer
returns-in-None-clause-answer c = λ left some. (
  solution c.args.state.now (record { alloc = c.args.state.now.alloc; store = c.args.state.now.store; given = c.args.state.now.given; last = c.args.state.now.last; history = c.args.state.now.history; trail = c.decide_next.new.trail; space = c.args.state.now.space; order = c.decide_next.new.order; stamps = c.args.state.now.stamps; met = c.args.state.now.met; pace = c.args.state.now.pace; drop_at = c.args.state.now.drop_at; valuation = c.show.new.valuation; found = true; refuted = c.args.state.now.refuted; clash = c.args.state.now.clash }) c.show.new.valuation.values (c.requires.state.running c.requires.open) c.in-None.ensures.value.0 c.requires.closed
      (subst (λ (t : TrailParts). length c.show.new.valuation.values ≡ t.vars) c.in-None.ensures.value.1 c.show.ensures.long)
      (subst (λ (t : TrailParts). AreTruths t.vars (known_of t.entries) c.show.new.valuation.values) c.in-None.ensures.value.1 c.show.ensures.truths) refl refl refl,
  some,
)
