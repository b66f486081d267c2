-- Why `begin` does what its contract says.
use Rattle.std.proofs.Common.{◌≡◌, ℕ, true, false, inr, length, refl, ap, sym, ◌∙◌}
use Rattle.std.specs.Prelude.{replicate}
use Rattle.std.proofs.lemmas.List.{length-replicate}
use Rattle.activity_order.proofs.WaitLaws.{wait_all, wait_grown}
use Rattle.watch_solver.proofs.LiveLemmas.{first_of_numbered}
use Rattle.watch_solver.proofs.StateLemmas.{begin_state, clash_of}
use Rattle.watch_solver.proofs.DropLemmas.{first_drop}
use Rattle.watch_solver.proofs.begin.begin.Goals as goal

pub returns-clause-state : goal.returns-clause-state
returns-clause-state c =
    let grows = c.seat_all-clash.ensures.grows in
    let vars : c.vars-vars.result ≡ c.in_ok-store.store.vars = c.vars-vars.ensures.value ∙ sym c.in_ok-store.ensures.vars in
    begin_state (record { alloc = c.allocator-alloc.result; store = c.in_ok-store.store; given = c.len-given.result; last = c.len-given.result; history = c.new-5.result; trail = c.seat_all-clash.new.trail; space = c.in_ok-space.space; order = c.in_ok-order.order; stamps = c.in_ok-stamps.stamps; met = c.in_ok-met.met; pace = c.new-6.result; drop_at = 2000; valuation = record { values = c.from_vec.result }; found = false; refuted = false; clash = c.seat_all-clash.result }) c.args.formula.clauses c.in_ok-store.ensures.live c.len-given.ensures refl c.new-5.ensures c.seat_all-clash.ensures.fits
    (wait_grown c.in_ok-order.order c.in_ok-trail.trail c.seat_all-clash.new.trail grows.more grows.vars grows.entries
    (wait_all c.in_ok-order.order c.in_ok-trail.trail (c.in_ok-order.ensures.vars ∙ sym c.in_ok-trail.ensures.vars) (c.in_ok-order.ensures.waits ∙ ap (λ (n : ℕ). replicate n true) (sym c.in_ok-trail.ensures.vars))))
    (c.in_ok-space.ensures.vars ∙ vars)
    (ap length c.from_vec.ensures ∙ (ap length (c.in_ok-values.ensures.items_if_clones_equal (λ y same. same)) ∙ (length-replicate _ false ∙ vars)))
    (ap length (c.in_ok-stamps.ensures.items_if_clones_equal (λ y same. same)) ∙ (length-replicate _ 0 ∙ vars))
    refl
    (clash_of c.seat_all-clash.result c.in_ok-store.store.live c.seat_all-clash.new.trail (grows.present ∙ c.in_ok-trail.ensures.empty.2) c.seat_all-clash.ensures.clash c.seat_all-clash.ensures.short)
    (inr first_drop)

pub returns-clause-formula : goal.returns-clause-formula
returns-clause-formula c = first_of_numbered c.len-given.result c.in_ok-store.store.live c.args.formula.clauses c.in_ok-store.ensures.live c.len-given.ensures
