-- Why `keep` does what its contract says.
use Rattle.std.proofs.Common.{◌+◌, ◌≤◌, ◌⊎◌, false, length, get_or, refl, ap, sym, subst, ◌∙◌, arith}
use Rattle.std.specs.Prelude.{All}
use Rattle.std.proofs.lemmas.List.{get_or_default}
use Rattle.sat_core.specs.Clauses.{IsClause}
use Rattle.sat_core.specs.Fresh.{IsOpen, IsUnitUnder}
use Rattle.sat_core.specs.Hints.{NumberedClause}
use Rattle.search_trail.specs.Trails.{known_of, assigned}
use Rattle.watch_store.specs.Places.{IsInserted}
use Rattle.watch_store.specs.Fits.{FitsTrail, HasTwoNotFalse, IsUnitNow}
use Rattle.watch_solver.proofs.LiveLemmas.{new_number}
use Rattle.watch_solver.proofs.StateLemmas.{fits_back, formula_grown, solving_same, lent_long, some_long, on_err}
use Rattle.watch_solver.proofs.LearnedLemmas.{back_within, watchable_cut, first_unit, learned_state}
use Rattle.watch_solver.proofs.conflict.keep.Goals as goal

pub bump_met-requires-clause-over : goal.bump_met-requires-clause-over
bump_met-requires-clause-over c =
    let run = c.requires.state.running c.requires.open in
    subst (λ n. All (λ (clause : NumberedClause). IsClause n clause.lits) c.args.state.now.store.live) (sym run.waiting.same_vars) run.fits.over

pub add-requires-clause-new_number : goal.add-requires-clause-new_number
add-requires-clause-new_number c = new_number c.args.state.now.store.live c.args.state.now.last _ (c.requires.state.running c.requires.open).live.numbered (omega arith)

pub add-requires-clause-fits : goal.add-requires-clause-fits
add-requires-clause-fits c = fits_back c.args.state.now.store c.args.state.now.trail c.go_back.new.trail c.args.level (back_within c.args.state.now.store.live c.args.state.now.trail c.args.lits c.args.hints c.args.level c.requires.learned) c.go_back.ensures.vars c.go_back.ensures.cut c.go_back.ensures.read c.go_back.ensures.now (c.requires.state.running c.requires.open).fits

pub add-requires-clause-watchable : goal.add-requires-clause-watchable
add-requires-clause-watchable c =
    subst (λ ls. 2 ≤ length ls → HasTwoNotFalse (known_of c.go_back.new.trail.entries) ls ⊎ IsUnitNow c.go_back.new.trail ls) (sym c.as_slice-2.ensures)
    (watchable_cut c.args.state.now.trail c.go_back.new.trail c.args.lits c.args.hints c.args.state.now.store.live c.args.level (c.requires.state.running c.requires.open).fits.laws c.requires.learned c.requires.some c.go_back.ensures.cut c.go_back.ensures.now)

pub assign-requires-clause-is_open : goal.assign-requires-clause-is_open
assign-requires-clause-is_open c =
    subst (λ ls. IsOpen (known_of c.go_back.new.trail.entries) (get_or ls 0 (record { var = record { 0 = 0 }; positive = false }))) (sym c.as_slice-3.ensures)
    (first_unit c.args.state.now.trail c.go_back.new.trail c.args.lits c.args.hints c.args.state.now.store.live c.args.level (get_or c.args.lits 0 (record { var = record { 0 = 0 }; positive = false })) (c.requires.state.running c.requires.open).fits.laws c.requires.learned c.requires.some (get_or_default c.args.lits 0 (get_or c.args.lits 0 (record { var = record { 0 = 0 }; positive = false })) (record { var = record { 0 = 0 }; positive = false }) (some_long c.args.lits c.requires.some)) c.go_back.ensures.cut).open_lit

pub returns-in_err-add-2-clause-err : goal.returns-in_err-add-2-clause-err
returns-in_err-add-2-clause-err c = on_err c.from_residual-in_err-add-2.result _ (solving_same c.args.state.now (record { alloc = c.args.state.now.alloc; store = c.add.new.self; given = c.args.state.now.given; last = c.args.state.now.last; history = c.add-2.new.self; trail = c.assign.new.self; space = c.args.state.now.space; order = c.go_back.new.order; stamps = c.args.state.now.stamps; met = c.args.state.now.met; pace = c.args.state.now.pace; drop_at = c.args.state.now.drop_at; valuation = c.args.state.now.valuation; found = c.args.state.now.found; refuted = c.args.state.now.refuted; clash = c.args.state.now.clash }) c.add.ensures.vars (formula_grown c.args.state.now (record { alloc = c.args.state.now.alloc; store = c.add.new.self; given = c.args.state.now.given; last = c.args.state.now.last; history = c.add-2.new.self; trail = c.assign.new.self; space = c.args.state.now.space; order = c.go_back.new.order; stamps = c.args.state.now.stamps; met = c.args.state.now.met; pace = c.args.state.now.pace; drop_at = c.args.state.now.drop_at; valuation = c.args.state.now.valuation; found = c.args.state.now.found; refuted = c.args.state.now.refuted; clash = c.args.state.now.clash }) _ _ (c.requires.state.running c.requires.open) refl c.in_ok-add.ensures.live refl) c.in_err-add-2.ensures.err refl refl)

pub returns-clause-state : goal.returns-clause-state
returns-clause-state c = (learned_state c.args.state.now _ c.go_back.new.trail (record { 0 = c.args.state.now.last + 1 }) c.args.lits c.args.hints c.args.level (get_or c.args.lits 0 (record { var = record { 0 = 0 }; positive = false })) c.requires.state c.requires.open refl c.requires.some
    (get_or_default c.args.lits 0 (get_or c.args.lits 0 (record { var = record { 0 = 0 }; positive = false })) (record { var = record { 0 = 0 }; positive = false }) (some_long c.args.lits c.requires.some)) c.requires.learned c.add.ensures.vars
    (subst (λ ls. IsInserted (record { 0 = c.args.state.now.last + 1 }) ls c.args.state.now.store.live c.add.new.self.live) c.as_slice-2.ensures c.in_ok-add.ensures.live) refl refl c.in_ok-add-2.ensures.ok refl refl refl refl refl
    (lent_long c.args.state.now.stamps.len c.bump_met.new.stamps c.args.state.now.stamps.items (omega (arith, c.bump_met.ensures.stamps, ap length c.as_mut_slice.ensures.value)) ∙ (c.bump_met.ensures.stamps ∙ ap length c.as_mut_slice.ensures.value))
    (subst (FitsTrail c.add.new.self) (sym c.assign.ensures.one_more) (subst (λ ls. FitsTrail c.add.new.self (assigned c.go_back.new.trail (get_or ls 0 (record { var = record { 0 = 0 }; positive = false })) (record { 0 = c.args.state.now.last + 1 }))) (sym c.as_slice-3.ensures) (c.in_ok-add.ensures.forced (get_or c.args.lits 0 (record { var = record { 0 = 0 }; positive = false })) (subst (λ ls. IsUnitUnder (known_of c.go_back.new.trail.entries) ls (get_or c.args.lits 0 (record { var = record { 0 = 0 }; positive = false }))) (sym c.as_slice-2.ensures) (first_unit c.args.state.now.trail c.go_back.new.trail c.args.lits c.args.hints c.args.state.now.store.live c.args.level (get_or c.args.lits 0 (record { var = record { 0 = 0 }; positive = false })) (c.requires.state.running c.requires.open).fits.laws c.requires.learned c.requires.some (get_or_default c.args.lits 0 (get_or c.args.lits 0 (record { var = record { 0 = 0 }; positive = false })) (record { var = record { 0 = 0 }; positive = false }) (some_long c.args.lits c.requires.some)) c.go_back.ensures.cut)))))
    c.go_back.ensures.waiting c.go_back.ensures.cut c.go_back.ensures.now
    (c.assign.ensures.one_more ∙ ap (λ ls. assigned c.go_back.new.trail (get_or ls 0 (record { var = record { 0 = 0 }; positive = false })) (record { 0 = c.args.state.now.last + 1 })) c.as_slice-3.ensures)).0

pub returns-clause-met : goal.returns-clause-met
returns-clause-met c = (learned_state c.args.state.now _ c.go_back.new.trail (record { 0 = c.args.state.now.last + 1 }) c.args.lits c.args.hints c.args.level (get_or c.args.lits 0 (record { var = record { 0 = 0 }; positive = false })) c.requires.state c.requires.open refl c.requires.some
    (get_or_default c.args.lits 0 (get_or c.args.lits 0 (record { var = record { 0 = 0 }; positive = false })) (record { var = record { 0 = 0 }; positive = false }) (some_long c.args.lits c.requires.some)) c.requires.learned c.add.ensures.vars
    (subst (λ ls. IsInserted (record { 0 = c.args.state.now.last + 1 }) ls c.args.state.now.store.live c.add.new.self.live) c.as_slice-2.ensures c.in_ok-add.ensures.live) refl refl c.in_ok-add-2.ensures.ok refl refl refl refl refl
    (lent_long c.args.state.now.stamps.len c.bump_met.new.stamps c.args.state.now.stamps.items (omega (arith, c.bump_met.ensures.stamps, ap length c.as_mut_slice.ensures.value)) ∙ (c.bump_met.ensures.stamps ∙ ap length c.as_mut_slice.ensures.value))
    (subst (FitsTrail c.add.new.self) (sym c.assign.ensures.one_more) (subst (λ ls. FitsTrail c.add.new.self (assigned c.go_back.new.trail (get_or ls 0 (record { var = record { 0 = 0 }; positive = false })) (record { 0 = c.args.state.now.last + 1 }))) (sym c.as_slice-3.ensures) (c.in_ok-add.ensures.forced (get_or c.args.lits 0 (record { var = record { 0 = 0 }; positive = false })) (subst (λ ls. IsUnitUnder (known_of c.go_back.new.trail.entries) ls (get_or c.args.lits 0 (record { var = record { 0 = 0 }; positive = false }))) (sym c.as_slice-2.ensures) (first_unit c.args.state.now.trail c.go_back.new.trail c.args.lits c.args.hints c.args.state.now.store.live c.args.level (get_or c.args.lits 0 (record { var = record { 0 = 0 }; positive = false })) (c.requires.state.running c.requires.open).fits.laws c.requires.learned c.requires.some (get_or_default c.args.lits 0 (get_or c.args.lits 0 (record { var = record { 0 = 0 }; positive = false })) (record { var = record { 0 = 0 }; positive = false }) (some_long c.args.lits c.requires.some)) c.go_back.ensures.cut)))))
    c.go_back.ensures.waiting c.go_back.ensures.cut c.go_back.ensures.now
    (c.assign.ensures.one_more ∙ ap (λ ls. assigned c.go_back.new.trail (get_or ls 0 (record { var = record { 0 = 0 }; positive = false })) (record { 0 = c.args.state.now.last + 1 })) c.as_slice-3.ensures)).1
