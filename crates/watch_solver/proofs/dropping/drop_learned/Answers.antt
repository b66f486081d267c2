-- Why `drop_learned` does what its contract says.
use Rattle.std.proofs.Common.{◌≡◌, ◌≢◌, List, [], ◌∷◌, ◌++◌, refl, ap, sym, subst, ◌∙◌, arith}
use Rattle.std.specs.Prelude.{None}
use Rattle.sat_core.specs.declared.literal.ClauseId.{ClauseId}
use Rattle.sat_core.specs.Derivation.{drops}
use Rattle.sat_core.specs.Search.{derives, IsDropPlace, log_of, adds_in}
use Rattle.watch_solver.specs.Running.{first_clauses}
use Rattle.watch_solver.specs.Dropping.{without_ids}
use Rattle.watch_solver.proofs.StateLemmas.{solving_same, on_err}
use Rattle.watch_solver.proofs.DropLemmas.{drop_state, formula_without, place_of_tells, none_where_not}
use Rattle.watch_solver.proofs.dropping.drop_learned.Goals as goal

pub returns-in_err-drop_clauses-clause-err : goal.returns-in_err-drop_clauses-clause-err
returns-in_err-drop_clauses-clause-err c =
    let run = c.requires.state.running c.requires.open in
    let live : c.let_go.new.store.live ≡ without_ids c.in_ok-ids.ids.items c.args.state.now.store.live = c.let_go.ensures.live ∙ ap (λ (l : List ClauseId). without_ids l c.args.state.now.store.live) c.as_slice.ensures.value in
    on_err c.from_residual-in_err-drop_clauses.result _
    (solving_same c.args.state.now (record { alloc = c.args.state.now.alloc; store = c.let_go.new.store; given = c.args.state.now.given; last = c.args.state.now.last; history = c.drop_clauses.new.self; trail = c.args.state.now.trail; space = c.args.state.now.space; order = c.args.state.now.order; stamps = c.args.state.now.stamps; met = c.args.state.now.met; pace = c.args.state.now.pace; drop_at = c.next_drop-state.result; valuation = c.args.state.now.valuation; found = c.args.state.now.found; refuted = c.args.state.now.refuted; clash = c.args.state.now.clash }) c.let_go.ensures.vars
    (ap (first_clauses c.args.state.now.given) live ∙ formula_without c.args.state.now.given c.args.state.now.store.live c.in_ok-ids.ids.items run.live.given_within run.live.front c.in_ok-ids.ensures.behind)
    c.in_err-drop_clauses.ensures.err refl refl)

pub returns-clause-state : goal.returns-clause-state
returns-clause-state c =
    let some : c.args.state.now.drop_at ≢ 0 = λ none. absurd (omega (arith, c.if-state-eq0.false, none)) in
    let same : c.args.state.now.drop_at ≡ adds_in (log_of c.args.state.now.history) = omega (arith, c.adds.ensures, c.if-adds-state.false) in
    let place : IsDropPlace (adds_in (log_of c.args.state.now.history)) = subst IsDropPlace same (place_of_tells c.args.state.now.drop_at some c.requires.state.drop_place) in
    let no_clash : c.args.state.now.clash ≡ None = none_where_not (c.args.state.now.clash) (sym c.is_some.ensures ∙ c.if-is_some.false) in
    let live : c.let_go.new.store.live ≡ without_ids c.in_ok-ids.ids.items c.args.state.now.store.live = c.let_go.ensures.live ∙ ap (λ (l : List ClauseId). without_ids l c.args.state.now.store.live) c.as_slice.ensures.value in
    let history : c.drop_clauses.new.self ≡ c.args.state.now.history ++ derives (drops c.in_ok-ids.ids.items) ∷ [] = c.in_ok-drop_clauses.ensures.ok ∙ ap (λ (l : List ClauseId). c.args.state.now.history ++ derives (drops l) ∷ []) c.from_vec.ensures in
    (drop_state c.args.state.now (record { alloc = c.args.state.now.alloc; store = c.let_go.new.store; given = c.args.state.now.given; last = c.args.state.now.last; history = c.drop_clauses.new.self; trail = c.args.state.now.trail; space = c.args.state.now.space; order = c.args.state.now.order; stamps = c.args.state.now.stamps; met = c.args.state.now.met; pace = c.args.state.now.pace; drop_at = c.next_drop-state.result; valuation = c.args.state.now.valuation; found = c.args.state.now.found; refuted = c.args.state.now.refuted; clash = c.args.state.now.clash }) c.in_ok-ids.ids.items c.requires.state c.requires.open c.in_ok-ids.ensures c.requires.just place no_clash c.let_go.ensures.vars live refl refl history refl refl refl refl refl refl refl c.let_go.ensures.fits c.next_drop-state.ensures).0

pub returns-clause-step : goal.returns-clause-step
returns-clause-step c =
    let some : c.args.state.now.drop_at ≢ 0 = λ none. absurd (omega (arith, c.if-state-eq0.false, none)) in
    let same : c.args.state.now.drop_at ≡ adds_in (log_of c.args.state.now.history) = omega (arith, c.adds.ensures, c.if-adds-state.false) in
    let place : IsDropPlace (adds_in (log_of c.args.state.now.history)) = subst IsDropPlace same (place_of_tells c.args.state.now.drop_at some c.requires.state.drop_place) in
    let no_clash : c.args.state.now.clash ≡ None = none_where_not (c.args.state.now.clash) (sym c.is_some.ensures ∙ c.if-is_some.false) in
    let live : c.let_go.new.store.live ≡ without_ids c.in_ok-ids.ids.items c.args.state.now.store.live = c.let_go.ensures.live ∙ ap (λ (l : List ClauseId). without_ids l c.args.state.now.store.live) c.as_slice.ensures.value in
    let history : c.drop_clauses.new.self ≡ c.args.state.now.history ++ derives (drops c.in_ok-ids.ids.items) ∷ [] = c.in_ok-drop_clauses.ensures.ok ∙ ap (λ (l : List ClauseId). c.args.state.now.history ++ derives (drops l) ∷ []) c.from_vec.ensures in
    (drop_state c.args.state.now (record { alloc = c.args.state.now.alloc; store = c.let_go.new.store; given = c.args.state.now.given; last = c.args.state.now.last; history = c.drop_clauses.new.self; trail = c.args.state.now.trail; space = c.args.state.now.space; order = c.args.state.now.order; stamps = c.args.state.now.stamps; met = c.args.state.now.met; pace = c.args.state.now.pace; drop_at = c.next_drop-state.result; valuation = c.args.state.now.valuation; found = c.args.state.now.found; refuted = c.args.state.now.refuted; clash = c.args.state.now.clash }) c.in_ok-ids.ids.items c.requires.state c.requires.open c.in_ok-ids.ensures c.requires.just place no_clash c.let_go.ensures.vars live refl refl history refl refl refl refl refl refl refl c.let_go.ensures.fits c.next_drop-state.ensures).1
