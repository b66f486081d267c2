-- Why `meet` does what its contract says.
use Rattle.std.proofs.Common.{false, sym, subst, arith}
use Rattle.solver_face.specs.Solving.{Solving, Searched}
use Rattle.watch_solver.specs.Running.{watch_solving}
use Rattle.watch_solver.proofs.StateLemmas.{met_searched}
use Rattle.watch_solver.proofs.LearnedLemmas.{ends_in_add}
use Rattle.watch_solver.proofs.RoundLemmas.{on_alike}
use Rattle.watch_solver.proofs.DropLemmas.{just_added_of, dropped_searched}
use Rattle.watch_solver.proofs.search.meet.Goals as goal

pub ended-requires-clause-add_last : goal.ended-requires-clause-add_last
ended-requires-clause-add_last c =
    let met = c.in_ok-conflict.ensures.met in
    ends_in_add c.args.state.now.history c.conflict.new.state.history met.id met.lits met.hints met.one_more

pub drop_learned-requires-clause-just : goal.drop_learned-requires-clause-just
drop_learned-requires-clause-just c = just_added_of c.args.state.now c.conflict.new.state c.ended.new.state c.in_ok-conflict.ensures.met c.ended.ensures.alike

pub returns-in_err-drop_learned-in-None-clause-searched : goal.returns-in_err-drop_learned-in-None-clause-searched
returns-in_err-drop_learned-in-None-clause-searched c =
    subst (λ (x : Solving). Searched (watch_solving c.args.state.now false) x c.args.budget.now c.spend.new.self) (sym c.in_err-drop_learned-in-None.ensures.err)
    (on_alike c.args.state.now c.conflict.new.state c.ended.new.state c.args.budget.now c.spend.new.self
    (met_searched c.args.state.now c.conflict.new.state c.args.budget.now c.spend.new.self c.requires.state.sound c.in_ok-conflict.ensures.met c.spend.ensures)
    c.ended.ensures.alike)

pub returns-in-Some-clause-searched : goal.returns-in-Some-clause-searched
returns-in-Some-clause-searched c =
    on_alike c.args.state.now c.conflict.new.state c.ended.new.state c.args.budget.now c.spend.new.self
    (met_searched c.args.state.now c.conflict.new.state c.args.budget.now c.spend.new.self c.requires.state.sound c.in_ok-conflict.ensures.met c.spend.ensures)
    c.ended.ensures.alike

pub returns-in_ok-drop_learned-in-None-clause-searched : goal.returns-in_ok-drop_learned-in-None-clause-searched
returns-in_ok-drop_learned-in-None-clause-searched c =
    dropped_searched c.args.state.now c.ended.new.state c.drop_learned.new.state c.args.budget.now c.spend.new.self
    (on_alike c.args.state.now c.conflict.new.state c.ended.new.state c.args.budget.now c.spend.new.self
    (met_searched c.args.state.now c.conflict.new.state c.args.budget.now c.spend.new.self c.requires.state.sound c.in_ok-conflict.ensures.met c.spend.ensures)
    c.ended.ensures.alike)
    (omega (arith, c.spend.ensures)) c.in_ok-drop_learned-in-None.ensures.step
