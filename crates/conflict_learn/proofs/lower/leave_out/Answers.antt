-- Why `leave_out` does what its contract says.
use Rattle.conflict_learn.proofs.LowerLemmas.{implied_place}
use Rattle.conflict_learn.proofs.lower.leave_out.Goals as goal

pub returns-clause-working : goal.returns-clause-working
returns-clause-working g c = implied_place (g.C.Clauses.live c.args.clauses.now) c.args.trail.now c.args.place c.args.lit c.args.marks.now c.args.work.now.unresolved c.args.work.now.level c.args.work.now.lits.items c.args.work.now.hints.items c.push.new.self.items c.args.id c.requires.place c.requires.marked c.requires.none c.requires.reason c.requires.implied c.in_ok-push.ensures.ok c.requires.working
