-- Why `start` does what its contract says.
use Rattle.std.proofs.Common.{arith}
use Rattle.conflict_learn.proofs.CallLemmas.{conflict_assigned, clause_over, clause_short, start_state}
use Rattle.conflict_learn.proofs.learning.start.Goals as goal

pub mark_all-unresolved-requires-clause-assigned : goal.mark_all-unresolved-requires-clause-assigned
mark_all-unresolved-requires-clause-assigned g c = conflict_assigned (g.C.Clauses.live c.args.clauses.now) c.args.trail.now c.args.conflict c.in-Some.lits.now c.len-len.ensures.laws c.requires.over c.requires.conflict c.in-Some.ensures

pub mark_all-unresolved-requires-clause-few : goal.mark_all-unresolved-requires-clause-few
mark_all-unresolved-requires-clause-few g c = omega (arith, clause_short c.args.trail.now.vars c.in-Some.lits.now (clause_over (g.C.Clauses.live c.args.clauses.now) c.args.trail.now c.args.conflict c.in-Some.lits.now c.requires.over c.in-Some.ensures), c.len-len.ensures.laws.numbered)

pub returns-clause-working : goal.returns-clause-working
returns-clause-working g c = start_state (g.C.Clauses.live c.args.clauses.now) c.args.trail.now c.args.marks.now c.mark_all-unresolved.new.marks c.args.conflict c.in-Some.lits.now c.mark_all-unresolved.result c.new.result.items c.new-hints.result.items c.push.new.self.items c.len-len.ensures.laws c.requires.long c.requires.clear c.requires.conflict c.in-Some.ensures c.mark_all-unresolved.ensures c.new.ensures.items c.new-hints.ensures.items c.in_ok-push.ensures.ok
