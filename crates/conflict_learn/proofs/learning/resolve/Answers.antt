-- Why `resolve` does what its contract says.
use Rattle.std.proofs.Common.{cond, ap, ◌∙◌, arith}
use Rattle.std.specs.Prelude.{nat_eq}
use Rattle.conflict_learn.proofs.WorkLemmas.{bool_byte_is}
use Rattle.conflict_learn.proofs.CallLemmas.{place_assigned, reason_assigned, reason_live, clause_over, clause_short, resolved_place, pending_short}
use Rattle.conflict_learn.proofs.learning.resolve.Goals as goal

pub unreachable-requires : goal.unreachable-requires
unreachable-requires g c = reason_live (g.C.Clauses.live c.args.clauses.now) c.args.trail.now c.args.place c.args.lit c.args.work.now.unresolved c.args.id c.requires.place c.requires.resolved c.in-None.ensures

pub level-requires-clause-in_range : goal.level-requires-clause-in_range
level-requires-clause-in_range g c = (place_assigned (g.C.Clauses.live c.args.clauses.now) c.args.trail.now c.args.place c.args.lit c.requires.place).0

pub level-requires-clause-assigned : goal.level-requires-clause-assigned
level-requires-clause-assigned g c = (place_assigned (g.C.Clauses.live c.args.clauses.now) c.args.trail.now c.args.place c.args.lit c.requires.place).1

pub mark_all-found-requires-clause-assigned : goal.mark_all-found-requires-clause-assigned
mark_all-found-requires-clause-assigned g c = reason_assigned (g.C.Clauses.live c.args.clauses.now) c.args.trail.now c.args.place c.args.lit c.args.work.now.unresolved c.args.id c.in-Some.lits.now c.requires.place c.requires.resolved c.in-Some.ensures

pub mark_all-found-requires-clause-few : goal.mark_all-found-requires-clause-few
mark_all-found-requires-clause-few g c = omega (arith, clause_short c.args.trail.now.vars c.in-Some.lits.now (clause_over (g.C.Clauses.live c.args.clauses.now) c.args.trail.now c.args.id c.in-Some.lits.now c.requires.place.over c.in-Some.ensures), c.requires.place.laws.numbered)

pub overflow_sub-work : goal.overflow_sub-work
overflow_sub-work g c = (resolved_place (g.C.Clauses.live c.args.clauses.now) c.args.trail.now c.args.place c.args.lit c.args.marks.now c.mark_all-found.new.marks c.args.work.now.unresolved c.args.work.now.level c.level.result c.args.work.now.lits.items c.args.work.now.hints.items c.push.new.self.items c.args.id c.in-Some.lits.now c.mark_all-found.result c.from-less.result c.requires.place c.requires.marked c.requires.resolved c.level.ensures.value c.in-Some.ensures c.mark_all-found.ensures (c.from-less.ensures ∙ (bool_byte_is (nat_eq c.level.result c.now.result) ∙ ap (λ n. cond (nat_eq c.level.result n) 1 0) c.now.ensures.value)) c.in_ok-push.ensures.ok c.requires.working).0

pub overflow_add-work : goal.overflow_add-work
overflow_add-work g c = omega (arith, (resolved_place (g.C.Clauses.live c.args.clauses.now) c.args.trail.now c.args.place c.args.lit c.args.marks.now c.mark_all-found.new.marks c.args.work.now.unresolved c.args.work.now.level c.level.result c.args.work.now.lits.items c.args.work.now.hints.items c.push.new.self.items c.args.id c.in-Some.lits.now c.mark_all-found.result c.from-less.result c.requires.place c.requires.marked c.requires.resolved c.level.ensures.value c.in-Some.ensures c.mark_all-found.ensures (c.from-less.ensures ∙ (bool_byte_is (nat_eq c.level.result c.now.result) ∙ ap (λ n. cond (nat_eq c.level.result n) 1 0) c.now.ensures.value)) c.in_ok-push.ensures.ok c.requires.working).1.counted, pending_short c.args.trail.now.entries c.mark_all-found.new.marks c.args.trail.now.present c.args.place, c.requires.place.laws.few, c.requires.place.laws.numbered)

pub returns-clause-long : goal.returns-clause-long
returns-clause-long g c = c.mark_all-found.ensures.long

pub returns-clause-working : goal.returns-clause-working
returns-clause-working g c = (resolved_place (g.C.Clauses.live c.args.clauses.now) c.args.trail.now c.args.place c.args.lit c.args.marks.now c.mark_all-found.new.marks c.args.work.now.unresolved c.args.work.now.level c.level.result c.args.work.now.lits.items c.args.work.now.hints.items c.push.new.self.items c.args.id c.in-Some.lits.now c.mark_all-found.result c.from-less.result c.requires.place c.requires.marked c.requires.resolved c.level.ensures.value c.in-Some.ensures c.mark_all-found.ensures (c.from-less.ensures ∙ (bool_byte_is (nat_eq c.level.result c.now.result) ∙ ap (λ n. cond (nat_eq c.level.result n) 1 0) c.now.ensures.value)) c.in_ok-push.ensures.ok c.requires.working).1
