-- Why `keep_low` does what its contract says.
use Rattle.std.proofs.Common.{ap, ◌∙◌, ◌∷◌, ◌++◌, []}
use Rattle.conflict_learn.proofs.CallLemmas.{place_assigned}
use Rattle.conflict_learn.proofs.LowerLemmas.{kept_place}
use Rattle.conflict_learn.proofs.lower.keep_low.Goals as goal

pub level-level-requires-clause-in_range : goal.level-level-requires-clause-in_range
level-level-requires-clause-in_range g c = (place_assigned (g.C.Clauses.live c.args.clauses.now) c.args.trail.now c.args.place c.args.lit c.requires.place).0

pub level-level-requires-clause-assigned : goal.level-level-requires-clause-assigned
level-level-requires-clause-assigned g c = (place_assigned (g.C.Clauses.live c.args.clauses.now) c.args.trail.now c.args.place c.args.lit c.requires.place).1

pub returns-clause-working : goal.returns-clause-working
returns-clause-working g c = kept_place (g.C.Clauses.live c.args.clauses.now) c.args.trail.now c.args.place c.args.lit c.args.marks.now c.args.work.now.unresolved c.args.work.now.level c.max-work.result c.level-level.result c.args.work.now.lits.items c.push.new.self.items c.args.work.now.hints.items c.requires.place c.requires.marked c.requires.none c.level-level.ensures.value c.max-work.ensures (c.in_ok-push.ensures.ok ∙ ap (λ l. c.args.work.now.lits.items ++ l ∷ []) c.negated.ensures) c.requires.working
