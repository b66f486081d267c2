-- Why `keep` does what its contract says.
use Rattle.std.proofs.Common.{ap, sym, ◌∙◌, ◌∷◌, ◌++◌, []}
use Rattle.conflict_learn.proofs.CallLemmas.{place_assigned, kept_present, kept_low}
use Rattle.conflict_learn.proofs.learning.keep.Goals as goal

pub level-level-requires-clause-in_range : goal.level-level-requires-clause-in_range
level-level-requires-clause-in_range g c = (place_assigned (g.C.Clauses.live c.args.clauses.now) c.args.trail.now c.args.place c.args.lit c.requires.place).0

pub level-level-requires-clause-assigned : goal.level-level-requires-clause-assigned
level-level-requires-clause-assigned g c = (place_assigned (g.C.Clauses.live c.args.clauses.now) c.args.trail.now c.args.place c.args.lit c.requires.place).1

pub overflow_sub-work : goal.overflow_sub-work
overflow_sub-work g c = (kept_present (g.C.Clauses.live c.args.clauses.now) c.args.trail.now c.args.place c.args.lit c.args.marks.now c.args.work.now.unresolved c.args.work.now.level c.level-level.result c.args.work.now.lits.items c.push.new.self.items c.args.work.now.hints.items c.requires.place c.requires.marked c.requires.kept c.level-level.ensures.value (c.if-level-now.true ∙ c.now.ensures.value) (c.in_ok-push.ensures.ok ∙ ap (λ l. c.args.work.now.lits.items ++ l ∷ []) c.negated.ensures) c.requires.working).0

pub returns-then-level-now : goal.returns-then-level-now
returns-then-level-now g c = record { working = (kept_present (g.C.Clauses.live c.args.clauses.now) c.args.trail.now c.args.place c.args.lit c.args.marks.now c.args.work.now.unresolved c.args.work.now.level c.level-level.result c.args.work.now.lits.items c.push.new.self.items c.args.work.now.hints.items c.requires.place c.requires.marked c.requires.kept c.level-level.ensures.value (c.if-level-now.true ∙ c.now.ensures.value) (c.in_ok-push.ensures.ok ∙ ap (λ l. c.args.work.now.lits.items ++ l ∷ []) c.negated.ensures) c.requires.working).1 }

pub returns-else-level-now : goal.returns-else-level-now
returns-else-level-now g c = record {
  working = kept_low (g.C.Clauses.live c.args.clauses.now) c.args.trail.now c.args.place c.args.lit c.args.marks.now c.args.work.now.unresolved c.args.work.now.level c.max-work.result c.level-level.result c.args.work.now.lits.items c.push.new.self.items c.args.work.now.hints.items c.requires.place c.level-level.ensures.value (λ same. c.if-level-now.false (same ∙ sym c.now.ensures.value)) c.max-work.ensures (c.in_ok-push.ensures.ok ∙ ap (λ l. c.args.work.now.lits.items ++ l ∷ []) c.negated.ensures) c.requires.working;
}
