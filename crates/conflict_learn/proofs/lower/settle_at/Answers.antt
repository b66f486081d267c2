-- Why `settle_at` does what its contract says.
use Rattle.std.proofs.Common.{◌+◌, ◌∙◌, arith, sym}
use Rattle.conflict_learn.proofs.LowerLemmas.{passes, unmarked_here}
use Rattle.conflict_learn.proofs.CallLemmas.{is_place, place_assigned}
use Rattle.conflict_learn.proofs.lower.settle_at.Goals as goal

pub is_marked-requires : goal.is_marked-requires
is_marked-requires g c =
    let at = place_assigned (g.C.Clauses.live c.args.clauses.now) c.args.trail.now c.args.next c.at-lit.result (is_place (g.C.Clauses.live c.args.clauses.now) c.args.trail.now c.args.next c.at-lit.result c.requires.laws c.requires.over c.requires.reasons (omega (arith, c.requires.within)) c.at-lit.ensures.value) in
    record { in_range = (at.0.0, omega (arith, at.0.1, c.requires.working.long)) }

pub settle_low-requires-clause-place : goal.settle_low-requires-clause-place
settle_low-requires-clause-place g c = is_place (g.C.Clauses.live c.args.clauses.now) c.args.trail.now c.args.next c.at-lit.result c.requires.laws c.requires.over c.requires.reasons (omega (arith, c.requires.within)) c.at-lit.ensures.value

pub settle_low-requires-clause-working : goal.settle_low-requires-clause-working
settle_low-requires-clause-working g c = passes (g.C.Clauses.live c.args.clauses.now) c.args.trail.now (c.args.next + 1) c.args.below c.args.marks.now c.args.work.now.unresolved c.args.work.now.level c.args.work.now.lits.items c.args.work.now.hints.items (omega arith) c.requires.within (λ k low high. c.requires.passed k (omega arith) high) c.requires.working

pub returns-clause-settled : goal.returns-clause-settled
returns-clause-settled g c = λ k low marked. unmarked_here c.args.trail.now.entries c.args.marks.now c.args.next c.args.below c.at-lit.result c.at-lit.ensures.value (sym c.is_marked.ensures.value ∙ c.if-is_marked.false) c.requires.passed k low marked
