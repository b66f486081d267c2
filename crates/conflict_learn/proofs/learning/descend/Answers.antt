-- Why `descend` does what its contract says.
use Rattle.std.proofs.Common.{◌≡◌, ◌+◌, ◌-◌, ℕ, arith, sym, subst, ◌∙◌}
use Rattle.conflict_learn.specs.Working.{IsWorking}
use Rattle.conflict_learn.proofs.WorkLemmas.{work_end}
use Rattle.conflict_learn.proofs.CallLemmas.{is_place, work_pass_lit, place_assigned}
use Rattle.conflict_learn.proofs.LowerLemmas.{pending_some}
use Rattle.conflict_learn.proofs.learning.descend.Goals as goal

pub is_marked-requires : goal.is_marked-requires
is_marked-requires g c =
    let some = pending_some c.args.trail.now.entries c.places.marks c.args.trail.now.present c.places.place (omega (arith, c.places.invariant.1.counted)) in
    let at = place_assigned (g.C.Clauses.live c.args.clauses.now) c.args.trail.now (c.places.place - 1) c.at-lit.result (is_place (g.C.Clauses.live c.args.clauses.now) c.args.trail.now (c.places.place - 1) c.at-lit.result c.len-place.ensures.laws c.requires.over c.requires.reasons (omega arith) c.at-lit.ensures.value) in
    record { in_range = (at.0.0, omega (arith, at.0.1, c.places.invariant.1.long)) }

pub places-preserved : goal.places-preserved
places-preserved g c =
    let some = pending_some c.args.trail.now.entries c.places.marks c.args.trail.now.present c.places.place (omega (arith, c.places.invariant.1.counted)) in
    let more : c.places.place - 1 + 1 ≡ c.places.place = omega arith in
    (omega (arith, c.places.invariant.0), work_pass_lit (g.C.Clauses.live c.args.clauses.now) c.args.trail.now (c.places.place - 1) c.at-lit.result c.places.marks c.places.work.unresolved c.places.work.level c.places.work.lits.items c.places.work.hints.items (is_place (g.C.Clauses.live c.args.clauses.now) c.args.trail.now (c.places.place - 1) c.at-lit.result c.len-place.ensures.laws c.requires.over c.requires.reasons (omega arith) c.at-lit.ensures.value) (sym c.is_marked.ensures.value ∙ c.if-is_marked.false) (subst (λ (n : ℕ). IsWorking (g.C.Clauses.live c.args.clauses.now) c.args.trail.now n c.places.marks c.places.work.unresolved c.places.work.level c.places.work.lits.items c.places.work.hints.items) (sym more) c.places.invariant.1))

pub overflow_sub-place : goal.overflow_sub-place
overflow_sub-place g c = omega (arith, pending_some c.args.trail.now.entries c.places.marks c.args.trail.now.present c.places.place (omega (arith, c.places.invariant.1.counted)))

pub returns-clause-learned : goal.returns-clause-learned
returns-clause-learned g c = rw (c.finish.ensures.lits, c.finish.ensures.hints, c.finish.ensures.level) (work_end (g.C.Clauses.live c.args.clauses.now) c.args.trail.now c.places.marks c.settle_lower.new.work.unresolved c.settle_lower.new.work.level c.settle_lower.new.work.lits.items c.settle_lower.new.work.hints.items c.in_ok-settle_lower.ensures.working)
