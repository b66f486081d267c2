-- Why `gather_ahead` does what its contract says.
use Rattle.std.proofs.Common.{◌≡◌, ◌+◌, ◌≤◌, ◌++◌, ◌∷◌, [], ◌∙◌, sym, ap, arith, length}
use Rattle.clause_list.specs.Cones.{cone_at}
use Rattle.clause_encoder.proofs.GatherLemmas.{gathered_none, gathered_more, too_many, home_row, is_cone}
use Rattle.clause_encoder.proofs.gather.gather_ahead.Goals as goal

pub loop-step-init : goal.loop-step-init
loop-step-init g c = rw (c.new-cones.ensures) (gathered_none _ _ _ _ c.requires.first)

pub bounds-homes-last : goal.bounds-homes-last
bounds-homes-last g c = (home_row (g.M.Moves.table c.args.table.now c.args.inst.now) c.args.last c.loop-step.step c.args.homes.now [] c.requires.homes (omega arith)).0

pub returns-then-len-count-clause-err : goal.returns-then-len-count-clause-err
returns-then-len-count-clause-err g c =
    let within : c.loop-step.step ≤ c.args.last = omega arith in
    let row = home_row (g.M.Moves.table c.args.table.now c.args.inst.now) c.args.last c.loop-step.step c.args.homes.now c.index-homes-last.result c.requires.homes within in
    let cone : c.in-Ok.cone.items ≡ cone_at (g.M.Moves.table c.args.table.now c.args.inst.now) c.args.window c.args.last c.loop-step.step = is_cone (g.M.Moves.table c.args.table.now c.args.inst.now) c.args.window c.args.last c.loop-step.step c.len.result c.loop-step.marks c.index-homes-last.result c.in-Ok.cone.items c.in-Ok.ensures (c.len.ensures.count ∙ sym (c.len.ensures.items c.args.inst.now)) c.loop-step.invariant.marks_are (c.index-homes-last.is ∙ row.1) in
    too_many _ _ _ _ _ _ _ _ c.loop-step.invariant within cone (omega arith)

pub loop-step-preserved : goal.loop-step-preserved
loop-step-preserved g c =
    let within : c.loop-step.step ≤ c.args.last = omega arith in
    let row = home_row (g.M.Moves.table c.args.table.now c.args.inst.now) c.args.last c.loop-step.step c.args.homes.now c.index-homes-last.result c.requires.homes within in
    let cone : c.in-Ok.cone.items ≡ cone_at (g.M.Moves.table c.args.table.now c.args.inst.now) c.args.window c.args.last c.loop-step.step = is_cone (g.M.Moves.table c.args.table.now c.args.inst.now) c.args.window c.args.last c.loop-step.step c.len.result c.loop-step.marks c.index-homes-last.result c.in-Ok.cone.items c.in-Ok.ensures (c.len.ensures.count ∙ sym (c.len.ensures.items c.args.inst.now)) c.loop-step.invariant.marks_are (c.index-homes-last.is ∙ row.1) in
    let size : c.loop-step.count + c.len-count.result ≡ c.loop-step.count + length c.in-Ok.cone.items = omega arith in
    gathered_more _ _ _ _ _ _ _ _ _ _ _ c.loop-step.invariant cone (c.in-Ok-push.ensures.ok ∙ ap (λ r. c.loop-step.cones ++ r ∷ []) c.deref.ensures.value) size (omega arith) c.in-Ok-ahead_marks.ensures
