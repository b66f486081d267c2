-- Why `barriers_of` does what its contract says.
use Rattle.std.proofs.Common.{◌≡◌, take, arith}
use Rattle.std.proofs.lemmas.List.{take_more, take_all}
use Rattle.layout_rules.proofs.ClassLemmas.{barriers_push}
use Rattle.layout_rules.proofs.classes.barriers_of.Goals as goal

pub loop-border-preserved : goal.loop-border-preserved
loop-border-preserved c =
    let pushed = c.in_ok-push.ensures.items in
    let more = take_more c.args.borders.now c.loop-border.border-index (record { 0 = 0 }) (omega arith) in
    rw (pushed, more) (barriers_push c.args.inst.now _ _ c.candidate.result _ c.loop-border.invariant c.candidate.ensures)

pub returns : goal.returns
returns c =
    let all : take c.loop-border.border-index c.args.borders.now ≡ c.args.borders.now = take_all c.loop-border.border-index c.args.borders.now (omega arith) in
    rw all at c.loop-border.invariant
