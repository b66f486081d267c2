-- Why `+grow` does what its contract says.
use Rattle.std.proofs.Common.{◌≡◌, ◌<◌, ◌≤◌, true, false, ◌-◌, ◌++◌, List, [], length, take, get_or, ◌∙◌, ap, sym, refl, subst, arith}
use Rattle.std.proofs.lemmas.List.{append-nil, take_all, get_or_default}
use Rattle.cell_net.specs.declared.cells.DirCell.{DirCell}
use Rattle.sweep_table.specs.Growing.{branch, grown, lowward, may_go_on}
use Rattle.sweep_table.proofs.GrowLemmas.{branch_is, grown_none, grown_some, gathered_more, fault_within, fault_same, path_back, row_of_cells}
use Rattle.sweep_table.proofs.grow.+grow.Goals as goal
use Rattle.sweep_table.proofs.grow.+grow.Goals.{then-is_open+in-Ok+in-Ok-grow, else-is_open}

pub returns-then-more-eq0-clause-ok : goal.returns-then-more-eq0-clause-ok
returns-then-more-eq0-clause-ok t c =
    let all = grown_none c.args.growth.now.inst.now c.args.growth.now.train c.args.growth.now.after.now c.args.growth.now.count c.args.more c.args.next.now c.args.path.now.items c.if-more-eq0.true in
    rw (all, ← c.deref.ensures.value) c.keep.ensures.ok

pub returns-then-more-eq0-clause-err : goal.returns-then-more-eq0-clause-err
returns-then-more-eq0-clause-err t c =
    let all = grown_none c.args.growth.now.inst.now c.args.growth.now.train c.args.growth.now.after.now c.args.growth.now.count c.args.more c.args.next.now c.args.path.now.items c.if-more-eq0.true in
    rw (all, ← c.deref.ensures.value) c.keep.ensures.err

pub loop-place-init : goal.loop-place-init
loop-place-init t c = (refl, c.requires.few, sym (append-nil _))

few : (new old : List (List DirCell)) → new ≡ old → length old ≤ 50000 → length new ≤ 50000
few new old same h = omega (arith, ap length same)

pub grow-requires : goal.grow-requires
grow-requires t c =
    let row = λ (e : List DirCell). ap (λ n. get_or c.args.growth.now.after.now n e) (sym c.directed_number.ensures) ∙ c.row-after.ensures.item e in
    (omega arith, (c.requires.after, (c.requires.reach, (omega arith, (row_of_cells _ _ _ _ c.requires.after (c.requires.next c.loop-place.place (lowward 0) c.loop-place-test.true) row, c.loop-place.invariant.1)))))

pub returns-in-Err-grow-clause-err : goal.returns-in-Err-grow-clause-err
returns-in-Err-grow-clause-err t c =
    let d : DirCell = get_or c.args.next.now c.loop-place.place (lowward 0) in
    let within : c.loop-place.place < length c.args.next.now = c.loop-place-test.true in
    let row = λ (e : List DirCell). ap (λ n. get_or c.args.growth.now.after.now n e) (sym c.directed_number.ensures) ∙ c.row-after.ensures.item e in
    let may = subst (λ ds. may_go_on c.args.growth.now.inst.now c.args.growth.now.train c.args.growth.now.count ds d ≡ true) c.deref-in-loop-place.ensures.value (c.is_open.ensures.open c.if-is_open.true) in
    let all = grown_some c.args.growth.now.inst.now c.args.growth.now.train c.args.growth.now.after.now c.args.growth.now.count c.args.more c.args.next.now c.args.path.now.items (omega arith) in
    let here = branch_is _ _ _ _ (c.args.more - 1) c.args.path.now.items _ _ _ d may c.loop-place.invariant.0 c.in-Ok.ensures.items row in
    fault_same _ _ _ _ all (fault_within _ c.args.next.now c.loop-place.place d _ _ _ within (get_or_default _ _ d (lowward 0) within) c.loop-place.invariant.2 (fault_same _ _ _ _ here c.in-Err-grow.ensures.err))

pub loop-place-preserved : goal.loop-place-preserved
loop-place-preserved t c =
    let d : DirCell = get_or c.args.next.now c.loop-place.place (lowward 0) in
    let within : c.loop-place.place < length c.args.next.now = c.loop-place-test.true in
    elim c.if-is_open.branch [
      | then-is_open+in-Ok+in-Ok-grow w ↦
          let row = λ (e : List DirCell). ap (λ n. get_or c.args.growth.now.after.now n e) (sym w.directed_number.ensures) ∙ w.row-after.ensures.item e in
          let may = subst (λ ds. may_go_on c.args.growth.now.inst.now c.args.growth.now.train c.args.growth.now.count ds d ≡ true) c.deref-in-loop-place.ensures.value (c.is_open.ensures.open w.if-is_open.true) in
          let here = branch_is _ _ _ _ (c.args.more - 1) c.args.path.now.items _ _ _ d may c.loop-place.invariant.0 w.in-Ok.ensures.items row in
          let back = path_back c.loop-place.path.items _ _ d _ (w.in-Ok-grow.ensures.path ∙ w.in-Ok.ensures.items) w.pop.ensures.rest (omega arith) in (
            ap (λ v. v.items) w.path-is ∙ (back ∙ c.loop-place.invariant.0),
            few _ _ w.sweeps-is w.in-Ok-grow.ensures.few,
            gathered_more _ c.args.next.now c.loop-place.place d _ _ _ within (get_or_default _ _ d (lowward 0) within) c.loop-place.invariant.2 (w.sweeps-is ∙ (w.in-Ok-grow.ensures.ok ∙ ap (λ ws. c.loop-place.sweeps ++ ws) (sym here))),
          )
      | else-is_open w ↦
          let rest = grown c.args.growth.now.inst.now c.args.growth.now.train c.args.growth.now.after.now c.args.growth.now.count (c.args.more - 1) in
          let none = subst (λ ds. branch c.args.growth.now.inst.now c.args.growth.now.train c.args.growth.now.after.now c.args.growth.now.count rest ds d ≡ []) (c.deref-in-loop-place.ensures.value ∙ c.loop-place.invariant.0) (c.is_open.ensures.closed w.if-is_open.false) in (
            ap (λ v. v.items) w.path-is ∙ c.loop-place.invariant.0,
            few _ _ w.sweeps-is c.loop-place.invariant.1,
            gathered_more _ c.args.next.now c.loop-place.place d _ _ _ within (get_or_default _ _ d (lowward 0) within) c.loop-place.invariant.2 (w.sweeps-is ∙ (sym (append-nil _) ∙ ap (λ ws. c.loop-place.sweeps ++ ws) (sym none))),
          )
    ]

pub returns-clause-path : goal.returns-clause-path
returns-clause-path t c = c.loop-place.invariant.0

pub returns-clause-ok : goal.returns-clause-ok
returns-clause-ok t c =
    let all = grown_some c.args.growth.now.inst.now c.args.growth.now.train c.args.growth.now.after.now c.args.growth.now.count c.args.more c.args.next.now c.args.path.now.items (omega arith) in
    let past : length c.args.next.now ≤ c.loop-place.place = omega arith in
    let whole : take c.loop-place.place c.args.next.now ≡ c.args.next.now = take_all c.loop-place.place c.args.next.now past in
    rw (all, ← whole) c.loop-place.invariant.2
