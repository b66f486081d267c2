-- Why `search_from` does what its contract says.
use Rattle.std.proofs.Common.{refl, subst}
use Rattle.gap_clauses.specs.Fans.{IsSearchStop}
use Rattle.gap_clauses.specs.Searched.{IsNoHigher}
use Rattle.gap_clauses.proofs.GapLaws.{searched_crowd, searched_fan, searched_skip}
use Rattle.gap_clauses.proofs.build.search_from.Goals as goal

pub returns-then-is_no_higher : goal.returns-then-is_no_higher
returns-then-is_no_higher c = searched_skip c.args.search.now.inst.now c.args.cell c.cell.result.section.0 _ _ c.requires.so_far (record { cell = c.cell.result; is = c.cell.ensures; of_section = refl }) (c.if-is_no_higher.ensures.0 refl)

pub returns-in_ok-push-in-Ok : goal.returns-in_ok-push-in-Ok
returns-in_ok-push-in-Ok c = searched_fan c.args.search.now.inst.now c.args.cell _ _ _ c.in-Ok.fan c.requires.so_far c.requires.cell c.in-Ok.ensures.ok c.in_ok-push-in-Ok.ensures.items

pub returns-in-Err-TooMany : goal.returns-in-Err-TooMany
returns-in-Err-TooMany c = searched_crowd c.args.search.now.inst.now c.args.cell c.cell.result.section _ _ c.requires.so_far (record { cell = c.cell.result; is = c.cell.ensures; of_section = refl })
    (λ (high : IsNoHigher c.args.found.now.lowest c.cell.result.section.0). absurd (cc (c.if-is_no_higher.ensures.1 high)))
    (subst (IsSearchStop c.args.search.now.inst.now c.args.cell) c.in-Err-TooMany.field-0-is c.in-Err-TooMany.ensures.err)
