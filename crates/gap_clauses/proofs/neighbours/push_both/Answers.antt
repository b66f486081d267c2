-- Why `push_both` does what its contract says.
use Rattle.std.proofs.Common.{◌∙◌, ◌++◌, ◌∷◌, [], ap}
use Rattle.gap_clauses.proofs.NeighbourLemmas.{rows_more}
use Rattle.gap_clauses.proofs.neighbours.push_both.Goals as goal

pub returns : goal.returns
returns c = rows_more _ _ _ _ _ _ _ _ c.requires.so_far c.cell-spec.ensures c.in_ok-low.ensures c.in_ok-high.ensures
    (c.in_ok-push.ensures.ok ∙ ap (λ found. c.args.rows.now ++ found ∷ []) c.deref.ensures.value) (c.in_ok-push-2.ensures.ok ∙ ap (λ found. c.push.new.self ++ found ∷ []) c.deref-2.ensures.value)
