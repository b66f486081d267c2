-- Why `Fan::new` does what its contract says.
use Rattle.std.proofs.Common.{List, sym, subst}
use Rattle.gap_clauses.specs.Fans.{AreListsOf}
use Rattle.gap_clauses.specs.Walks.{Step}
use Rattle.gap_clauses.proofs.FanLemmas.{lists_first}
use Rattle.gap_clauses.proofs.fan.Fan.new.Goals as goal

pub invariant_of-result : goal.invariant_of-result
invariant_of-result c = subst (λ (ws : List (List Step)). AreListsOf c.args.first ws c.push_place.new.lists.items) (sym c.new.ensures)
    (lists_first c.args.first _ _ c.args.cells c.in_ok-lists.ensures.count c.in_ok-lists.ensures.none c.requires (λ d. c.in_ok-push_place.ensures.ok d))
