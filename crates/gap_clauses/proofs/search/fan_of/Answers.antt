-- Why `fan_of` does what its contract says.
use Rattle.std.proofs.Common.{◌∙◌, ◌∷◌, [], ap}
use Rattle.gap_clauses.proofs.SearchLemmas.{fan_found, ready_first}
use Rattle.gap_clauses.proofs.search.fan_of.Goals as goal

pub visit-requires : goal.visit-requires
visit-requires c = ready_first _ _ c.args.cell _ c.requires.rules c.requires.rows c.requires.cell (c.in-Ok.ensures ∙ ap (λ n. record { first = c.args.cell; cells = n; walks = [] ∷ [] }) c.cell_count.ensures.value)

pub returns-in-Ok-visit-clause-ok : goal.returns-in-Ok-visit-clause-ok
returns-in-Ok-visit-clause-ok c = fan_found _ c.args.cell c.in-Ok.fan _ c.requires.rules (c.in-Ok.ensures ∙ ap (λ n. record { first = c.args.cell; cells = n; walks = [] ∷ [] }) c.cell_count.ensures.value)
    c.in-Ok-visit.ensures.first c.in-Ok-visit.ensures.cells c.in-Ok-visit.ensures.ok c.is_few.ensures
