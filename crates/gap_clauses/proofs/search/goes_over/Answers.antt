-- Why `goes_over` does what its contract says.
use Rattle.std.proofs.Common.{◌∙◌, inl, inr, sym}
use Rattle.std.proofs.lemmas.Bool.{cases_Bool}
use Rattle.gap_clauses.specs.Fans.{ends_over, walk_at}
use Rattle.gap_clauses.proofs.OnceLaws.{over_ends}
use Rattle.gap_clauses.proofs.search.goes_over.Goals as goal

pub returns-then-at_last : goal.returns-then-at_last
returns-then-at_last c = elim (cases_Bool (ends_over c.args.node (walk_at c.args.fan.now.walks c.args.place))) [
  | inl last ↦ c.ends_over.ensures ∙ (last ∙ sym (over_ends c.args.node _ last))
  | inr other ↦ c.ends_over.ensures ∙ (other ∙ sym (c.requires.at_last c.if-at_last.true other))
]
