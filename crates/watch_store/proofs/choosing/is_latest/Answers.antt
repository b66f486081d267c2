-- Why `is_latest` does what its contract says.
use Rattle.std.proofs.Common.{ap, sym, ◌∙◌}
use Rattle.std.proofs.lemmas.Bool.{eqb-true}
use Rattle.sat_core.specs.Hints.{is_known}
use Rattle.search_trail.specs.Trails.{known_of}
use Rattle.watch_store.proofs.ChooseLemmas.{false_assigned, latest_yes, latest_unknown}
use Rattle.watch_store.proofs.choosing.is_latest.Goals as goal

pub level-requires-clause-assigned : goal.level-requires-clause-assigned
level-requires-clause-assigned c = false_assigned c.args.trail.now.entries c.args.lit (ap (is_known (known_of c.args.trail.now.entries)) (sym c.negated.ensures) ∙ (sym c.is_true.ensures.value ∙ c.if-is_true.true))

pub returns-then-is_true-clause-yes : goal.returns-then-is_true-clause-yes
returns-then-is_true-clause-yes c = λ is. latest_yes c.args.trail.now.entries c.args.lit c.level.result c.args.trail.now.present (ap (is_known (known_of c.args.trail.now.entries)) (sym c.negated.ensures) ∙ (sym c.is_true.ensures.value ∙ c.if-is_true.true)) c.level.ensures.value (eqb-true c.level.result c.now.result is ∙ c.now.ensures.value)

pub returns-clause-no : goal.returns-clause-no
returns-clause-no c = λ _. latest_unknown c.args.trail.now.entries c.args.lit c.args.trail.now.present (ap (is_known (known_of c.args.trail.now.entries)) (sym c.negated.ensures) ∙ (sym c.is_true.ensures.value ∙ c.if-is_true.false))
