-- Why `formulas_are_one` does what its contract says.
use Rattle.formula_laws.proofs.OneTable.{tables_are_one}
use Rattle.formula_laws.proofs.OneClauseList.{clauses_are_one}
use Rattle.formula_laws.proofs.OneRefusal.{refusals_are_one, refusals_exclude}
use Rattle.formula_laws.proofs.laws.formulas_are_one.Goals as goal

pub returns-clause-tables : goal.returns-clause-tables
returns-clause-tables c = tables_are_one

pub returns-clause-clauses : goal.returns-clause-clauses
returns-clause-clauses c p = clauses_are_one p (c.walks_are_unique.ensures p)

pub returns-clause-refusals : goal.returns-clause-refusals
returns-clause-refusals c p = refusals_are_one p (c.walks_are_unique.ensures p)

pub returns-clause-formula : goal.returns-clause-formula
returns-clause-formula c p = refusals_exclude p (c.walks_are_unique.ensures p)
