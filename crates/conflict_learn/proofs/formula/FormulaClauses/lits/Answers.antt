-- Why `FormulaClauses::lits` does what its contract says.
use Rattle.std.proofs.Common.{inl, inr, arith}
use Rattle.conflict_learn.proofs.FormulaLemmas.{clause_of-outside, clause_of-inside}
use Rattle.conflict_learn.proofs.formula.FormulaClauses.lits.Goals as goal

pub returns-then-id-lt1 : goal.returns-then-id-lt1
returns-then-id-lt1 c = clause_of-outside c.args.self.now.clauses 1 c.args.id (inl (omega arith))

pub returns-then-len-id : goal.returns-then-len-id
returns-then-len-id c = clause_of-outside c.args.self.now.clauses 1 c.args.id (inr (omega (arith, c.len.ensures)))

pub returns : goal.returns
returns c = clause_of-inside c.args.self.now.clauses c.args.id c.clause.result.now (omega arith) (omega (arith, c.len.ensures)) c.clause.ensures.lits
