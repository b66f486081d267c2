-- Why `Formula::vars` does what its contract says.
use Rattle.std.proofs.Common.{subst}
use Rattle.std.specs.Prelude.{All}
use Rattle.sat_core.specs.Storage.{FormulaParts}
use Rattle.sat_core.specs.Clauses.{IsClause}
use Rattle.sat_core.proofs.formula.Formula.vars.Goals as goal

pub returns-clause-clauses : goal.returns-clause-clauses
returns-clause-clauses c = subst (λ (formula : FormulaParts). All (IsClause formula.vars) formula.clauses) c.self.view_is c.self.invariant.clauses
