-- Why `gaps_of` does what its contract says.
use Rattle.std.proofs.Common.{length, subst}
use Rattle.gap_clauses.specs.Searched.{AreSearchedBelow}
use Rattle.gap_clauses.proofs.GapLaws.{first_crowded}
use Rattle.gap_clauses.proofs.build.gaps_of.Goals as goal

pub returns-in-Some-clause-refusal : goal.returns-in-Some-clause-refusal
returns-in-Some-clause-refusal c = first_crowded c.args.search.now.inst.now c.in-Some.section c.in-Ok.found.fans.items
    (subst (λ lowest. AreSearchedBelow c.args.search.now.inst.now (length c.args.search.now.inst.now.cells) lowest c.in-Ok.found.fans.items) c.in-Some.is c.in-Ok.ensures)
