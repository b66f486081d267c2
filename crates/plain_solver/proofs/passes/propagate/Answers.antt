-- Why `propagate` does what its contract says.
use Rattle.search_trail.proofs.TrailLaws.{Grows-on}
use Rattle.plain_solver.proofs.passes.propagate.Goals as goal

pub returns-in-Some-clause-grows : goal.returns-in-Some-clause-grows
returns-in-Some-clause-grows c = Grows-on c.args.trail.now c.passes.trail c.pass.new.trail c.passes.invariant.1 c.pass.ensures.grows
