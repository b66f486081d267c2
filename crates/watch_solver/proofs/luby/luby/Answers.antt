-- Why `luby` does what its contract says.
use Rattle.std.proofs.Common.{◌/◌, refl, arith}
use Rattle.watch_solver.proofs.LubyLemmas.{in_block_start, in_low_half, in_high_half, at_block_end}
use Rattle.watch_solver.proofs.luby.luby.Goals as goal

pub halving-init : goal.halving-init
halving-init c = (in_block_start c.args.number c.requires (omega (arith, c.ranges.number.fits)), omega arith)

pub halving-preserved-then-half-rest : goal.halving-preserved-then-half-rest
halving-preserved-then-half-rest c = (in_high_half c.args.number c.halving.rest c.halving.size (c.halving.size / 2) refl c.halving-test.true c.if-half-rest.true c.halving.invariant.0, omega (arith, c.halving.invariant.1))

pub halving-preserved : goal.halving-preserved
halving-preserved c = (in_low_half c.args.number c.halving.rest c.halving.size (c.halving.size / 2) refl c.halving-test.true (omega (arith, c.if-half-rest.false)) c.halving.invariant.0, omega (arith, c.halving.invariant.1))

pub returns-clause-item : goal.returns-clause-item
returns-clause-item c = at_block_end c.args.number c.halving.rest c.halving.size (omega (arith, c.halving-test.false)) c.halving.invariant.0
