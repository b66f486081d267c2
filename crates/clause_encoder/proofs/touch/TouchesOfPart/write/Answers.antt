-- Why `write` of `TouchesOf` does what its contract says.
use Rattle.clause_list.specs.RunClauses.{touches_of, touching}
use Rattle.clause_encoder.specs.Fitting.{touching_all}
use Rattle.clause_encoder.proofs.touch.TouchesOfPart.write.Goals as goal

pub write_touched-requires-clause-clauses : goal.write_touched-requires-clause-clauses
unfolding touches_of touching touching_all
write_touched-requires-clause-clauses g c = rw (c.cells.ensures c.args.self.now.inst.now, c.sweep_at-sweep.ensures, c.requires.fits.4) c.requires.clauses

pub returns-clause-ok : goal.returns-clause-ok
unfolding touches_of touching touching_all
returns-clause-ok g c = rw (← c.cells.ensures c.args.self.now.inst.now, ← c.requires.fits.4, ← c.sweep_at-sweep.ensures) c.write_touched.ensures.ok

pub returns-clause-err : goal.returns-clause-err
unfolding touches_of touching touching_all
returns-clause-err g c = rw (← c.cells.ensures c.args.self.now.inst.now, ← c.requires.fits.4, ← c.sweep_at-sweep.ensures) c.write_touched.ensures.err
