-- Why `base_fits` does what its contract says.
use Rattle.clause_encoder.proofs.EncodeLemmas.{base_fit}
use Rattle.clause_encoder.proofs.base.base_fits.Goals as goal

pub returns : goal.returns
returns g c = base_fit g.M.Moves.items g.M.Moves.table c.args.inst.now c.args.tables.now _ _ _ _ _ c.parts-parts.ensures.rules c.requires.for_each c.know_tables.ensures.known c.requires.numbers c.requires.variables
