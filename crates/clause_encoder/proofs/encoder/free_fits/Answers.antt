-- Why `free_fits` does what its contract says.
use Rattle.clause_encoder.proofs.EncodeLemmas.{count_fit}
use Rattle.clause_encoder.proofs.encoder.free_fits.Goals as goal

pub returns : goal.returns
returns g c = count_fit g.M.Moves.items g.M.Moves.table c.args.inst.now c.args.tables.now _ _ _ _ _ c.parts-parts.ensures.rules c.requires.for_each c.know_tables.ensures.known c.requires.numbers c.requires.variables
