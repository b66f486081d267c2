-- Why `write` of `FamilyOf` does what its contract says.
use Rattle.std.proofs.Common.{◌<◌, length, sym, subst, arith}
use Rattle.std.specs.Prelude.{OnOk, IfErr}
use Rattle.clause_encoder.specs.Writing.{AreClauses, Takes, IsCause}
use Rattle.clause_encoder.specs.Families.{family_of}
use Rattle.clause_encoder.proofs.FamilyLemmas.{family_at, fits_at}
use Rattle.clause_encoder.proofs.family.FamilyOfPart.write.Goals as goal

pub write_family-requires-clause-fits : goal.write_family-requires-clause-fits
write_family-requires-clause-fits g c =
    let all = c.requires.fits.0 in
    let within : c.args.train < length c.args.self.now.tables.now = omega (arith, all.for_each, c.requires.fits.1) in
    fits_at _ _ _ _ _ c.args.train _ _ all within c.table_of.ensures c.numbers_at.ensures

pub write_family-requires-clause-clauses : goal.write_family-requires-clause-clauses
write_family-requires-clause-clauses g c =
    let all = c.requires.fits.0 in
    let within : c.args.train < length c.args.self.now.tables.now = omega (arith, all.for_each, c.requires.fits.1) in
    subst (AreClauses c.args.writer.now.vars) (sym (family_at (family_of c.args.self.now.family) g.M.Moves.table c.args.self.now.inst.now c.args.self.now.tables.now _ c.args.train _ _ within c.table_of.ensures c.numbers_at.ensures)) c.requires.clauses

pub returns-clause-ok : goal.returns-clause-ok
returns-clause-ok g c =
    let all = c.requires.fits.0 in
    let within : c.args.train < length c.args.self.now.tables.now = omega (arith, all.for_each, c.requires.fits.1) in
    subst (λ ys. OnOk c.write_family.result (Takes c.args.writer.now ys c.write_family.new.writer)) (family_at (family_of c.args.self.now.family) g.M.Moves.table c.args.self.now.inst.now c.args.self.now.tables.now _ c.args.train _ _ within c.table_of.ensures c.numbers_at.ensures) c.write_family.ensures.ok

pub returns-clause-err : goal.returns-clause-err
returns-clause-err g c =
    let all = c.requires.fits.0 in
    let within : c.args.train < length c.args.self.now.tables.now = omega (arith, all.for_each, c.requires.fits.1) in
    subst (λ ys. IfErr c.write_family.result (IsCause c.args.writer.now ys)) (family_at (family_of c.args.self.now.family) g.M.Moves.table c.args.self.now.inst.now c.args.self.now.tables.now _ c.args.train _ _ within c.table_of.ensures c.numbers_at.ensures) c.write_family.ensures.err
