-- Why `ApartFromPart::write` does what its contract says.
use Rattle.std.proofs.Common.{length, ap, arith}
use Rattle.clause_list.specs.PairClauses.{apart_from}
use Rattle.clause_list.proofs.SectionLaws.{few_in_section}
use Rattle.clause_encoder.proofs.ApartLemmas.{row_length, row_literals, row_some}
use Rattle.clause_encoder.proofs.apart.ApartFromPart.write.Goals as goal

pub write_each-requires-clause-clauses : goal.write_each-requires-clause-clauses
unfolding apart_from
write_each-requires-clause-clauses c = rw c.section_of-cells.ensures.value c.requires.clauses

pub count_apart-requires-clause-some : goal.count_apart-requires-clause-some
count_apart-requires-clause-some c =
    let size = ap length c.section_of-cells.ensures.value in
    omega (arith, row_some c.args.self.now.net.now c.args.cell c.requires.fits.2, size)

pub returns-else-keeps-clause-ok : goal.returns-else-keeps-clause-ok
returns-else-keeps-clause-ok c =
    let size = ap length c.section_of-cells.ensures.value in
    let clauses = row_length c.args.self.now.net.now c.args.self.now.one.now c.args.self.now.other.now c.args.self.now.step c.args.cell in
    let lits = row_literals c.args.self.now.net.now c.args.self.now.one.now c.args.self.now.other.now c.args.self.now.step c.args.cell c.requires.fits.2 in
    c.count_apart.ensures.ok (apart_from c.args.self.now.net.now c.args.self.now.one.now c.args.self.now.other.now c.args.self.now.step c.args.cell) (omega (arith, size, clauses)) (omega (arith, size, lits))

pub returns-else-keeps-clause-err : goal.returns-else-keeps-clause-err
returns-else-keeps-clause-err c =
    let size = ap length c.section_of-cells.ensures.value in
    let clauses = row_length c.args.self.now.net.now c.args.self.now.one.now c.args.self.now.other.now c.args.self.now.step c.args.cell in
    c.count_apart.ensures.err (apart_from c.args.self.now.net.now c.args.self.now.one.now c.args.self.now.other.now c.args.self.now.step c.args.cell) (omega (arith, size, clauses))

pub overflow_cast-cells : goal.overflow_cast-cells
overflow_cast-cells c = omega (arith, ap length c.section_of-cells.ensures.value, few_in_section c.args.self.now.net.now c.args.cell, c.cell_count-few.ensures.few)
