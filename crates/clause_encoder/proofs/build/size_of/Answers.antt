-- Why `size_of` does what its contract says.
use Rattle.std.proofs.Common.{◌≡◌, ◌+◌, ◌≤◌, [], length, take, get_or, ap, arith}
use Rattle.std.specs.List.{sum_by}
use Rattle.std.proofs.lemmas.List.Sums.{sum_by_more_le, sum_by_more}
use Rattle.clause_encoder.proofs.build.size_of.Goals as goal

pub overflow_cast-result : goal.overflow_cast-result
overflow_cast-result c =
    let row : length (get_or c.args.cones.now c.args.step []) ≡ length c.row.result.now = ap length (c.row.ensures.item []) in
    let total : sum_by length (take c.args.step c.args.cones.now) + length (get_or c.args.cones.now c.args.step []) ≤ sum_by length c.args.cones.now = sum_by_more_le length c.args.cones.now c.args.step [] c.requires.within in
    omega (arith, row, total, c.requires.few)

pub returns-clause-few : goal.returns-clause-few
returns-clause-few c =
    let row : length (get_or c.args.cones.now c.args.step []) ≡ length c.row.result.now = ap length (c.row.ensures.item []) in
    let total : sum_by length (take c.args.step c.args.cones.now) + length (get_or c.args.cones.now c.args.step []) ≤ sum_by length c.args.cones.now = sum_by_more_le length c.args.cones.now c.args.step [] c.requires.within in
    omega (arith, row, total)

pub returns-clause-more : goal.returns-clause-more
returns-clause-more c =
    let row : length (get_or c.args.cones.now c.args.step []) ≡ length c.row.result.now = ap length (c.row.ensures.item []) in
    let total : sum_by length (take (c.args.step + 1) c.args.cones.now) ≡ sum_by length (take c.args.step c.args.cones.now) + length (get_or c.args.cones.now c.args.step []) = sum_by_more length c.args.cones.now c.args.step [] c.requires.within in
    omega (arith, row, total)
