-- Why `write_walk` does what its contract says.
use Rattle.std.proofs.Common.{[], refl, arith}
use Rattle.std.specs.Prelude.{slice_index_or}
use Rattle.clause_list.specs.Coding.{walks_in}
use Rattle.clause_encoder.specs.WalkFitting.{on_walk_alone}
use Rattle.clause_encoder.proofs.WalkLemmas.{walk_literals}
use Rattle.clause_encoder.proofs.gaps.write_walk.Goals as goal

pub returns-else-keeps-clause-ok : goal.returns-else-keeps-clause-ok
returns-else-keeps-clause-ok c = c.take_counted.ensures.ok (on_walk_alone c.args.number (slice_index_or (walks_in c.args.gaps.now c.args.cell c.args.other) c.args.walk [])) refl
    (omega (arith, walk_literals c.args.number (slice_index_or (walks_in c.args.gaps.now c.args.cell c.args.other) c.args.walk []), c.candidate_count-candidates.ensures))

pub returns-else-keeps-clause-err : goal.returns-else-keeps-clause-err
returns-else-keeps-clause-err c = c.take_counted.ensures.err (on_walk_alone c.args.number (slice_index_or (walks_in c.args.gaps.now c.args.cell c.args.other) c.args.walk [])) refl
