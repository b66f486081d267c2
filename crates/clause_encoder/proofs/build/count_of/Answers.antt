-- Why `count_of` does what its contract says.
use Rattle.std.proofs.Common.{◌≡◌, ◌+◌, ◌-◌, min, max, length, arith}
use Rattle.clause_list.specs.Ranges.{from_below}
use Rattle.clause_list.proofs.ListLaws.{length-from_below}
use Rattle.clause_encoder.proofs.build.count_of.Goals as goal

pub returns : goal.returns
returns c =
    let later : c.later.result ≡ max c.args.stop.from c.args.start = c.later.ensures in
    let earlier : c.earlier.result ≡ min c.args.stop.until (c.args.by + 1) = c.earlier.ensures in
    let size : length (from_below (max c.args.stop.from c.args.start) (min c.args.stop.until (c.args.by + 1) + 1 - c.args.stop.dwell)) ≡ min c.args.stop.until (c.args.by + 1) + 1 - c.args.stop.dwell - max c.args.stop.from c.args.start = length-from_below _ _ in
    omega (arith, size, later, earlier)
