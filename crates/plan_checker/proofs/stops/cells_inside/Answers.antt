-- Why `cells_inside` does what its contract says.
use Rattle.std.proofs.Common.{arith, subst, sym}
use Rattle.plan_checker.specs.Stations.{MarksStation}
use Rattle.plan_checker.proofs.StopLemmas.{station_marks, written_back}
use Rattle.plan_checker.proofs.stops.cells_inside.Goals as goal

pub returns : goal.returns
returns c =
    let whole = written_back c.mark.new.inside _ c.in_ok-inside.inside.len (omega arith) in
    subst (MarksStation c.args.inst.now c.args.station) (sym whole)
    (station_marks c.args.inst.now c.args.station c.station.result.now c.mark.new.inside c.station.ensures.value c.mark.ensures)
