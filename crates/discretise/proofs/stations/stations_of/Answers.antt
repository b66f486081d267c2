-- One more station goes to the end.
use Rattle.std.proofs.Common.{◌∙◌, List, ap, subst, sym}
use Rattle.cell_net.specs.declared.ids.CellId.{CellId}
use Rattle.rail_net.specs.declared.parts.NetParts.{NetParts}
use Rattle.discretise.specs.Stations.{IsStationOf}
use Rattle.discretise.proofs.RowLemmas.{zip_read}
use Rattle.discretise.proofs.stations.stations_of.Goals as goal

pub loop-at-preserved : goal.loop-at-preserved
loop-at-preserved c =
    let p = c.args.net.now in
    zip_read (IsStationOf p c.args.tracks.now) p.stations c.as_slice-groups.result.now c.loop-at.stations.items c.push.new.self.items c.loop-at.at c.index-groups-at.result c.from_vec.result
    (c.as_slice-groups.ensures ∙ ap (λ (q : NetParts). q.stations) c.parts.ensures.parts) c.loop-at-test.true c.index-groups-at.is c.loop-at.invariant (subst (λ (cs : List CellId). IsStationOf p c.args.tracks.now c.index-groups-at.result cs) (sym c.from_vec.ensures) c.in_ok-cells.ensures)
    c.in_ok-push.ensures.items
