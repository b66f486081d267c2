-- Why `is_listed_once` does what its contract says.
use Rattle.std.proofs.Common.{◌≤◌, subst, sym}
use Rattle.std.specs.Prelude.{slice_index}
use Rattle.std.proofs.lemmas.Bool.{leb-true, le-leb}
use Rattle.rail_net.specs.Parts.{IsTrack}
use Rattle.rail_net.specs.declared.parts.TrackPart.{TrackPart}
use Rattle.rail_net.proofs.ListLaws.{map_at}
use Rattle.rail_net.proofs.rules.tracks.is_listed_once.Goals as goal

pub returns : goal.returns
returns c =
    let p = c.args.parts.now in
    let t = c.args.item.now in
    let is : IsTrack p t.name c.args.place = map_at (λ (x : TrackPart). x.name) p.tracks c.args.place t c.requires.its in
    let count = c.requires.counts.at_track c.args.place t.name is in
    (λ t. subst (λ n. n ≤ 1) count (leb-true (slice_index c.args.counts.now c.args.place) 1 t), λ few. le-leb (slice_index c.args.counts.now c.args.place) 1 (subst (λ n. n ≤ 1) (sym count) few))
