-- Why `kept_places` does what its contract says.
use Rattle.std.proofs.Common.{◌≡◌, ◌<◌, Bool, List, [], length, get_or, Some, refl, sym, ap, subst, ◌∙◌, arith}
use Rattle.std.specs.List.{range_with_len}
use Rattle.std.proofs.lemmas.Option.{slice_get-get_or}
use Rattle.cell_net.specs.declared.ids.NodeId.{NodeId}
use Rattle.discretise.specs.Picks.{Picks}
use Rattle.discretise.specs.Places.{IsKeptPlace}
use Rattle.discretise.proofs.KeptLemmas.{kept_more}
use Rattle.discretise.proofs.kept.kept_places.Goals as goal

pub loop-number-init : goal.loop-number-init
loop-number-init c = ([], refl, c.new-kept.ensures.items)

pub loop-number-preserved : goal.loop-number-preserved
loop-number-preserved c =
    let p = c.args.net.now in
    let n = c.loop-number.number in
    let nodes : List NodeId = c.args.candidates.now in
    let place : NodeId = get_or nodes n (record { 0 = 0 }) in
    let within : place.0 < c.args.nodes = c.requires.within n (record { 0 = 0 }) c.loop-number-test.true in
    let told : Bool = c.index-is_kept.result.now in
    kept_more p c.args.timetable.now c.args.tracks.now nodes n c.loop-number.invariant.0 c.loop-number.kept.items c.add_if.new.kept.items told place c.loop-number.invariant.1 c.loop-number.invariant.2
    (slice_get-get_or nodes n (record { 0 = 0 }) c.loop-number-test.true)
    (c.in_ok-marks.ensures.each place.0 told (slice_get-get_or c.in_ok-marks.marks.items place.0 told (subst (λ m. place.0 < m) (sym c.in_ok-marks.ensures.count) within) ∙ ap Some (sym c.index-is_kept.ensures))) c.in_ok-add_if.ensures

pub returns : goal.returns
returns c =
    let same : c.loop-number.number ≡ length c.args.candidates.now = omega arith in
    record {
      numbers = c.loop-number.invariant.0;
      picked = subst (λ n. Picks (IsKeptPlace c.args.net.now c.args.timetable.now c.args.tracks.now c.args.candidates.now) (range_with_len 0 n) c.loop-number.invariant.0) same c.loop-number.invariant.1;
      are = c.loop-number.invariant.2;
    }
