-- Why `built` does what its contract says.
use Rattle.std.proofs.Common.{sym, subst}
use Rattle.cell_net.specs.Labelled.{AreLabelsOf}
use Rattle.cell_net.specs.Rules.{IsInstance}
use Rattle.cell_net.specs.declared.parts.InstanceParts.{InstanceParts}
use Rattle.discretise.proofs.InstanceLemmas.{is_instance}
use Rattle.discretise.proofs.LabelLemmas.{labelled}
use Rattle.discretise.proofs.SceneLemmas.{IsShortOf, short}
use Rattle.discretise.proofs.scene.built.Goals as goal

pub build-requires-clause-cells : goal.build-requires-clause-cells
build-requires-clause-cells c =
    let p = c.args.net.now in
    let t = c.args.timetable.now in
    let grid = c.requires.grid in
    let parts = c.in_ok-parts.parts in
    let net = c.parts-parts.ensures.rules in
    let instance : IsInstance parts = is_instance p t c.args.grid.tracks.items c.args.grid.joints.items parts net c.requires.timetable c.requires.kept grid.tracks grid.are_joints c.in_ok-parts.ensures.parts in
    let few : IsShortOf parts = short p t c.args.grid.tracks.items c.args.grid.joints.items parts net instance c.in_ok-parts.ensures.parts in
    few.cells

pub build-requires-clause-candidates : goal.build-requires-clause-candidates
build-requires-clause-candidates c =
    let p = c.args.net.now in
    let t = c.args.timetable.now in
    let grid = c.requires.grid in
    let parts = c.in_ok-parts.parts in
    let net = c.parts-parts.ensures.rules in
    let instance : IsInstance parts = is_instance p t c.args.grid.tracks.items c.args.grid.joints.items parts net c.requires.timetable c.requires.kept grid.tracks grid.are_joints c.in_ok-parts.ensures.parts in
    let few : IsShortOf parts = short p t c.args.grid.tracks.items c.args.grid.joints.items parts net instance c.in_ok-parts.ensures.parts in
    few.candidates

pub build-requires-clause-kept : goal.build-requires-clause-kept
build-requires-clause-kept c =
    let p = c.args.net.now in
    let t = c.args.timetable.now in
    let grid = c.requires.grid in
    let parts = c.in_ok-parts.parts in
    let net = c.parts-parts.ensures.rules in
    let instance : IsInstance parts = is_instance p t c.args.grid.tracks.items c.args.grid.joints.items parts net c.requires.timetable c.requires.kept grid.tracks grid.are_joints c.in_ok-parts.ensures.parts in
    let few : IsShortOf parts = short p t c.args.grid.tracks.items c.args.grid.joints.items parts net instance c.in_ok-parts.ensures.parts in
    few.kept

pub build-requires-clause-stations : goal.build-requires-clause-stations
build-requires-clause-stations c =
    let p = c.args.net.now in
    let t = c.args.timetable.now in
    let grid = c.requires.grid in
    let parts = c.in_ok-parts.parts in
    let net = c.parts-parts.ensures.rules in
    let instance : IsInstance parts = is_instance p t c.args.grid.tracks.items c.args.grid.joints.items parts net c.requires.timetable c.requires.kept grid.tracks grid.are_joints c.in_ok-parts.ensures.parts in
    let few : IsShortOf parts = short p t c.args.grid.tracks.items c.args.grid.joints.items parts net instance c.in_ok-parts.ensures.parts in
    few.stations

pub build-requires-clause-trains : goal.build-requires-clause-trains
build-requires-clause-trains c =
    let p = c.args.net.now in
    let t = c.args.timetable.now in
    let grid = c.requires.grid in
    let parts = c.in_ok-parts.parts in
    let net = c.parts-parts.ensures.rules in
    let instance : IsInstance parts = is_instance p t c.args.grid.tracks.items c.args.grid.joints.items parts net c.requires.timetable c.requires.kept grid.tracks grid.are_joints c.in_ok-parts.ensures.parts in
    let few : IsShortOf parts = short p t c.args.grid.tracks.items c.args.grid.joints.items parts net instance c.in_ok-parts.ensures.parts in
    few.trains

pub build-requires-clause-stops : goal.build-requires-clause-stops
build-requires-clause-stops c =
    let p = c.args.net.now in
    let t = c.args.timetable.now in
    let grid = c.requires.grid in
    let parts = c.in_ok-parts.parts in
    let net = c.parts-parts.ensures.rules in
    let instance : IsInstance parts = is_instance p t c.args.grid.tracks.items c.args.grid.joints.items parts net c.requires.timetable c.requires.kept grid.tracks grid.are_joints c.in_ok-parts.ensures.parts in
    let few : IsShortOf parts = short p t c.args.grid.tracks.items c.args.grid.joints.items parts net instance c.in_ok-parts.ensures.parts in
    few.stops

pub invariant_of-result : goal.invariant_of-result
invariant_of-result c =
    let p = c.args.net.now in
    let t = c.args.timetable.now in
    let grid = c.requires.grid in
    let parts = c.in_ok-parts.parts in
    let net = c.parts-parts.ensures.rules in
    let labels : AreLabelsOf parts c.in_ok-labels.labels = labelled p t c.args.grid.tracks.items c.args.grid.joints.items net c.requires.timetable grid.tracks grid.are_joints parts c.in_ok-labels.labels c.in_ok-parts.ensures.parts c.in_ok-labels.ensures in
    record { labelled = subst (λ (j : InstanceParts). AreLabelsOf j c.in_ok-labels.labels) (sym c.in-Ok.ensures.parts) labels }

pub unreachable-requires : goal.unreachable-requires
unreachable-requires c =
    let p = c.args.net.now in
    let t = c.args.timetable.now in
    let grid = c.requires.grid in
    let parts = c.in_ok-parts.parts in
    let net = c.parts-parts.ensures.rules in
    let instance : IsInstance parts = is_instance p t c.args.grid.tracks.items c.args.grid.joints.items parts net c.requires.timetable c.requires.kept grid.tracks grid.are_joints c.in_ok-parts.ensures.parts in
    c.refusals_are_exclusive.ensures.instance parts c.in-Err.refusal c.in_default.not-Memory c.in-Err.ensures.refusal instance
