-- Why `scene_of` does what its contract says.
use Rattle.std.proofs.Common.{sym, subst}
use Rattle.std.specs.Prelude.{All}
use Rattle.vss_lists.specs.Orders.{AreKept}
use Rattle.rail_net.specs.Rules.{IsGoodLimit}
use Rattle.rail_net.specs.declared.parts.NetParts.{NetParts}
use Rattle.rail_net.specs.declared.parts.TrackPart.{TrackPart}
use Rattle.discretise.specs.Refusals.{RefusesCut, size_rules, track_rules, train_rules}
use Rattle.discretise.proofs.RuleLemmas.{later, sooner}
use Rattle.discretise.proofs.SceneLemmas.{limits_good}
use Rattle.std.specs.Prelude.{◌++◌}
use Rattle.discretise.proofs.scene.scene_of.Goals as goal

pub returns-in-Err : goal.returns-in-Err
returns-in-Err c =
    let p = c.args.net.now in
    let t = c.args.timetable.now in
    sooner (size_rules p t) (track_rules p t ++ train_rules t) c.in-Err.refusal c.in-Err.ensures.refusal

pub test_tracks-requires-clause-limits : goal.test_tracks-requires-clause-limits
test_tracks-requires-clause-limits c =
    subst (λ (q : NetParts). All (λ (x : TrackPart). IsGoodLimit x.limit_kmh) q.tracks) (sym c.parts.ensures.parts) (limits_good c.args.net.now c.parts.ensures.rules)

pub returns-in-Err-test_tracks : goal.returns-in-Err-test_tracks
returns-in-Err-test_tracks c =
    let p = c.args.net.now in
    let t = c.args.timetable.now in
    let its : NetParts = c.parts.result.now in
    let refuses : RefusesCut (track_rules p t) c.in-Err-test_tracks.refusal = subst (λ (q : NetParts). RefusesCut (track_rules q t) c.in-Err-test_tracks.refusal) c.parts.ensures.parts c.in-Err-test_tracks.ensures.refusal in
    later (size_rules p t) (track_rules p t ++ train_rules t) c.in-Err-test_tracks.refusal c.in-Ok.ensures.kept (sooner (track_rules p t) (train_rules t) c.in-Err-test_tracks.refusal refuses)

pub returns-in-Err-test_trains : goal.returns-in-Err-test_trains
returns-in-Err-test_trains c =
    let p = c.args.net.now in
    let t = c.args.timetable.now in
    let kept : AreKept (track_rules p t) = subst (λ (q : NetParts). AreKept (track_rules q t)) c.parts.ensures.parts c.in-Ok-test_tracks.ensures.kept in
    later (size_rules p t) (track_rules p t ++ train_rules t) c.in-Err-test_trains.refusal c.in-Ok.ensures.kept (later (track_rules p t) (train_rules t) c.in-Err-test_trains.refusal kept c.in-Err-test_trains.ensures.refusal)
