-- The timetable's file is read after the network is accepted.
use Rattle.vss_stages.specs.declared.input.Input.TheVariants.{Timetable}
use Rattle.vss_stages.proofs.StageLaws.{then_stops}
use Rattle.vss_stages.proofs.InputLaws.{file_made, file_unread, kept_since}
use Rattle.vss_jobs.specs.Jobs.{IsNetworkOf}
use Rattle.vss_jobs.proofs.KeptFiles.{keeps_first, keeps_two}
use Rattle.vss_jobs.proofs.Stages.{network_lasts}
use Rattle.vss_jobs.proofs.documents.read_documents.Goals as goal

pub returns-in-Ok-read_input-clause-scene : goal.returns-in-Ok-read_input-clause-scene
returns-in-Ok-read_input-clause-scene g c =
    file_made (λ from to. IsNetworkOf from to c.args.names.now.network) _ _ _ Timetable _ _ _ c.in-Ok.net c.in-Ok-read_input.bytes.items _ (network_lasts c.args.names.now.network)
    (kept_since _ _ _ c.in-Ok.ensures.kept) (kept_since _ _ _ c.in-Ok-read_input.ensures.kept)
    (rw c.as_str-network.ensures at c.in-Ok.ensures.network) (rw c.as_str-timetable.ensures at c.in-Ok-read_input.ensures.read) (rw c.as_slice.ensures.value at c.scene_with.ensures)

pub returns-clause-scene : goal.returns-clause-scene
returns-clause-scene g c =
    file_unread (λ from to. IsNetworkOf from to c.args.names.now.network) _ _ _ Timetable _ _ c.in-Ok.net _ (network_lasts c.args.names.now.network)
    (kept_since _ _ _ c.in-Ok.ensures.kept) (kept_since _ _ _ c.in-Err-read_input.ensures.kept)
    (rw c.as_str-network.ensures at c.in-Ok.ensures.network) (rw c.as_str-timetable.ensures at c.in-Err-read_input.ensures.read)

pub returns-in-Err-clause-scene : goal.returns-in-Err-clause-scene
returns-in-Err-clause-scene g c = then_stops _ _ _ (rw c.as_str-network.ensures at c.in-Err.ensures.network)

pub returns-in-Ok-read_input-clause-kept : goal.returns-in-Ok-read_input-clause-kept
returns-in-Ok-read_input-clause-kept g c =
    keeps_two _ _ _ c.args.names.now.network c.args.names.now.timetable (rw c.as_str-network.ensures at c.in-Ok.ensures.kept) (rw c.as_str-timetable.ensures at c.in-Ok-read_input.ensures.kept)

pub returns-clause-kept : goal.returns-clause-kept
returns-clause-kept g c =
    keeps_two _ _ _ c.args.names.now.network c.args.names.now.timetable (rw c.as_str-network.ensures at c.in-Ok.ensures.kept) (rw c.as_str-timetable.ensures at c.in-Err-read_input.ensures.kept)

pub returns-in-Err-clause-kept : goal.returns-in-Err-clause-kept
returns-in-Err-clause-kept g c = keeps_first _ _ c.args.names.now.network c.args.names.now.timetable (rw c.as_str-network.ensures at c.in-Err.ensures.kept)
