-- What is read of the network's bytes is handed on.
use Rattle.rail_net.specs.declared.parts.NetParts.{NetParts}
use Rattle.net_reader.specs.Readings.{IsReading}
use Rattle.vss_stages.proofs.StageLaws.{hands_value, hands_refusal, stops_by}
use Rattle.vss_jobs.specs.Readings.{network_stop, ReadsNetwork}
use Rattle.vss_jobs.proofs.documents.network_of.Goals as goal

pub returns-in-Ok : goal.returns-in-Ok
returns-in-Ok c = hands_value (IsReading c.args.bytes.now) (λ (p : NetParts). p) network_stop c.in-Ok.net c.in-Ok.ensures

pub returns-in-Err : goal.returns-in-Err
returns-in-Err c =
    rw c.stop_of_network.ensures
    (stops_by (ReadsNetwork c.args.bytes.now) (network_stop c.in-Err.why) (hands_refusal (IsReading c.args.bytes.now) (λ (p : NetParts). p) network_stop c.in-Err.why c.in-Err.ensures))
