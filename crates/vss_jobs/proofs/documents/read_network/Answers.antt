-- The network's bytes are read after its file.
use Rattle.vss_jobs.proofs.documents.read_network.Goals as goal
use Rattle.vss_stages.proofs.StageLaws.{then_ends, then_stops}

pub returns-in-Ok-clause-network : goal.returns-in-Ok-clause-network
returns-in-Ok-clause-network g c = then_ends _ _ _ c.in-Ok.bytes.items _ c.in-Ok.ensures.read (rw c.as_slice.ensures.value at c.network_of.ensures)

pub returns-in-Err-clause-network : goal.returns-in-Err-clause-network
returns-in-Err-clause-network g c = then_stops _ _ _ c.in-Err.ensures.read
