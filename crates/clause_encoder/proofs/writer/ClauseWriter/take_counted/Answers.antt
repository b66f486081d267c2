-- Why `ClauseWriter::take_counted` does what its contract says.
use Rattle.clause_encoder.proofs.writer.ClauseWriter.take_counted.Goals as goal
