-- What the loop of `read_refutation` keeps from turn to turn.
use Rattle.std.specs.Prelude.{length}
use Rattle.vss_report.specs.Gathered.{AreGathered}
use Rattle.vss_report.proofs.RefutationLemmas.{IsReadTo}
use Rattle.vss_report.proofs.refutation.read_refutation.Given as goal

-- the report is read up to here, and what its lines give is gathered
abbrev pub invariant-loop-alloc : goal.invariant-loop-alloc
invariant-loop-alloc l = record {
  read : IsReadTo l.bytes l.number l.place l.rest;
  gathered : AreGathered read.lines l.gathered;
}

abbrev pub decreases-loop-alloc : goal.decreases-loop-alloc
decreases-loop-alloc l = length l.rest
