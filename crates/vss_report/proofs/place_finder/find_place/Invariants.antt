-- No place before this one, from the first on, has that name.
use Rattle.std.proofs.Common.{◌<◌, ◌≤◌}
use Rattle.cell_net.specs.declared.ids.CandidateId.{CandidateId}
use Rattle.vss_report.specs.Found.{name_of_place}
use Rattle.vss_report.specs.Names.{IsPlaceOf}
use Rattle.vss_report.proofs.place_finder.find_place.Given as goal

abbrev pub invariant-loop-place : goal.invariant-loop-place
invariant-loop-place l = (candidate : CandidateId) → l.initial.from ≤ candidate.0 → candidate.0 < l.place → ¬ IsPlaceOf l.scene.labels (name_of_place l.name) candidate
