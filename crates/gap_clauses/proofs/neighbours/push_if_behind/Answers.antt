-- Why `push_if_behind` does what its contract says.
use Rattle.std.proofs.Common.{refl, ap}
use Rattle.cell_net.specs.declared.ids.CellId.{CellId}
use Rattle.gap_clauses.proofs.NeighbourLemmas.{behind_more, behind_less}
use Rattle.gap_clauses.proofs.WalkLaws.{same_cell}
use Rattle.gap_clauses.proofs.neighbours.push_if_behind.Goals as goal

pub returns-in_ok-push : goal.returns-in_ok-push
returns-in_ok-push c = behind_more _ _ _ _ _ _ c.requires.so_far (c.if-shares.ensures.0 refl) (λ same. c.if-other-cell.false (ap (λ (x : CellId). x.0) same)) c.in_ok-push.ensures.items

pub returns-then-other-cell : goal.returns-then-other-cell
returns-then-other-cell c = behind_less _ _ _ _ _ c.requires.so_far (λ both. both.1 (same_cell _ _ c.if-other-cell.true))

pub returns-else-shares : goal.returns-else-shares
returns-else-shares c = behind_less _ _ _ _ _ c.requires.so_far (λ both. absurd (cc (c.if-shares.ensures.1 both.0)))
