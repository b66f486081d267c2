-- The numbers so far are renumbered.
use Rattle.std.proofs.Common.{◌≡◌, map, take}
use Rattle.log_rebase.specs.Rebasing.{new_id}
use Rattle.log_rebase.proofs.renumbering.renumber_all.Given as goal

abbrev pub invariant-loop-id : goal.invariant-loop-id
invariant-loop-id l = l.new.items ≡ map (new_id l.clauses l.units) (take l.id-index l.ids)
