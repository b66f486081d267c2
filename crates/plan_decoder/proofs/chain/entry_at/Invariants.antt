-- What the loop of `entry_at` keeps: no item before the place is a told entry.
use Rattle.std.specs.Prelude.{◌≡◌, filter, drop}
use Rattle.clause_list.specs.Numbers.{cone}
use Rattle.plan_laws.specs.Telling.{is_told_entry}
use Rattle.plan_decoder.proofs.chain.entry_at.Given as goal

abbrev pub invariant-loop-place : goal.invariant-loop-place
invariant-loop-place g l = filter (is_told_entry l.values (g.M.Moves.table l.table l.inst) l.train l.step) (cone l.train l.step) ≡ filter (is_told_entry l.values (g.M.Moves.table l.table l.inst) l.train l.step) (drop l.place (cone l.train l.step))
