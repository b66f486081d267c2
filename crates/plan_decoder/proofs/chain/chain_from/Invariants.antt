-- What the loop of `chain_from` keeps: the items so far, and what comes after the last of them, are the chain.
use Rattle.std.specs.Prelude.{◌-◌, ◌∷◌}
use Rattle.plan_laws.specs.Telling.{follow}
use Rattle.plan_decoder.proofs.ChainLemmas.{IsFollowed}
use Rattle.plan_decoder.proofs.chain.chain_from.Given as goal

abbrev pub invariant-loop-now : goal.invariant-loop-now
invariant-loop-now g l = IsFollowed l.values (g.M.Moves.table l.table l.inst) l.train (l.fn.entry ∷ follow l.values (g.M.Moves.table l.table l.inst) l.train (l.train.by - l.fn.step) l.fn.step l.fn.entry) l.items.items l.now l.last (g.M.Moves.items l.table)
