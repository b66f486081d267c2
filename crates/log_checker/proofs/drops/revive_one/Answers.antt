-- Why `revive_one` does what its contract says.
use Rattle.log_checker.proofs.DropLemmas.{Revives-one}
use Rattle.log_checker.proofs.drops.revive_one.Goals as goal

pub returns-in-Some : goal.returns-in-Some
returns-in-Some c = Revives-one c.args.numbers.now c.args.last c.args.dropped.now c.remove.new.self c.args.id c.in-Some.place c.requires.ascending c.in-Some.ensures.found.0 c.in-Some.ensures.found.1 c.remove.ensures.own c.remove.ensures.size c.remove.ensures.removed
