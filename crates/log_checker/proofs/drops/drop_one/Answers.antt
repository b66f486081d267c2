-- Why `drop_one` does what its contract says.
use Rattle.std.proofs.Common.{sym}
use Rattle.log_checker.proofs.DropLemmas.{DropsAlso-one, IsLiveNumber-at, IsLiveNumber-gone, IsLiveNumber-missing}
use Rattle.log_checker.proofs.drops.drop_one.Goals as goal

pub returns-then-contains-clause-not_live : goal.returns-then-contains-clause-not_live
returns-then-contains-clause-not_live c = IsLiveNumber-gone c.args.numbers.now c.args.last c.args.dropped.now c.args.id c.in-Some.place c.requires.ascending c.in-Some.ensures.found.0 c.in-Some.ensures.found.1 (sym c.if-contains.ensures)

pub returns-in-None-clause-not_live : goal.returns-in-None-clause-not_live
returns-in-None-clause-not_live c = IsLiveNumber-missing c.args.numbers.now c.args.dropped.now c.args.id c.in-None.ensures.missing

pub returns-else-contains-clause-was_live : goal.returns-else-contains-clause-was_live
returns-else-contains-clause-was_live c = IsLiveNumber-at c.args.numbers.now c.args.dropped.now c.args.id c.in-Some.place c.in-Some.ensures.found.0 c.in-Some.ensures.found.1 (sym c.if-contains.ensures)

pub returns-else-contains-clause-drops : goal.returns-else-contains-clause-drops
returns-else-contains-clause-drops c = DropsAlso-one c.args.numbers.now c.args.last c.args.dropped.now c.insert.new.self c.args.id c.in-Some.place c.requires.ascending c.in-Some.ensures.found.0 c.in-Some.ensures.found.1 c.insert.ensures.own c.insert.ensures.size c.insert.ensures.inserted
