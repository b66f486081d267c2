-- Why `test_numbers` does what its contract says.
use Rattle.std.proofs.Common.{refl}
use Rattle.rail_net.specs.Refusals.{number_rules}
use Rattle.rail_net.specs.declared.refusal.ListKind.TheVariants.{Borders, Tracks}
use Rattle.rail_net.specs.declared.refusal.NetFault.TheVariants.{BorderPlace, LengthRange, LimitRange}
use Rattle.rail_net.proofs.OrderLemmas.{told_place}
use Rattle.rail_net.proofs.build.test_numbers.Goals as goal

pub returns-in-Some-clause-refusal : goal.returns-in-Some-clause-refusal
returns-in-Some-clause-refusal c = told_place (number_rules c.args.parts.now) 0 BorderPlace Borders c.in-Some.item c.named.result c.named.ensures (c.in-Some.item, refl, c.in-Some.ensures)

pub returns-in-Some-first_bad_length-clause-refusal : goal.returns-in-Some-first_bad_length-clause-refusal
returns-in-Some-first_bad_length-clause-refusal c = told_place (number_rules c.args.parts.now) 1 LengthRange Tracks c.in-Some-first_bad_length.item c.named-in-Some-first_bad_length.result c.named-in-Some-first_bad_length.ensures (c.in-None.ensures, (c.in-Some-first_bad_length.item, refl, c.in-Some-first_bad_length.ensures))

pub returns-in-Some-first_bad_limit-clause-refusal : goal.returns-in-Some-first_bad_limit-clause-refusal
returns-in-Some-first_bad_limit-clause-refusal c = told_place (number_rules c.args.parts.now) 2 LimitRange Tracks c.in-Some-first_bad_limit.item c.named-in-Some-first_bad_limit.result c.named-in-Some-first_bad_limit.ensures (c.in-None.ensures, (c.in-None-first_bad_length.ensures, (c.in-Some-first_bad_limit.item, refl, c.in-Some-first_bad_limit.ensures)))
