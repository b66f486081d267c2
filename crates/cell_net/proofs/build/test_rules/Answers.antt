-- Why `test_rules` does what its contract says.
use Rattle.std.proofs.Common.{◌≡◌, ◌∙◌, ap, arith, length, rules}
use Rattle.std.proofs.lemmas.List.{length-map}
use Rattle.vss_lists.specs.Orders.{IsFirstBroken}
use Rattle.cell_net.proofs.RuleLemmas.{few_candidates, few_cells, few_trains}
use Rattle.cell_net.proofs.build.test_rules.Goals as goal

pub first_bad_section-requires-clause-few : goal.first_bad_section-requires-clause-few
first_bad_section-requires-clause-few c =
    let few = few_cells c.args.parts.now c.in_default.ensures in
    let each : length c.in_ok-segments.segments.items ≡ length c.args.parts.now.cells = ap length c.in_ok-segments.ensures ∙ simp length-map in
    rw c.deref-2.ensures.value (omega arith)

pub returns-then-not-has_good_steps : goal.returns-then-not-has_good_steps
unfolding IsFirstBroken
returns-then-not-has_good_steps c = (0, search rules)

pub returns-in-Some : goal.returns-in-Some
unfolding IsFirstBroken
returns-in-Some c = (1, search rules)

pub returns-in-Some-first_bad_join : goal.returns-in-Some-first_bad_join
unfolding IsFirstBroken
returns-in-Some-first_bad_join c = (2, search rules)

pub returns-in-Some-2 : goal.returns-in-Some-2
unfolding IsFirstBroken
returns-in-Some-2 c = (3, search rules)

pub returns-in-Some-first_bad_candidate : goal.returns-in-Some-first_bad_candidate
unfolding IsFirstBroken
returns-in-Some-first_bad_candidate c = (4, search rules)

pub returns-in-Some-first_bad_kept : goal.returns-in-Some-first_bad_kept
unfolding IsFirstBroken
returns-in-Some-first_bad_kept c = (5, search rules)

pub returns-in-Some-first_bad_station : goal.returns-in-Some-first_bad_station
unfolding IsFirstBroken
returns-in-Some-first_bad_station c = (6, search rules)

pub returns-in-Some-first_bad_train : goal.returns-in-Some-first_bad_train
unfolding IsFirstBroken
returns-in-Some-first_bad_train c = (7, search rules)

pub returns : goal.returns
returns c = record {
  steps = search rules;
  cells = c.in_default.ensures;
  joins = c.in_default-first_bad_join.ensures;
  sections = search rules;
  candidates = c.in_default-first_bad_candidate.ensures;
  kept = c.in_default-first_bad_kept.ensures;
  stations = c.in_default-first_bad_station.ensures;
  trains = c.in_default-first_bad_train.ensures;
  few_cells = few_cells c.args.parts.now c.in_default.ensures;
  few_candidates = few_candidates c.args.parts.now c.in_default-first_bad_candidate.ensures;
  few_trains = few_trains c.args.parts.now c.in_default-first_bad_train.ensures;
  few_stops = c.requires.stops;
}
