-- Why `test_names` does what its contract says.
use Rattle.vss_lists.specs.Orders.{IsFirstBroken}
use Rattle.net_reader.proofs.naming.test_names.Goals as goal

pub returns-in-Some-clause-broken : goal.returns-in-Some-clause-broken
unfolding IsFirstBroken
returns-in-Some-clause-broken c = (0, (c.in-Some.item, c.in_list.ensures, c.in-Some.ensures))

pub returns-in-Some-first_bad_track-clause-broken : goal.returns-in-Some-first_bad_track-clause-broken
unfolding IsFirstBroken
returns-in-Some-first_bad_track-clause-broken c = (1, (c.in-None.ensures, (c.in-Some-first_bad_track.item, c.in_list-in-Some-first_bad_track.ensures, c.in-Some-first_bad_track.ensures)))

pub returns-in-Some-first_bad_section-clause-broken : goal.returns-in-Some-first_bad_section-clause-broken
unfolding IsFirstBroken
returns-in-Some-first_bad_section-clause-broken c = (2, (c.in-None.ensures, (c.in-None-first_bad_track.ensures, (c.in-Some-first_bad_section.item, c.in_list-in-Some-first_bad_section.ensures, c.in-Some-first_bad_section.ensures))))

pub returns-in-Some-first_bad_station-clause-broken : goal.returns-in-Some-first_bad_station-clause-broken
unfolding IsFirstBroken
returns-in-Some-first_bad_station-clause-broken c = (3, (c.in-None.ensures, (c.in-None-first_bad_track.ensures, (c.in-None-first_bad_section.ensures, (c.in-Some-first_bad_station.item, c.in_list-in-Some-first_bad_station.ensures, c.in-Some-first_bad_station.ensures)))))
