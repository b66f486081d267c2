-- Why `propagate` does what its contract says.
use Rattle.std.proofs.Common.{◌<◌, length, arith}
use Rattle.search_trail.proofs.TrailLaws.{Grows-on}
use Rattle.watch_store.proofs.PropagationLemmas.{propagating_start, propagating_more, propagating_visits, propagating_stop}
use Rattle.watch_store.proofs.propagation.propagate.Goals as goal

pub unread-init : goal.unread-init
unread-init g c = propagating_start c.args.table.now c.args.heads.now c.args.nodes.now c.args.trail.now c.args.steps.now c.requires

pub unread-preserved : goal.unread-preserved
unread-preserved g c =
    let unread : c.unread.trail.read < length c.unread.trail.entries = omega (arith, c.read.ensures, c.len.ensures.value, c.unread-test.true) in
    propagating_more c.args.table.now c.unread.heads c.walk.new.heads c.unread.nodes c.walk.new.nodes c.args.trail.now c.unread.trail c.walk.new.trail c.args.steps.now c.unread.steps c.walk.new.steps unread c.walk.ensures.store c.walk.ensures.grows c.walk.ensures.visits c.in-None.ensures.read c.unread.invariant

pub unread-smaller : goal.unread-smaller
unread-smaller g c = omega (arith, c.read.ensures, c.len.ensures.value, c.len.ensures.laws.few, c.unread-test.true, c.in-None.ensures.read, c.walk.ensures.grows.vars)

pub returns-in-Some-clause-visits : goal.returns-in-Some-clause-visits
returns-in-Some-clause-visits g c =
    let unread : c.unread.trail.read < length c.unread.trail.entries = omega (arith, c.read.ensures, c.len.ensures.value, c.unread-test.true) in
    propagating_stop c.args.table.now c.unread.heads c.unread.nodes c.args.trail.now c.unread.trail c.walk.new.trail c.args.steps.now c.unread.steps c.walk.new.steps unread c.walk.ensures.grows c.walk.ensures.visits c.unread.invariant

pub returns-clause-visits : goal.returns-clause-visits
returns-clause-visits g c = propagating_visits c.args.table.now c.unread.heads c.unread.nodes c.args.trail.now c.unread.trail c.args.steps.now c.unread.steps c.unread.invariant

pub returns-clause-all_read : goal.returns-clause-all_read
returns-clause-all_read g c = omega (arith, c.read.ensures, c.len.ensures.value, c.len.ensures.laws.read_within, c.unread-test.false)

pub returns-in-Some-clause-grows : goal.returns-in-Some-clause-grows
returns-in-Some-clause-grows g c = Grows-on c.args.trail.now c.unread.trail c.walk.new.trail c.unread.invariant.grows c.walk.ensures.grows
