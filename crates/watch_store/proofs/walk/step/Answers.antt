-- Why `step` does what its contract says.
use Rattle.std.proofs.Common.{sym, ◌∙◌}
use Rattle.search_trail.specs.Trails.{known_of}
use Rattle.watch_store.proofs.StepLemmas.{lits_in, partner_in, before_in, found_in, home_in, step_kept, step_moved, step_forced, step_conflict}
use Rattle.watch_store.proofs.walk.step.Goals as goal

pub read_clause-requires-clause-in_range : goal.read_clause-requires-clause-in_range
read_clause-requires-clause-in_range c = lits_in c.args.table.now c.args.heads.now c.args.nodes.now c.args.trail.now c.args.home c.requires.0 c.args.node c.requires.1 c.args.before c.args.node c.clause.result.now c.clause.ensures c.requires.2

pub read_clause-requires-clause-partner : goal.read_clause-requires-clause-partner
read_clause-requires-clause-partner c = partner_in c.args.table.now c.args.heads.now c.args.nodes.now c.args.trail.now c.args.home c.requires.0 c.args.node c.requires.1 c.args.before c.args.node c.other.result _ c.other.ensures c.requires.2

pub relink-requires-clause-before : goal.relink-requires-clause-before
relink-requires-clause-before c = λ b is. before_in c.args.table.now c.args.heads.now c.args.nodes.now c.args.trail.now c.args.home c.requires.0 c.args.node c.requires.1 c.args.before c.args.node b is c.requires.2

pub relink-requires-clause-variable : goal.relink-requires-clause-variable
relink-requires-clause-variable c = (found_in c.args.trail.now.vars c.clause.result.now c.in-Moved.lit (lits_in c.args.table.now c.args.heads.now c.args.nodes.now c.args.trail.now c.args.home c.requires.0 c.args.node c.requires.1 c.args.before c.args.node c.clause.result.now c.clause.ensures c.requires.2) c.in-Moved.ensures.0).0

pub relink-requires-clause-to : goal.relink-requires-clause-to
relink-requires-clause-to c = home_in c.args.trail.now.vars c.args.heads.now c.in-Moved.lit c.requires.2.fits.room (found_in c.args.trail.now.vars c.clause.result.now c.in-Moved.lit (lits_in c.args.table.now c.args.heads.now c.args.nodes.now c.args.trail.now c.args.home c.requires.0 c.args.node c.requires.1 c.args.before c.args.node c.clause.result.now c.clause.ensures c.requires.2) c.in-Moved.ensures.0)

pub assign-requires-clause-in_range : goal.assign-requires-clause-in_range
assign-requires-clause-in_range c = partner_in c.args.table.now c.args.heads.now c.args.nodes.now c.args.trail.now c.args.home c.requires.0 c.args.node c.requires.1 c.args.before c.args.node c.other.result _ c.other.ensures c.requires.2

pub is_true-requires : goal.is_true-requires
is_true-requires c = record { in_range = partner_in c.args.table.now c.args.heads.now c.args.nodes.now c.args.trail.now c.args.home c.requires.0 c.args.node c.requires.1 c.args.before c.args.node c.other.result _ c.other.ensures c.requires.2 }

pub returns-then-is_true-clause-tells : goal.returns-then-is_true-clause-tells
returns-then-is_true-clause-tells c = λ kept rest mid. step_kept c.args.table.now c.args.heads.now c.args.nodes.now c.args.trail.now c.args.home kept c.args.node rest c.args.before c.args.node c.other.result _ c.other.ensures (sym c.is_true.ensures.value ∙ c.if-is_true.true) mid

pub returns-in-Moved-clause-tells : goal.returns-in-Moved-clause-tells
returns-in-Moved-clause-tells c = λ kept rest mid. step_moved c.args.table.now c.args.heads.now c.relink.new.heads c.args.nodes.now c.relink.new.nodes c.args.trail.now c.args.home kept c.args.node rest c.args.before c.args.node c.other.result _ c.clause.result.now c.in-Moved.lit c.other.ensures c.clause.ensures c.in-Moved.ensures.0 c.in-Moved.ensures.1 c.in-Moved.ensures.2 c.relink.auto.heads c.relink.ensures.watches (c.relink.ensures.walk kept rest c.args.node) mid

pub returns-in-Forced-clause-tells : goal.returns-in-Forced-clause-tells
returns-in-Forced-clause-tells c = λ kept rest mid. step_forced c.args.table.now c.args.heads.now c.args.nodes.now c.args.trail.now c.assign.new.self c.args.home kept c.args.node rest c.args.before c.args.node c.other.result _ _ c.clause.result.now c.other.ensures c.number.ensures c.clause.ensures c.in-Forced.ensures.0 c.in-Forced.ensures.1 c.assign.ensures.one_more mid

pub returns-in-Conflict-clause-tells : goal.returns-in-Conflict-clause-tells
returns-in-Conflict-clause-tells c = λ kept rest mid. (mid, step_conflict c.args.table.now (known_of c.args.trail.now.entries) c.clause.result.now c.args.node _ c.clause.ensures c.in-Conflict.ensures.0 c.in-Conflict.ensures.1)
