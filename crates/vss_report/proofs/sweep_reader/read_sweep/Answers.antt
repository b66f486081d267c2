-- Why `read_sweep` does what its contract says.
use Rattle.std.proofs.lemmas.List.{take_rest}
use Rattle.vss_report.specs.Found.{name_of_cell}
use Rattle.vss_report.proofs.CountLemmas.{none_left, some_left}
use Rattle.vss_report.proofs.SweepLemmas.{AreFound-none, AreFound-more, no_miss, all_found, one_unknown}
use Rattle.vss_report.proofs.sweep_reader.read_sweep.Goals as goal

pub loop-rest-init : goal.loop-rest-init
loop-rest-init c = rw c.new-cells.ensures.items (AreFound-none c.args.scene.now.labels c.args.text.now c.requires)

pub returns-in_default : goal.returns-in_default
returns-in_default c =
    one_unknown c.args.scene.now.labels c.args.text.now c.loop-rest.rest.now c.in-Ok.behind.now c.loop-rest.cells.items (name_of_cell c.in-Ok.named) c.loop-rest.invariant
    (some_left c.loop-rest.rest.now c.is_empty.result c.is_empty.ensures c.loop-rest-test.true) c.in-Ok.ensures.fits (rw take_rest at c.in-Ok.ensures.found) c.in_default.ensures.none

pub loop-rest-preserved : goal.loop-rest-preserved
loop-rest-preserved c =
    rw c.in_ok-push-in-Ok.ensures.items
    (AreFound-more c.args.scene.now.labels c.args.text.now c.loop-rest.rest.now c.in-Ok.behind.now c.loop-rest.cells.items (name_of_cell c.in-Ok.named) c.in-Some.found c.loop-rest.invariant
    (some_left c.loop-rest.rest.now c.is_empty.result c.is_empty.ensures c.loop-rest-test.true) c.in-Ok.ensures.fits (rw take_rest at c.in-Ok.ensures.found) c.in-Some.ensures.found)

pub unreachable-requires : goal.unreachable-requires
unreachable-requires c =
    no_miss c.args.scene.now.labels c.args.text.now c.loop-rest.rest.now c.loop-rest.cells.items c.in-Err.field-0 c.loop-rest.invariant
    (some_left c.loop-rest.rest.now c.is_empty.result c.is_empty.ensures c.loop-rest-test.true) (rw take_rest at c.in-Err.ensures.missed)

pub returns : goal.returns
returns c = λ cells is_text.
    let none = none_left c.loop-rest.rest.now c.is_empty.result c.is_empty.ensures c.loop-rest-test.false in
    rw c.from_vec.ensures (all_found c.args.scene.now.labels c.args.text.now c.loop-rest.rest.now c.loop-rest.cells.items none c.loop-rest.invariant cells is_text)
