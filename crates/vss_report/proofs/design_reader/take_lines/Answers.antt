-- Why `take_lines` does what its contract says.
use Rattle.std.proofs.Common.{◌≡◌, refl}
use Rattle.vss_report.specs.Places.{place_after}
use Rattle.vss_report.proofs.CountLemmas.{some_left, none_left}
use Rattle.vss_report.proofs.DesignLemmas.{IsTakenTo-none, IsTakenTo-more, stands, faulty_line, wrong_line_here, wrong_line_behind, is_whole}
use Rattle.vss_report.proofs.design_reader.take_lines.Goals as goal

pub loop-alloc-init : goal.loop-alloc-init
loop-alloc-init c = IsTakenTo-none c.args.scene.now.labels c.args.bytes.now c.new-parts.result (c.new-parts.ensures c.args.scene.now.labels)

pub loop-alloc-preserved : goal.loop-alloc-preserved
loop-alloc-preserved c =
    let line = c.in-Ok.ensures.found in
    let to = c.loop-alloc.invariant in
    let place_is : c.after-place.result ≡ place_after c.loop-alloc.place line.line = c.after-place.ensures line.line line.says in
    let taken = c.in-Ok-take.ensures.ok line.line line.says to.read.lines
    (stands c.args.scene.now.labels c.args.bytes.now c.loop-alloc.number c.loop-alloc.place c.loop-alloc.rest.now c.loop-alloc.parts line.line to line.fits) to.taken in
    rw place_is (IsTakenTo-more c.args.scene.now.labels c.args.bytes.now c.loop-alloc.number c.loop-alloc.place c.loop-alloc.rest.now c.in-Ok.behind.now line.line c.loop-alloc.parts c.take.new.self to line.fits line.is_front taken)

pub returns-in-Err-take-clause-fault : goal.returns-in-Err-take-clause-fault
returns-in-Err-take-clause-fault c =
    let line = c.in-Ok.ensures.found in
    let to = c.loop-alloc.invariant in
    faulty_line c.args.scene.now.labels c.args.bytes.now c.loop-alloc.number c.loop-alloc.place c.loop-alloc.rest.now c.in-Ok.behind.now line.line c.loop-alloc.parts c.in-Err-take.fault to line.fits line.is_front
    (c.in-Err-take.ensures.err line.line line.says to.read.lines (stands c.args.scene.now.labels c.args.bytes.now c.loop-alloc.number c.loop-alloc.place c.loop-alloc.rest.now c.loop-alloc.parts line.line to line.fits) to.taken)

pub returns-in-Err-clause-fault : goal.returns-in-Err-clause-fault
returns-in-Err-clause-fault c =
    wrong_line_here c.args.scene.now.labels c.args.bytes.now c.loop-alloc.number c.loop-alloc.place c.loop-alloc.rest.now c.loop-alloc.parts c.in-Err.fault c.loop-alloc.invariant c.in-Err.ensures.wrong

pub returns-then-not-is_empty-clause-fault : goal.returns-then-not-is_empty-clause-fault
returns-then-not-is_empty-clause-fault c =
    wrong_line_behind c.args.scene.now.labels c.args.bytes.now c.loop-alloc.number c.loop-alloc.place c.loop-alloc.rest.now c.loop-alloc.parts (c.loop-alloc-test.ensures.0 refl) c.loop-alloc.invariant
    (some_left c.loop-alloc.rest.now c.is_empty.result c.is_empty.ensures c.if-not-is_empty.true)

pub returns : goal.returns
returns c = record {
  parts = is_whole c.args.scene.now.labels c.args.bytes.now c.loop-alloc.number c.loop-alloc.place c.loop-alloc.rest.now c.loop-alloc.parts (c.loop-alloc-test.ensures.0 refl)
      (none_left c.loop-alloc.rest.now c.is_empty.result c.is_empty.ensures c.if-not-is_empty.false) c.loop-alloc.invariant;
  fault = tt;
}
