-- What was printed is what is right to say.
use Rattle.std.proofs.Common.{◌≢◌, Err, map, string_bytes}
use Rattle.vss_stages.specs.declared.stop.Stop.TheVariants as stop
use Rattle.vss_run.proofs.Calls.{not_true, right_of, said_ends, said_decides}
use Rattle.vss_run.proofs.ReadBack.{reads_back, fault_reads_back, memory_reads_back}
use Rattle.vss_run.proofs.call.run.Goals as goal

pub returns-in-Ok-clause-ends : goal.returns-in-Ok-clause-ends
returns-in-Ok-clause-ends g c =
    let words = map string_bytes c.args.words.now in
    let files = g.H.Shelf.shown c.args.shelf.now in
    let after = g.H.Shelf.shown c.said_to-said.new.shelf in
    let other : c.said_to-said.result ≢ Err stop.Memory = λ same. not_true c.is_memory.result c.if-is_memory.false (c.is_memory.ensures.1 same) in
    said_ends c.answers_are_true.ensures words files after _ _ _ c.said_to-said.result other (right_of words files after c.said_to-said.result c.said_to-said.ensures.right other) c.in-Ok.ensures.whole c.status_after.ensures

pub returns-in-Ok-clause-decisive : goal.returns-in-Ok-clause-decisive
returns-in-Ok-clause-decisive g c =
    let words = map string_bytes c.args.words.now in
    let files = g.H.Shelf.shown c.args.shelf.now in
    let after = g.H.Shelf.shown c.said_to-said.new.shelf in
    let other : c.said_to-said.result ≢ Err stop.Memory = λ same. not_true c.is_memory.result c.if-is_memory.false (c.is_memory.ensures.1 same) in
    said_decides c.jobs_are_one.ensures c.answers_are_one.ensures words files after _ _ _ c.said_to-said.result other
    (right_of words files after c.said_to-said.result c.said_to-said.ensures.right other) c.in-Ok.ensures.whole c.status_after.ensures

pub returns-in-Ok-clause-read_back : goal.returns-in-Ok-clause-read_back
returns-in-Ok-clause-read_back g c =
    let words = map string_bytes c.args.words.now in
    let files = g.H.Shelf.shown c.args.shelf.now in
    let after = g.H.Shelf.shown c.said_to-said.new.shelf in
    let other : c.said_to-said.result ≢ Err stop.Memory = λ same. not_true c.is_memory.result c.if-is_memory.false (c.is_memory.ensures.1 same) in
    reads_back c.written_reports_are_right.ensures.judged c.written_reports_are_right.ensures.checked words files after _ _ _
    (said_decides c.jobs_are_one.ensures c.answers_are_one.ensures words files after _ _ _ c.said_to-said.result other
    (right_of words files after c.said_to-said.result c.said_to-said.ensures.right other) c.in-Ok.ensures.whole c.status_after.ensures)

pub returns-clause-ends : goal.returns-clause-ends
returns-clause-ends g c =
    let words = map string_bytes c.args.words.now in
    let files = g.H.Shelf.shown c.args.shelf.now in
    let after = g.H.Shelf.shown c.said_to-said.new.shelf in
    let other : c.said_to-said.result ≢ Err stop.Memory = λ same. not_true c.is_memory.result c.if-is_memory.false (c.is_memory.ensures.1 same) in
    record { said = c.said_to-said.result; right = right_of words files after c.said_to-said.result c.said_to-said.ensures.right other; front = c.in-Err.ensures.front }

pub returns-clause-read_back : goal.returns-clause-read_back
returns-clause-read_back g c =
    fault_reads_back (map string_bytes c.args.words.now) (g.H.Shelf.shown c.args.shelf.now) (g.H.Shelf.shown c.said_to-said.new.shelf) (g.K.Sink.shown c.args.out.now) (g.K.Sink.shown c.print_said.new.out)

pub returns-then-is_memory-clause-read_back : goal.returns-then-is_memory-clause-read_back
returns-then-is_memory-clause-read_back g c =
    memory_reads_back (map string_bytes c.args.words.now) (g.H.Shelf.shown c.args.shelf.now) (g.H.Shelf.shown c.said_to-said.new.shelf) (g.K.Sink.shown c.args.out.now) (g.K.Sink.shown c.args.out.now)
