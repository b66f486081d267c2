-- Why `read_net` does what its contract says.
use Rattle.vss_json.proofs.DocumentLaws.{some_stated}
use Rattle.net_reader.specs.Document.{document}
use Rattle.net_reader.proofs.ReadLemmas.{are_named}
use Rattle.net_reader.proofs.reader.read_net.Goals as goal

pub new-requires-clause-named : goal.new-requires-clause-named
new-requires-clause-named c = are_named c.in-Ok.parts c.in-Ok-test_names.ensures.kept c.in-Ok.ensures.keeps

pub returns-in-Err-Memory-new : goal.returns-in-Err-Memory-new
returns-in-Err-Memory-new c = some_stated document c.args.bytes.now c.in-Ok.parts c.in-Ok.ensures.read
