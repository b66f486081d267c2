-- The texts one behind another.
use Rattle.std.proofs.Common.{◌++◌}
use Rattle.std.specs.Prelude.{codes}
use Rattle.std.specs.List.{flat_map, range_with_len}
use Rattle.std.proofs.lemmas.Result.{on_ok_weaker}
use Rattle.case_maker.specs.Networks.{tracks_of, tracks_text}
use Rattle.case_maker.proofs.LoopLemmas.{joined}
use Rattle.case_maker.proofs.network.put_tracks.Goals as goal

pub returns : goal.returns
unfolding tracks_text
returns c =
    let first = codes ",\"tracks\":[{\"name\":\"l0\",\"from\":\"W\",\"to\":\"x1\",\"length_m\":2500}" in
    let each = flat_map (tracks_of c.args.seed c.args.size) (range_with_len 1 c.args.size) in
    let upto-2 = joined c.args.out.now.items first c.put.new.out.items c.put_each_tracks.new.out.items each c.in_ok-put.ensures c.in_ok-put_each_tracks.ensures in
    on_ok_weaker c.put-2.result (λ end. joined c.args.out.now.items (first ++ each) c.put_each_tracks.new.out.items c.put-2.new.out.items (codes "]") upto-2 end) c.put-2.ensures
