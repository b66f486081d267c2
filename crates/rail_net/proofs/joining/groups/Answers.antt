-- Why `groups` does what its contract says.
use Rattle.std.proofs.Common.{◌≡◌, length, sym, ap, ◌∙◌, arith}
use Rattle.rail_net.specs.Tables.{track_segment, segments_from}
use Rattle.rail_net.proofs.ZipLemmas.{length_zipped}
use Rattle.rail_net.proofs.joining.groups.Goals as goal

pub groups_of-requires : goal.groups_of-requires
groups_of-requires c =
    let same : length (segments_from c.args.ends.now c.args.homes.now) ≡ length c.args.ends.now = length_zipped track_segment c.args.ends.now c.args.homes.now (sym c.requires.len) in
    let seen : length c.deref.result.now ≡ length (segments_from c.args.ends.now c.args.homes.now) = ap length (c.deref.ensures.value ∙ c.in_ok-segments.ensures) in
    omega arith

pub returns-clause-len : goal.returns-clause-len
returns-clause-len c =
    let same : length (segments_from c.args.ends.now c.args.homes.now) ≡ length c.args.ends.now = length_zipped track_segment c.args.ends.now c.args.homes.now (sym c.requires.len) in
    let seen : length c.deref.result.now ≡ length (segments_from c.args.ends.now c.args.homes.now) = ap length (c.deref.ensures.value ∙ c.in_ok-segments.ensures) in
    c.in_ok-groups.ensures.len ∙ (seen ∙ same)
