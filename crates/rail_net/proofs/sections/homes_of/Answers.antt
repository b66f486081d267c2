-- Why `homes_of` does what its contract says.
use Rattle.std.proofs.Common.{sym, ◌∙◌}
use Rattle.std.proofs.lemmas.List.{length-map}
use Rattle.rail_net.specs.declared.parts.TrackPart.{TrackPart}
use Rattle.rail_net.proofs.ListingLemmas.{listing_keys}
use Rattle.rail_net.proofs.sections.homes_of.Goals as goal

pub values-requires : goal.values-requires
values-requires c =
    listing_keys c.args.parts.now c.args.listings.now c.len.result (c.len.ensures ∙ sym (length-map c.args.parts.now.tracks (λ (t : TrackPart). t.name))) c.requires.listings
