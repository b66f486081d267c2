-- Why `listing_counts` does what its contract says.
use Rattle.std.proofs.Common.{◌<◌, length, subst, sym, ◌∙◌}
use Rattle.std.proofs.lemmas.List.{length-map}
use Rattle.std.proofs.lemmas.Option.{slice_get_within}
use Rattle.rail_net.specs.Parts.{track_names}
use Rattle.rail_net.specs.declared.parts.TrackPart.{TrackPart}
use Rattle.rail_net.proofs.NameLaws.{same_number}
use Rattle.rail_net.proofs.ListingLemmas.{listing_keys, listing_count}
use Rattle.rail_net.proofs.marks.listing_counts.Goals as goal

pub counts-requires : goal.counts-requires
counts-requires c = listing_keys c.args.parts.now c.args.listings.now c.len.result (c.len.ensures ∙ sym (length-map c.args.parts.now.tracks (λ (t : TrackPart). t.name))) c.requires.listings

pub returns : goal.returns
returns c =
    let p = c.args.parts.now in
    record {
      len = c.in_ok-counts.ensures.len ∙ c.len.ensures;
      at_track = λ track name is.
          let low : track < length c.in_ok-counts.counts.items = subst (λ n. track < n) (length-map p.tracks (λ (t : TrackPart). t.name) ∙ sym (c.in_ok-counts.ensures.len ∙ c.len.ensures)) (slice_get_within (track_names p) track name is) in
          c.in_ok-counts.ensures.counts track low
          ∙ listing_count p c.args.listings.now track name (same_number (λ (t : TrackPart). t.name) p.tracks c.requires.new) c.requires.listings is;
    }
