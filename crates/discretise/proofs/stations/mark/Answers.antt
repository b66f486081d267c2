-- Why `mark` does what its contract says.
use Rattle.std.proofs.Common.{◌≡◌, ◌<◌, inl, inr, ℕ, Bool, true, List, length, set, Some, slice_get, sym, subst, ap, ◌∙◌}
use Rattle.std.proofs.lemmas.List.{length-set, length-map}
use Rattle.std.proofs.lemmas.Option.{same_Some, slice_get_within}
use Rattle.rail_net.specs.Parts.{IsTrack, track_names}
use Rattle.rail_net.specs.Refusals.{IsNet}
use Rattle.rail_net.specs.declared.parts.TrackPart.{TrackPart}
use Rattle.rail_net.specs.declared.parts.NetParts.{NetParts}
use Rattle.rail_net.proofs.NameLaws.{same_number}
use Rattle.discretise.specs.Stations.{MarksName}
use Rattle.discretise.proofs.RowLemmas.{mark_cases}
use Rattle.discretise.proofs.stations.mark.Goals as goal

marked : (p : NetParts) (name : List ℕ) (old : List Bool) (number : ℕ) → IsNet p → length old ≡ length p.tracks → IsTrack p name number → MarksName p name old (set old number true)
marked p name old number net long is =
    let within : number < length old = subst (λ n. number < n) (sym long) (subst (λ n. number < n) (length-map p.tracks (λ (t : TrackPart). t.name)) (slice_get_within (track_names p) number name is)) in record {
      count = length-set old number true;
      each = λ k mark its at named. elim (mark_cases old number k mark within at) [
        | inl here ↦ inl (same_Some its name (sym named ∙ (ap (slice_get (track_names p)) here.0 ∙ is)), here.1)
        | inr other ↦ inr (λ same. other.0 (same_number (λ (t : TrackPart). t.name) p.tracks net.new_tracks k number name (named ∙ ap Some same) is), other.1)
      ];
    }

pub returns-in-Some : goal.returns-in-Some
returns-in-Some c = marked c.args.net.now c.args.name.now c.args.marks.now.items c.in-Some.number c.parts-parts.ensures.rules c.requires c.in-Some.ensures
