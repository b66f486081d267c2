-- Why `NetworkNumbers::build` does what its contract says.
use Rattle.std.proofs.Common.{◌≡◌, length, map, [], subst}
use Rattle.clause_list.specs.Ranges.{below}
use Rattle.clause_list.specs.Numbers.{section_of, first_of_trains}
use Rattle.clause_list.specs.Orders.{place_in_section, first_gap}
use Rattle.clause_encoder.specs.NetworkStore.{sections_alone}
use Rattle.clause_encoder.proofs.network.NetworkNumbers.build.Goals as goal

pub invariant_of-result : goal.invariant_of-result
invariant_of-result c = record {
  few = c.in_ok-sections.ensures.few;
  few_candidates = c.candidate_count-candidates.ensures.few;
  rows_are = subst (λ s. c.in_ok-rows.rows ≡ map (section_of (sections_alone s)) (below (length s))) c.deref.ensures.value c.in_ok-rows.ensures;
  places_are = subst (λ s. c.in_ok-places.places.items ≡ map (place_in_section (sections_alone s)) (below (length s))) c.deref-2.ensures.value c.in_ok-places.ensures;
  gaps_are = subst (λ s. c.in_ok-first_gaps.first_gaps.items ≡ map (first_gap (record { sections = s; candidates = c.candidate_count-candidates.result; kept = [] })) (below (length s))) c.deref-3.ensures.value c.in_ok-first_gaps.ensures.gaps;
  behind_is = subst (λ s. c.in_ok-first_gaps.behind ≡ first_of_trains (record { sections = s; candidates = c.candidate_count-candidates.result; kept = [] })) c.deref-3.ensures.value c.in_ok-first_gaps.ensures.behind;
}
