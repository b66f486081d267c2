-- Why `gaps_of` does what its contract says.
use Rattle.std.proofs.Common.{◌∙◌, [], length, sym, arith}
use Rattle.std.specs.Prelude.{slice_index}
use Rattle.clause_list.specs.Numbers.{section_of}
use Rattle.clause_list.specs.Orders.{place_in_section, first_gap}
use Rattle.clause_list.proofs.SectionLaws.{first_of_gaps}
use Rattle.clause_encoder.specs.NetworkStore.{sections_alone}
use Rattle.clause_encoder.proofs.MarkLemmas.{rows_none}
use Rattle.clause_encoder.proofs.NetworkLemmas.{grown, stored_at, gaps_more}
use Rattle.clause_encoder.proofs.network.gaps_of.Goals as goal

pub loop-cell-init : goal.loop-cell-init
loop-cell-init c = (c.new-gaps.ensures.items ∙ sym (rows_none _), sym (first_of_gaps (record { sections = c.args.sections.now; candidates = c.args.candidates; kept = [] })))

pub row-requires : goal.row-requires
row-requires c = (stored_at (section_of (sections_alone c.args.sections.now)) (length c.args.sections.now) c.loop-cell.cell c.args.rows.now [] c.requires.rows c.loop-cell-test.true).0

pub bounds-places-cell : goal.bounds-places-cell
bounds-places-cell c = (stored_at (place_in_section (sections_alone c.args.sections.now)) (length c.args.sections.now) c.loop-cell.cell c.args.places.now 0 c.requires.places c.loop-cell-test.true).0

pub overflow_cast-next : goal.overflow_cast-next
overflow_cast-next c =
    let row = sym (c.row.ensures.item []) ∙ (stored_at (section_of (sections_alone c.args.sections.now)) (length c.args.sections.now) c.loop-cell.cell c.args.rows.now [] c.requires.rows c.loop-cell-test.true).1 in
    let place = stored_at (place_in_section (sections_alone c.args.sections.now)) (length c.args.sections.now) c.loop-cell.cell c.args.places.now 0 c.requires.places c.loop-cell-test.true in
    let more = gaps_more c.args.sections.now c.args.candidates c.loop-cell.cell c.row.result.now (slice_index c.args.places.now c.loop-cell.cell) c.loop-cell.next c.loop-cell-test.true c.requires.few c.requires.few_candidates row place.1 c.loop-cell.invariant.1 in
    omega (arith, more.0, more.1, more.2)

pub overflow_sub-next : goal.overflow_sub-next
overflow_sub-next c =
    let row = sym (c.row.ensures.item []) ∙ (stored_at (section_of (sections_alone c.args.sections.now)) (length c.args.sections.now) c.loop-cell.cell c.args.rows.now [] c.requires.rows c.loop-cell-test.true).1 in
    let place = stored_at (place_in_section (sections_alone c.args.sections.now)) (length c.args.sections.now) c.loop-cell.cell c.args.places.now 0 c.requires.places c.loop-cell-test.true in
    let more = gaps_more c.args.sections.now c.args.candidates c.loop-cell.cell c.row.result.now (slice_index c.args.places.now c.loop-cell.cell) c.loop-cell.next c.loop-cell-test.true c.requires.few c.requires.few_candidates row place.1 c.loop-cell.invariant.1 in
    omega (arith, more.0, more.1, more.2)

pub overflow_sub-next-in-loop-cell : goal.overflow_sub-next-in-loop-cell
overflow_sub-next-in-loop-cell c =
    let row = sym (c.row.ensures.item []) ∙ (stored_at (section_of (sections_alone c.args.sections.now)) (length c.args.sections.now) c.loop-cell.cell c.args.rows.now [] c.requires.rows c.loop-cell-test.true).1 in
    let place = stored_at (place_in_section (sections_alone c.args.sections.now)) (length c.args.sections.now) c.loop-cell.cell c.args.places.now 0 c.requires.places c.loop-cell-test.true in
    let more = gaps_more c.args.sections.now c.args.candidates c.loop-cell.cell c.row.result.now (slice_index c.args.places.now c.loop-cell.cell) c.loop-cell.next c.loop-cell-test.true c.requires.few c.requires.few_candidates row place.1 c.loop-cell.invariant.1 in
    omega (arith, more.0, more.1, more.2)

pub overflow_add-next-in-loop-cell : goal.overflow_add-next-in-loop-cell
overflow_add-next-in-loop-cell c =
    let row = sym (c.row.ensures.item []) ∙ (stored_at (section_of (sections_alone c.args.sections.now)) (length c.args.sections.now) c.loop-cell.cell c.args.rows.now [] c.requires.rows c.loop-cell-test.true).1 in
    let place = stored_at (place_in_section (sections_alone c.args.sections.now)) (length c.args.sections.now) c.loop-cell.cell c.args.places.now 0 c.requires.places c.loop-cell-test.true in
    let more = gaps_more c.args.sections.now c.args.candidates c.loop-cell.cell c.row.result.now (slice_index c.args.places.now c.loop-cell.cell) c.loop-cell.next c.loop-cell-test.true c.requires.few c.requires.few_candidates row place.1 c.loop-cell.invariant.1 in
    omega (arith, more.0, more.1, more.2)

pub loop-cell-preserved : goal.loop-cell-preserved
loop-cell-preserved c =
    let row = sym (c.row.ensures.item []) ∙ (stored_at (section_of (sections_alone c.args.sections.now)) (length c.args.sections.now) c.loop-cell.cell c.args.rows.now [] c.requires.rows c.loop-cell-test.true).1 in
    let place = stored_at (place_in_section (sections_alone c.args.sections.now)) (length c.args.sections.now) c.loop-cell.cell c.args.places.now 0 c.requires.places c.loop-cell-test.true in
    let more = gaps_more c.args.sections.now c.args.candidates c.loop-cell.cell c.row.result.now (slice_index c.args.places.now c.loop-cell.cell) c.loop-cell.next c.loop-cell-test.true c.requires.few c.requires.few_candidates row place.1 c.loop-cell.invariant.1 in
    (grown (first_gap (record { sections = c.args.sections.now; candidates = c.args.candidates; kept = [] })) c.loop-cell.cell _ _ c.loop-cell.next c.loop-cell.invariant.0 c.in_ok-push.ensures.items c.loop-cell.invariant.1, omega (arith, more.0, more.1, more.2, more.3))
